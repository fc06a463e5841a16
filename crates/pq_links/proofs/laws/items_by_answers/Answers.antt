use Rattle.pq_links.proofs.ByAnswers.{items_given}
use Rattle.pq_links.proofs.laws.items_by_answers.Goals as goal

pub returns : goal.returns
returns g c = record { gives = items_given g.S.LinkKeys.parse g.S.LinkKeys.parsed }
