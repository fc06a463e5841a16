use Rattle.pq_links.proofs.ByAnswers.{links_given}
use Rattle.pq_links.proofs.laws.links_by_answers.Goals as goal

pub returns : goal.returns
returns g c = record { gives = links_given g.S.LinkKeys.imports g.S.LinkKeys.linked g.S.LinkKeys.imported g.S.LinkKeys.links }
