use Rattle.pq_links.proofs.ByAnswers.{imports_given}
use Rattle.pq_links.proofs.laws.imports_by_answers.Goals as goal

pub returns : goal.returns
returns g c = record { gives = imports_given g.S.LinkKeys.items g.S.LinkKeys.itemed }
