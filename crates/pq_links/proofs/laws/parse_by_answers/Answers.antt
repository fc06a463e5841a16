use Rattle.pq_links.proofs.ByAnswers.{parse_given}
use Rattle.pq_links.proofs.laws.parse_by_answers.Goals as goal

pub returns : goal.returns
returns g c = record { gives = λ loose. parse_given loose g.S.LinkKeys.input g.S.LinkKeys.text }
