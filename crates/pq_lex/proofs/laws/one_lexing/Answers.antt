use Rattle.pq_lex.proofs.Readings.{one}
use Rattle.pq_lex.proofs.laws.one_lexing.Goals as goal

pub returns : goal.returns
returns c = one
