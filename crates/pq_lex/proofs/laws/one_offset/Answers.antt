use Rattle.pq_lex.proofs.ComingBack.{one}
use Rattle.pq_lex.proofs.laws.one_offset.Goals as goal

pub returns : goal.returns
returns c = one
