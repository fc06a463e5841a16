use Rattle.pq_lex.proofs.Offsets.{offsets}
use Rattle.pq_lex.proofs.laws.offsets_of_lines.Goals as goal

pub returns : goal.returns
returns c = offsets
