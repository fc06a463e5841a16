use Rattle.pq_lex.proofs.LineSearch.{offset_is_known}
use Rattle.pq_lex.proofs.laws.largest_offset.Goals as goal

pub returns : goal.returns
returns c = offset_is_known
