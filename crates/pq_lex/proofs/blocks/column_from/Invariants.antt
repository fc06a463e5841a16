use Rattle.std.proofs.Common.{◌-◌, length}
use Rattle.pq_lex.proofs.BlockWalks.{IsColumnWalk}
use Rattle.pq_lex.proofs.blocks.column_from.Given as goal

abbrev pub invariant-walk : goal.invariant-walk
invariant-walk l = IsColumnWalk l.blocks l.at l.column l.index l.start l.left

abbrev pub decreases-walk : goal.decreases-walk
decreases-walk l = length l.blocks - l.index
