use Rattle.std.proofs.Common.{◌-◌, length}
use Rattle.pq_lex.proofs.BlockWalks.{IsLineWalk}
use Rattle.pq_lex.proofs.blocks.block_of_line.Given as goal

abbrev pub invariant-walk : goal.invariant-walk
invariant-walk l = IsLineWalk l.blocks l.line l.index l.start l.left

abbrev pub decreases-walk : goal.decreases-walk
decreases-walk l = length l.blocks - l.index
