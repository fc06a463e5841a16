use Rattle.std.proofs.Common.{◌-◌, length}
use Rattle.pq_lex.proofs.BlockEdits.{IsCutTo}
use Rattle.pq_lex.proofs.blocks.cut.Given as goal

abbrev pub invariant-walk : goal.invariant-walk
invariant-walk l = IsCutTo l.text l.at l.blocks.items

abbrev pub decreases-walk : goal.decreases-walk
decreases-walk l = length l.text - l.at
