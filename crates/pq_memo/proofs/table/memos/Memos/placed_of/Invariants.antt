use Rattle.std.proofs.Common.{◌≡◌, take}
use Rattle.pq_memo.proofs.table.memos.Memos.placed_of.Given as goal

abbrev pub invariant-loop-i : goal.invariant-loop-i
invariant-loop-i g l = l.placed.items ≡ take l.i l.members
