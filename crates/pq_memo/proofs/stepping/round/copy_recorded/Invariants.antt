use Rattle.std.proofs.Common.{◌≡◌, take}
use Rattle.pq_memo.proofs.stepping.round.copy_recorded.Given as goal

abbrev pub invariant-loop-i : goal.invariant-loop-i
invariant-loop-i g l = l.copies.items ≡ take l.i l.reads
