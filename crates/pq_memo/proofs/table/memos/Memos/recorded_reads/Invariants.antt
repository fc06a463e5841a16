use Rattle.std.proofs.Common.{◌≡◌, take}
use Rattle.pq_memo.proofs.table.memos.Memos.recorded_reads.Given as goal

abbrev pub invariant-loop-i : goal.invariant-loop-i
invariant-loop-i g l = l.recorded.items ≡ take l.i l.reads
