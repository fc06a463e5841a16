use Rattle.std.proofs.Common.{◌≡◌, take}
use Rattle.pq_memo.specs.Writes.{ring_keys}
use Rattle.pq_memo.proofs.writing.ring.copy_keys.Given as goal

abbrev pub invariant-loop-i : goal.invariant-loop-i
invariant-loop-i g l = l.keys.items ≡ ring_keys (take l.i l.members)
