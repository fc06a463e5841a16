use Rattle.std.proofs.Common.{take}
use Rattle.pq_rules.specs.Relations.{In}
use Rattle.pq_memo.proofs.table.memos.has_key.Given as goal

abbrev pub invariant-loop-i : goal.invariant-loop-i
invariant-loop-i g l = In l.key (take l.i l.keys) → ⊥
