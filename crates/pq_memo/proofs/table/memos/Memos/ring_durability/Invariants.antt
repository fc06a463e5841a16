use Rattle.std.proofs.Common.{take}
use Rattle.pq_memo.specs.Table.{memo_at, HasIn}
use Rattle.pq_memo.specs.aux.Durabilities.{IsLeastRead, IsFrontRead}
use Rattle.pq_memo.proofs.table.memos.Memos.ring_durability.Given as goal

abbrev pub invariant-loop-i : goal.invariant-loop-i
invariant-loop-i g l =
    IsLeastRead (g.R.Rules.machine l.self.rules) l.inputs.files (HasIn (memo_at g.R.Key.Ord.cmp l.self.places)) (IsFrontRead (take l.i l.members)) l.least
