use Rattle.std.proofs.Common.{take}
use Rattle.pq_memo.specs.Table.{memo_at}
use Rattle.pq_memo.specs.Frames.{AreMembers}
use Rattle.pq_memo.proofs.table.memos.Memos.members_of.Given as goal

abbrev pub invariant-loop-i : goal.invariant-loop-i
invariant-loop-i g l =
    AreMembers g.R.Key.Ord.cmp (g.R.Rules.machine l.self.rules) l.inputs.history l.inputs.revision (memo_at g.R.Key.Ord.cmp l.self.places) (take l.i l.frames) l.members.items
