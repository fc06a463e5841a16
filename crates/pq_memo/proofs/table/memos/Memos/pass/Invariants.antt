use Rattle.std.proofs.Common.{take}
use Rattle.pq_rules.specs.Relations.{Each}
use Rattle.pq_memo.specs.Look.{IsStill}
use Rattle.pq_memo.specs.Table.{memo_at, HasIn}
use Rattle.pq_memo.proofs.table.memos.Memos.pass.Given as goal

abbrev pub invariant-loop-i : goal.invariant-loop-i
invariant-loop-i g l =
    Each (IsStill (g.R.Rules.machine l.self.rules) l.inputs.history l.inputs.revision (HasIn (memo_at g.R.Key.Ord.cmp l.self.places)) l.since) (take l.i l.reads)
