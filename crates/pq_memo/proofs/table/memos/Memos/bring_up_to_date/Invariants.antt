use Rattle.std.proofs.Common.{◌≡◌}
use Rattle.pq_memo.specs.Sound.{sources_at}
use Rattle.pq_memo.specs.Table.{memo_at}
use Rattle.pq_memo.specs.aux.Demand.{Caused, Going, weight}
use Rattle.pq_memo.proofs.table.memos.Memos.bring_up_to_date.Given as goal

abbrev pub invariant-steps : goal.invariant-steps
invariant-steps g l = record {
  rules : l.self.rules ≡ l.fn.self.rules;
  going : Going g.R.Key.Ord.cmp (g.R.Rules.machine l.self.rules) l.inputs (g.R.Rules.reach l.self.rules (sources_at l.inputs.history l.inputs.revision) l.key) l.key
      (memo_at g.R.Key.Ord.cmp l.fn.self.places) (memo_at g.R.Key.Ord.cmp l.self.places) l.stack l.carried.items;
  caused : Caused (g.R.Rules.machine l.self.rules) l.inputs (memo_at g.R.Key.Ord.cmp l.self.places) l.stack;
}

abbrev pub decreases-steps : goal.decreases-steps
decreases-steps g l =
    weight g.R.Key.Ord.cmp (g.R.Rules.machine l.self.rules) l.inputs.revision (g.R.Rules.reach l.self.rules (sources_at l.inputs.history l.inputs.revision) l.key)
    (memo_at g.R.Key.Ord.cmp l.self.places) l.stack
