use Rattle.std.proofs.Common.{◌≡◌, ◌++◌, ◌∷◌, []}
use Rattle.pq_memo.specs.Table.{memo_at, KeptOver}
use Rattle.pq_memo.specs.Frames.{frame_keys}
use Rattle.pq_memo.specs.aux.Demand.{HasConfirmed}
use Rattle.pq_memo.proofs.table.memos.Memos.confirm.Given as goal

abbrev pub invariant-marks : goal.invariant-marks
invariant-marks g l = record {
  rules : l.self.rules ≡ l.fn.self.rules;
  kept : KeptOver g.R.Key.Ord.cmp (g.R.Rules.machine l.fn.self.rules) l.inputs l.self.places;
  confirmed : HasConfirmed (g.R.Rules.machine l.fn.self.rules) l.inputs.revision (memo_at g.R.Key.Ord.cmp l.fn.self.places) (memo_at g.R.Key.Ord.cmp l.self.places)
      (frame_keys (l._stack ++ l.frame ∷ []));
}
