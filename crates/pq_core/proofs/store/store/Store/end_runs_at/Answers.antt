use Rattle.std.proofs.Common.{refl, sym, ◌∙◌}
use Rattle.pq_core.proofs.Making.{go_on_same}
use Rattle.pq_core.proofs.TurnOfRuns.{not_turned, turned_if}
use Rattle.pq_core.proofs.store.store.Store.end_runs_at.Goals as goal

pub returns-then-is_turn-clause-turned : goal.returns-then-is_turn-clause-turned
returns-then-is_turn-clause-turned g c =
    turned_if g.R.Key.Ord.cmp g.R.Rules.machine g.M.Stamp.point _ (sym c.is_turn.ensures ∙ c.if-is_turn.true) c.args.self.now c.end_runs.new.self c.end_runs.ensures

pub returns-clause-goes_on : goal.returns-clause-goes_on
returns-clause-goes_on g c = go_on_same _ _ (λ k. refl)

pub returns-clause-turned : goal.returns-clause-turned
returns-clause-turned g c = not_turned g.R.Key.Ord.cmp g.R.Rules.machine g.M.Stamp.point _ (sym c.is_turn.ensures ∙ c.if-is_turn.false) c.args.self.now
