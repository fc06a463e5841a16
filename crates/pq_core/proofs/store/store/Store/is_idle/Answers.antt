use Rattle.std.proofs.Common.{ℕ, List, length, sym, ◌∙◌, ap, eq-eqb}
use Rattle.std.proofs.lemmas.Bool.{eqb-true}
use Rattle.pq_core.specs.Told.{told_puts}
use Rattle.pq_core.proofs.StoreResting.{no_length, not_both, all_true, waits_not_idle, runs_not_idle, all_idle}
use Rattle.pq_core.proofs.store.store.Store.is_idle.Goals as goal

pub returns-then-not-is_empty : goal.returns-then-not-is_empty
returns-then-not-is_empty g c =
    rw (← c.self.view_is)
    (λ l s. (
      λ t. absurd (cc),
      λ rest. absurd (waits_not_idle g.R.Key.Ord.cmp (g.R.Rules.machine c.self.inside.memos.rules) g.M.Stamp.point told_puts _ c.self.inside.waiting.seats l c.self.invariant.queue
          (λ none. not_both c.is_empty.result c.if-not-is_empty.true
          (c.is_empty.ensures ∙ eq-eqb _ 0 (ap (λ (xs : List (ℕ × ℕ)). length xs) none))) s rest.0),
    ))

pub returns : goal.returns
returns g c =
    rw (← c.self.view_is)
    (λ l s. (
      λ t. all_idle g.R.Key.Ord.cmp (g.R.Rules.machine c.self.inside.memos.rules) g.M.Stamp.point told_puts _ l s
          (rw (no_length c.self.inside.waiting.seats (eqb-true _ 0 (sym c.is_empty.ensures ∙ c.if-not-is_empty.false))) at c.self.invariant.queue)
          (c.is_empty-2.ensures.0 t),
      λ rest. all_true c.is_empty-2.result
          (λ e. runs_not_idle g.R.Key.Ord.cmp (g.R.Rules.machine c.self.inside.memos.rules) g.M.Stamp.point told_puts _ l s
          (λ none. e (c.is_empty-2.ensures.1 none)) rest.1),
    ))
