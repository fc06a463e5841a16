use Rattle.pq_core.specs.Told.{told_ledger}
use Rattle.pq_core.proofs.CoreLeaving.{not_both, not_true, true_not, rests, rest_none, rest_idle}
use Rattle.pq_core.proofs.lanes.cores.Core.is_at_rest.Goals as goal

pub returns-then-not-is_idle : goal.returns-then-not-is_idle
returns-then-not-is_idle g c =
    rw (← c.self.view_is)
    (λ l s. (
      λ t. absurd (cc),
      λ rest. absurd (not_both c.is_idle.result c.if-not-is_idle.true ((c.is_idle.ensures (told_ledger g.O.Outbox.puts l) s.store).1 (rest_idle g.O.Outbox.puts l rest))),
    ))

pub returns : goal.returns
returns g c =
    rw (← c.self.view_is)
    (λ l s.
    let idle = (c.is_idle.ensures (told_ledger g.O.Outbox.puts l) s.store).0 c.if-not-is_idle.false in (
      λ t. rests g.R.Key.Ord.cmp (g.R.Rules.machine c.self.inside.store.rules) g.M.Stamp.point g.O.Outbox.puts c.self.inside.store c.self.inside.lanes l s idle.0 idle.1 (λ w. not_both c.has_ready.result (not_true c.has_ready.result t) (c.has_ready.ensures.1 w)),
      λ rest. true_not c.has_ready.result (λ e. rest_none g.R.Key.Ord.cmp (g.R.Rules.machine c.self.inside.store.rules) g.M.Stamp.point g.O.Outbox.puts c.self.inside.store c.self.inside.lanes l s rest (c.has_ready.ensures.0 e)),
    ))
