use Rattle.std.proofs.Common.{◌-◌, refl, sym, ◌∙◌}
use Rattle.pq_core.proofs.Lists.{get_within}
use Rattle.pq_core.proofs.AccountMoves.{read_at, stage_kept}
use Rattle.pq_core.proofs.store.account.Account.start.Goals as goal

pub index_mut-requires : goal.index_mut-requires
index_mut-requires g c =
    let h = rw (← c.self.view_is) at c.requires.2 in
    let ok = c.self.inside.stages.ok.0 in
    rw ok (get_within _ _ _ h.here)

pub start-requires : goal.start-requires
start-requires g c =
    let h = rw (← c.self.view_is) at c.requires.2 in
    (c.requires.0, c.requires.1, read_at c.self.inside.stages.items (c.args.number - c.self.inside.seen) _ _ h.here c.index_mut.ensures.value)

pub invariant_of-self : goal.invariant_of-self
invariant_of-self g c =
    let h = rw (← c.self.view_is) at c.requires.2 in
    let w = c.start.ensures in
    rw w.2 (stage_kept _ _ _ _ _ _ c.self.invariant h refl refl)

pub returns : goal.returns
returns g c =
    let h = rw (← c.self.view_is) at c.requires.2 in
    let w = c.start.ensures in
    let e = read_at c.self.inside.stages.items (c.args.number - c.self.inside.seen) _ _ h.here c.index_mut.ensures.value in
    rw (← c.self.view_is) (w.0, rw (sym e ∙ w.1) at h, rw w.2 refl)
