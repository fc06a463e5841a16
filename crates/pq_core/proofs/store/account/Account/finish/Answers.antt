use Rattle.std.proofs.Common.{◌-◌, refl, sym, ◌∙◌, arith}
use Rattle.pq_core.proofs.Lists.{get_within}
use Rattle.pq_core.proofs.AccountMoves.{read_at, stage_within, room_left, finish_kept}
use Rattle.pq_core.proofs.store.account.Account.finish.Goals as goal

pub index-requires : goal.index-requires
index-requires g c =
    let h = rw (← c.self.view_is) at c.requires.running.1 in
    let ok = c.self.inside.stages.ok.0 in
    rw ok (get_within _ _ _ h.here)

pub begun-begun-requires : goal.begun-begun-requires
begun-begun-requires g c =
    let h = rw (← c.self.view_is) at c.requires.running.1 in
    (c.requires.running.0, read_at c.self.inside.stages.items (c.args.number - c.self.inside.seen) _ _ h.here c.index.ensures)

pub push_back_reserved-requires : goal.push_back_reserved-requires
push_back_reserved-requires g c =
    let h = rw (← c.self.view_is) at c.requires.running.1 in
    let ok = c.self.inside.made.ok.0 in
    rw ok (room_left _ _ _ _ _ c.self.invariant h refl)

pub new-requires-clause-below : goal.new-requires-clause-below
new-requires-clause-below g c =
    let h = rw (← c.self.view_is) at c.requires.running.1 in
    let within = stage_within _ _ _ h in
    let bound = c.self.invariant.bounded in
    let e = c.requires.number in
    omega arith

pub index_mut-requires : goal.index_mut-requires
index_mut-requires g c =
    let h = rw (← c.self.view_is) at c.requires.running.1 in
    let ok = c.self.inside.stages.ok.0 in
    rw ok (get_within _ _ _ h.here)

pub invariant_of-self : goal.invariant_of-self
invariant_of-self g c =
    let h = rw (← c.self.view_is) at c.requires.running.1 in
    let e = c.push_back_reserved.ensures in
    rw (c.make.ensures, e.items, e.capacity, c.new.ensures) (finish_kept _ _ _ _ _ _ c.self.invariant h refl c.requires.number)

pub returns : goal.returns
returns g c =
    let h = rw (← c.self.view_is) at c.requires.running.1 in
    let e = read_at c.self.inside.stages.items (c.args.number - c.self.inside.seen) _ _ h.here c.index.ensures in
    rw (← c.self.view_is) (c.begun-begun.result, rw (sym e ∙ c.begun-begun.ensures) at h, rw (c.make.ensures, c.new.ensures) refl)
