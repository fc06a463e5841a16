use Rattle.std.proofs.Common.{◌≡◌, ◌-◌, refl, sym, ◌∙◌, arith}
use Rattle.pq_core.proofs.Lists.{get_within, set_twice}
use Rattle.pq_core.proofs.AccountMoves.{read_at, stage_within, room_left, finish_kept}
use Rattle.pq_core.proofs.store.account.Account.withdraw.Goals as goal

pub index_mut-requires : goal.index_mut-requires
index_mut-requires g c =
    let h = rw (← c.self.view_is) at c.requires.waits.2 in
    let ok = c.self.inside.stages.ok.0 in
    rw ok (get_within _ _ _ h.here)

pub wait_over-request-requires : goal.wait_over-request-requires
wait_over-request-requires g c =
    let h = rw (← c.self.view_is) at c.requires.waits.2 in
    (c.requires.waits.0, c.requires.waits.1, read_at c.self.inside.stages.items (c.args.number - c.self.inside.seen) _ _ h.here c.index_mut.ensures.value)

pub push_back_reserved-requires : goal.push_back_reserved-requires
push_back_reserved-requires g c =
    let h = rw (← c.self.view_is) at c.requires.waits.2 in
    let ok = c.self.inside.made.ok.0 in
    rw ok (room_left _ _ _ _ _ c.self.invariant h refl)

pub index_mut-requires-2 : goal.index_mut-requires-2
index_mut-requires-2 g c =
    let h = rw (← c.self.view_is) at c.requires.waits.2 in
    let ok = c.self.inside.stages.ok.0 in
    rw ok (get_within _ _ _ h.here)

pub new-requires-2-clause-below : goal.new-requires-2-clause-below
new-requires-2-clause-below g c =
    let h = rw (← c.self.view_is) at c.requires.waits.2 in
    let within = stage_within _ _ _ h in
    let bound = c.self.invariant.bounded in
    let e : c.new-reply.result.number ≡ c.args.number = rw (c.new-reply.ensures, c.new.ensures) refl in
    omega arith

pub invariant_of-self : goal.invariant_of-self
invariant_of-self g c =
    let h = rw (← c.self.view_is) at c.requires.waits.2 in
    let e = c.push_back_reserved.ensures in
    let n : c.new-2.result.reply.number ≡ c.args.number = rw (c.new-2.ensures, c.new-reply.ensures, c.new.ensures) refl in
    rw (set_twice c.self.inside.stages.items (c.args.number - c.self.inside.seen) c.wait_over-request.new.self c.make.new.self, c.make.ensures, e.items, e.capacity)
    (finish_kept _ _ _ _ _ c.new-2.result c.self.invariant h refl n)

pub returns : goal.returns
returns g c =
    let h = rw (← c.self.view_is) at c.requires.waits.2 in
    let e = read_at c.self.inside.stages.items (c.args.number - c.self.inside.seen) _ _ h.here c.index_mut.ensures.value in
    let twice = set_twice c.self.inside.stages.items (c.args.number - c.self.inside.seen) c.wait_over-request.new.self c.make.new.self in
    rw (← c.self.view_is)
    (record {
      request = c.wait_over-request.result.0;
      accepted = c.wait_over-request.result.1;
      waits = rw (sym e ∙ c.wait_over-request.ensures) at h;
      is = rw (twice, c.make.ensures, c.new-2.ensures, c.new-reply.ensures, c.new.ensures) refl;
    })
