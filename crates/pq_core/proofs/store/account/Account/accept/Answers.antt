use Rattle.std.proofs.Common.{refl, arith}
use Rattle.pq_core.proofs.AccountMoves.{roomier, accept_kept}
use Rattle.pq_core.proofs.store.account.Account.accept.Goals as goal

pub note_made-requires : goal.note_made-requires
note_made-requires g c = let r = (c.in-Ok.ensures {u = tt}).room in let more = r.1 in omega arith

pub push_back_reserved-requires : goal.push_back_reserved-requires
push_back_reserved-requires g c = ((c.in-Ok.ensures {u = tt}).room).0

pub invariant_of-self : goal.invariant_of-self
invariant_of-self g c =
    let e = c.make_room.ensures in
    rw (e.stages, e.made) (roomier _ _ _ _ c.self.invariant e.grows)

pub invariant_of-self-in-Ok : goal.invariant_of-self-in-Ok
invariant_of-self-in-Ok g c =
    let e = c.make_room.ensures in
    let r = (c.in-Ok.ensures {u = tt}).room in
    let more = r.1 in
    let long = c.make_room.new.stages.ok.0 in
    let same = e.stages in
    let bound = rw (← c.self.view_is) at c.requires.numbers in
    let number = rw (← c.self.view_is) at c.next_number-number.ensures in
    rw (c.push_back_reserved.ensures.items, c.note_made.ensures.items, c.note_made.ensures.capacity, e.stages, e.made, c.accepted_stage-stage.ensures, c.number.ensures)
    (accept_kept _ _ _ _ _ _ _ _ c.self.invariant e.grows bound (rw (← e.stages) (omega arith)) number)

pub returns-in-Ok-clause-accepted : goal.returns-in-Ok-clause-accepted
returns-in-Ok-clause-accepted g c =
    let e = c.make_room.ensures in
    (c.next_number-number.ensures, rw (← c.self.view_is) (rw (c.push_back_reserved.ensures.items, e.stages, c.accepted_stage-stage.ensures) refl))
