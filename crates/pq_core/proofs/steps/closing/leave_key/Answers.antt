use Rattle.std.proofs.Common.{refl, sym, ◌∙◌, ap, subst, Some}
use Rattle.pq_core.specs.aux.Runs.{HoldsBelow, RunView}
use Rattle.pq_core.proofs.Changing.{set_back}
use Rattle.pq_core.proofs.RingLeaving.{key_leaves, top_below}
use Rattle.pq_core.proofs.steps.closing.leave_key.Goals as goal

pub leave_ring-requires : goal.leave_ring-requires
leave_ring-requires g c =
    let here = sym (rw c.number.ensures at (c.in-Some-take.ensures {u = tt}).value) in
    let holds = (c.in-Some.ensures {u = tt}).some in
    record {
      claimed = subst (λ (v : RunView g.row.R-Key.Denot g.row.R-Part.Denot). HoldsBelow c.args.claims.now c.in-Some.holder v.stack) (sym c.run.view_is)
          (top_below c.args.key.now c.args.claims.now c.args.runs.now.items c.requires.claimed c.in-Some.holder c.in-Some-take.taken here (c.requires.tops c.in-Some.holder c.in-Some-take.taken here holds));
    }

pub returns-in-Some-take-clause-left : goal.returns-in-Some-take-clause-left
returns-in-Some-take-clause-left g c =
    let here = sym (rw c.number.ensures at (c.in-Some-take.ensures {u = tt}).value) in
    let holds = (c.in-Some.ensures {u = tt}).some in
    let was = here ∙ ap (λ (v : RunView g.row.R-Key.Denot g.row.R-Part.Denot). Some v) (sym c.run.view_is) in
    let set = set_back c.args.runs.now c.take.new.self c.put_back.new.self c.in-Some.holder _ (rw c.number.ensures at c.take.ensures.found) c.take.ensures.above (c.in-Some-take.ensures {u = tt}).more_room
    (rw c.number-in-Some-take.ensures at c.put_back.ensures.found) c.put_back.ensures.room c.put_back.ensures.above in
    key_leaves c.args.key.now c.args.claims.now c.args.runs.now.items c.requires.claimed c.leave_ring.new.claims c.put_back.new.self.items c.in-Some.holder _ _ c.claims_are_sound.ensures.sound was holds
    (c.requires.tops c.in-Some.holder _ was holds) set.found (record { client = refl; number = refl; request = refl; started = refl }) c.leave_ring.ensures.left
