use Rattle.std.proofs.Common.{None, sym, ◌∙◌}
use Rattle.pq_core.proofs.Slots.{found_nowhere, written}
use Rattle.pq_core.proofs.store.rising.Rising.get.Goals as goal

pub returns-in-None : goal.returns-in-None
returns-in-None g c =
    let none = rw c.deref.ensures.value at c.in-None.ensures.none in
    rw (← c.self.view_is) (sym (found_nowhere c.self.inside.places.items c.args.number none))

pub returns-in-Some : goal.returns-in-Some
returns-in-Some g c =
    let xs = c.self.inside.places.items in
    let here = rw c.deref.ensures.value at c.in-Some.ensures.here in
    let w = written xs c.in-Some.at c.args.number c.index.result.now None c.self.invariant.rises here.0 c.index.ensures here.1 in
    rw (← c.self.view_is) (c.as_ref.ensures.value ∙ sym w.was)
