use Rattle.pq_core.proofs.Slots.{place_none, place_some}
use Rattle.pq_core.proofs.store.store.Store.run_at.Goals as goal

pub returns-in-Some-clause-some : goal.returns-in-Some-clause-some
returns-in-Some-clause-some g c =
    let within = rw (← c.self.view_is) at c.requires in
    rw (← c.self.view_is) (c.in-Some.field-0, (place_some c.self.inside.runs.items _ c.args.at c.new.result c.index-places-at.result c.in-Some.field-0 c.places.ensures.now c.places.ensures.rises within c.index-places-at.is c.in-Some.is c.new.ensures).0)

pub returns-in-Some-clause-here : goal.returns-in-Some-clause-here
returns-in-Some-clause-here g c =
    let within = rw (← c.self.view_is) at c.requires in
    rw (← c.self.view_is) (place_some c.self.inside.runs.items _ c.args.at c.new.result c.index-places-at.result c.in-Some.field-0 c.places.ensures.now c.places.ensures.rises within c.index-places-at.is c.in-Some.is c.new.ensures).1

pub returns-in-None-clause-none : goal.returns-in-None-clause-none
returns-in-None-clause-none g c =
    let within = rw (← c.self.view_is) at c.requires in
    rw (← c.self.view_is) (place_none c.self.inside.runs.items _ c.args.at c.index-places-at.result c.places.ensures.now c.places.ensures.rises within c.index-places-at.is c.in-None.is)
