use Rattle.pq_core.proofs.Trays.{held_kept, takes_one, takes_none}
use Rattle.pq_core.proofs.lanes.lane.Lane.take.Goals as goal

pub invariant_of-self-in-Ok-true : goal.invariant_of-self-in-Ok-true
invariant_of-self-in-Ok-true g c = held_kept _ _ _ _ _ _ c.self.invariant c.in-Some.is c.take.ensures.puts

pub returns-in-Ok-true : goal.returns-in-Ok-true
returns-in-Ok-true g c =
    rw (← c.self.view_is) (takes_one _ _ (Unit {0}) _ _ _ c.in-Some.is c.take.ensures.puts (c.in-Ok-true.ensures.taken c.in-Ok-true.field-0-test))

pub returns-in-Ok-false : goal.returns-in-Ok-false
returns-in-Ok-false g c =
    let none = c.in-Ok-false.ensures.none c.in-Ok-false.field-0-test in
    rw (← c.self.view_is) (takes_none _ _ (Unit {0}) _ _ _ c.in-Some.is none.0 none.1)
