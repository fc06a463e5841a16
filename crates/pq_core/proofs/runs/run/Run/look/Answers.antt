use Rattle.std.proofs.Common.{sym}
use Rattle.pq_core.proofs.runs.run.Run.look.Goals as goal

pub begin-requires-clause-stale : goal.begin-requires-clause-stale
begin-requires-clause-stale g c = (rw (← c.self.view_is) at c.requires.stale) (sym c.in-Empty.ensures.value)

pub returns-in-At-clause-stepped : goal.returns-in-At-clause-stepped
returns-in-At-clause-stepped g c = rw (← c.self.view_is) (rw (← c.in-At.ensures.value) c.advance.ensures.stepped)

pub returns-in-At-clause-first : goal.returns-in-At-clause-first
returns-in-At-clause-first g c = rw (← c.self.view_is) (rw (← c.in-At.ensures.value) c.advance.ensures.first)

pub returns-in-Empty-clause-stepped : goal.returns-in-Empty-clause-stepped
returns-in-Empty-clause-stepped g c = rw (← c.self.view_is) (rw (← c.in-Empty.ensures.value) (rw c.replace.ensures.after at c.begin.ensures.stepped))

pub returns-in-Empty-clause-first : goal.returns-in-Empty-clause-first
returns-in-Empty-clause-first g c = rw (← c.self.view_is) (rw (← c.in-Empty.ensures.value) (rw c.replace.ensures.after at c.begin.ensures.first))
