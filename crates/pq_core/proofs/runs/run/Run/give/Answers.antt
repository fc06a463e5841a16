use Rattle.pq_core.proofs.runs.run.Run.give.Goals as goal

pub returns-clause-stepped : goal.returns-clause-stepped
returns-clause-stepped g c = rw (← c.self.view_is) (rw (← c.in-Away.ensures.value) c.take.ensures.stepped)
