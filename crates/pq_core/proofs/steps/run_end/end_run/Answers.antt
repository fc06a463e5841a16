use Rattle.pq_core.proofs.steps.run_end.end_run.Goals as goal

pub finish_in-requires-clause-running : goal.finish_in-requires-clause-running
finish_in-requires-clause-running g c = rw (← c.run.view_is) at c.requires.running

pub returns-clause-open : goal.returns-clause-open
returns-clause-open g c =
    rw (← c.run.view_is) (rw c.new-2.ensures at (rw c.new.ensures at (rw c.new-reply.ensures at c.finish_in.ensures.«open»)))
