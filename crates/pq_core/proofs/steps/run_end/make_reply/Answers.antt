use Rattle.pq_core.proofs.steps.run_end.make_reply.Goals as goal

pub stop_run-requires-clause-ruled : goal.stop_run-requires-clause-ruled
stop_run-requires-clause-ruled g c = (rw c.in-Stopped.is at c.requires.due).0

pub stop_run-requires-clause-overtaken : goal.stop_run-requires-clause-overtaken
stop_run-requires-clause-overtaken g c = (rw c.in-Stopped.is at c.requires.due).1

pub end_run-requires-clause-told : goal.end_run-requires-clause-told
end_run-requires-clause-told g c = (rw c.in-Answered.is at c.requires.due).1

pub end_run-requires-in-Starved-clause-told : goal.end_run-requires-in-Starved-clause-told
end_run-requires-in-Starved-clause-told g c = record { rules = (rw c.in-Starved.is at c.requires.due).0; told = tt }

pub end_run-requires-in-Withdrawn-clause-told : goal.end_run-requires-in-Withdrawn-clause-told
end_run-requires-in-Withdrawn-clause-told g c = record { rules = (rw c.in-Withdrawn.is at c.requires.due).0; told = tt }

pub returns-in-Stopped-clause-open : goal.returns-in-Stopped-clause-open
returns-in-Stopped-clause-open g c = rw c.in-Stopped.is c.stop_run.ensures.«open»

pub returns-in-Answered-clause-open : goal.returns-in-Answered-clause-open
returns-in-Answered-clause-open g c = rw c.in-Answered.is c.end_run.ensures.«open»

pub returns-in-Starved-clause-open : goal.returns-in-Starved-clause-open
returns-in-Starved-clause-open g c = rw c.in-Starved.is c.end_run-in-Starved.ensures.«open»

pub returns-in-Withdrawn-clause-open : goal.returns-in-Withdrawn-clause-open
returns-in-Withdrawn-clause-open g c = rw c.in-Withdrawn.is c.end_run-in-Withdrawn.ensures.«open»
