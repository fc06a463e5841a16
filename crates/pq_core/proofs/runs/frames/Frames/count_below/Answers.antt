use Rattle.std.proofs.Common.{List, length, ap, inl, inr}
use Rattle.pq_core.proofs.RingRuns.{apart_below, place_split}
use Rattle.pq_core.proofs.runs.frames.Frames.count_below.Goals as goal

pub returns-in-Some-clause-apart : goal.returns-in-Some-clause-apart
returns-in-Some-clause-apart g c = apart_below c.args.self.now.stack c.in-Some.place c.args.key.now c.requires.differ c.in-Some.ensures.found

pub returns-in-Some-clause-split : goal.returns-in-Some-clause-split
returns-in-Some-clause-split g c = inl (place_split c.args.self.now.stack c.in-Some.place c.args.key.now c.in-Some.ensures.found)

pub returns-in-None-clause-split : goal.returns-in-None-clause-split
returns-in-None-clause-split g c = inr (ap (λ (l : List _). length l) c.frames.ensures, c.in-None.ensures.none)
