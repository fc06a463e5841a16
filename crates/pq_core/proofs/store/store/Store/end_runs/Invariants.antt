use Rattle.pq_core.specs.aux.Turning.{EndsPlaces}
use Rattle.pq_core.proofs.store.store.Store.end_runs.Given as goal

abbrev pub invariant-places : goal.invariant-places
invariant-places g l = EndsPlaces g.R.Key.Ord.cmp g.R.Rules.machine g.M.Stamp.point l.initial.self l.self l.at
