use Rattle.std.proofs.Common.{◌≡◌, ℕ, ◌<◌, length, subst, arith}
use Rattle.pq_core.specs.aux.Turning.{EndsPlaces}
use Rattle.pq_core.proofs.TurnOfRuns.{late_still, more_places, no_places, place_within}
use Rattle.pq_core.proofs.store.store.Store.end_runs.Goals as goal

pub places-init : goal.places-init
places-init g c = no_places g.R.Key.Ord.cmp g.R.Rules.machine g.M.Stamp.point c.args.self.now

pub places-preserved : goal.places-preserved
places-preserved g c =
    more_places g.R.Key.Ord.cmp g.R.Rules.machine g.M.Stamp.point c.args.self.now c.places.self c.end_at.new.self c.places.at c.places.invariant c.end_at.ensures

pub end_at-requires-clause-within : goal.end_at-requires-clause-within
end_at-requires-clause-within g c =
    let lt : c.places.at < length c.args.self.now.runs.items = omega (arith, c.places-test.true, c.run_places-count.ensures) in
    place_within g.R.Key.Ord.cmp g.R.Rules.machine g.M.Stamp.point c.args.self.now c.places.self c.places.at c.places.invariant.numbered lt

pub end_at-requires-clause-late : goal.end_at-requires-clause-late
end_at-requires-clause-late g c = late_still g.R.Key.Ord.cmp g.R.Rules.machine g.M.Stamp.point c.args.self.now c.places.self c.places.at c.places.invariant c.requires

pub returns : goal.returns
returns g c =
    let all : c.places.at ≡ length c.args.self.now.runs.items = omega (arith, c.places-test.false, c.places.auto.at-end, c.run_places-count.ensures) in
    subst (λ (n : ℕ). EndsPlaces g.R.Key.Ord.cmp g.R.Rules.machine g.M.Stamp.point c.args.self.now c.places.self n) all c.places.invariant
