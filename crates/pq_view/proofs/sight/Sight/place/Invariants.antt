use Rattle.std.proofs.Common.{◌≡◌, drop}
use Rattle.pq_view.specs.Views.{place, place_in}
use Rattle.pq_view.specs.aux.Sights.{seen}
use Rattle.pq_view.proofs.sight.Sight.place.Given as goal

abbrev pub invariant-roots : goal.invariant-roots
invariant-roots l = place_in (seen l.self) (drop l.root-index l.root-items) l.name ≡ place (seen l.self) l.name
