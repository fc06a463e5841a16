use Rattle.std.proofs.Common.{◌≡◌, drop}
use Rattle.pq_view.specs.Views.{first_placed, names_of}
use Rattle.pq_view.specs.aux.Sights.{seen}
use Rattle.pq_view.proofs.Placing.{first_in}
use Rattle.pq_view.proofs.sight.Sight.first_name.Given as goal

abbrev pub invariant-roots : goal.invariant-roots
invariant-roots l = first_in (seen l.self) l.path (drop l.root-index l.root-items) ≡ first_placed (seen l.self) l.path (names_of (seen l.self) l.path)
