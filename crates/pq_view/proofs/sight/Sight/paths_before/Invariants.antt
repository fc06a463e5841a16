use Rattle.std.proofs.Common.{◌≡◌, ◌++◌, drop}
use Rattle.pq_view.specs.Views.{paths_before_in}
use Rattle.pq_view.specs.aux.Sights.{seen}
use Rattle.pq_view.proofs.sight.Sight.paths_before.Given as goal

abbrev pub invariant-roots : goal.invariant-roots
invariant-roots l = l.paths.items ++ paths_before_in (seen l.self) (drop l.root-index l.root-items) l.name ≡ paths_before_in (seen l.self) l.root-items l.name
