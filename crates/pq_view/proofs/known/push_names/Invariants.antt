use Rattle.std.proofs.Common.{◌≡◌, ◌++◌, take}
use Rattle.std.specs.Prelude.{filter_map}
use Rattle.pq_view.specs.Views.{name_below}
use Rattle.pq_view.proofs.known.push_names.Given as goal

abbrev pub invariant-roots : goal.invariant-roots
invariant-roots l = l.names.items ≡ l.initial.names.items ++ filter_map (name_below l.path) (take l.root-index l.roots)
