use Rattle.std.proofs.Common.{◌≡◌, ◌++◌}
use Rattle.std.specs.Prelude.{flat_map, map, string_bytes}
use Rattle.pq_view.specs.aux.Known.{known_by, paths_of}
use Rattle.pq_view.proofs.known.push_paths.Given as goal

abbrev pub invariant-paths : goal.invariant-paths
invariant-paths l = l.names.items ++ flat_map (known_by l.old l.new) (map string_bytes l.path-iterator) ≡ l.initial.names.items ++ flat_map (known_by l.old l.new) (paths_of l.texts)
