use Rattle.std.proofs.Common.{◌≡◌, ◌++◌}
use Rattle.std.specs.Prelude.{map, string_bytes}
use Rattle.pq_view.specs.Held.{view_of}
use Rattle.pq_view.specs.aux.Known.{paths_of}
use Rattle.pq_view.specs.aux.Owing.{owed_at}
use Rattle.pq_view.proofs.view.View.owed.Given as goal

abbrev pub invariant-documents : goal.invariant-documents
invariant-documents l = l.owed.items ++ map (owed_at (view_of l.self)) (map string_bytes l.path-iterator) ≡ map (owed_at (view_of l.self)) (paths_of l.self.documents)
