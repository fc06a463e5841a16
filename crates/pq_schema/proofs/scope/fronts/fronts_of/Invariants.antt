use Rattle.std.proofs.Common.{◌≡◌, length}
use Rattle.pq_schema.specs.aux.Fronts.{AreFronts}
use Rattle.pq_schema.proofs.scope.fronts.fronts_of.Given as goal

-- the fronts of the files so far
abbrev pub invariant-files : goal.invariant-files
invariant-files l = (length l.fronts.items ≡ l.i) × AreFronts l.fronts.items l.files l._root
