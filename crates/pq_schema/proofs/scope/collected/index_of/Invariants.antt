use Rattle.std.proofs.Common.{drop}
use Rattle.std.specs.BTreeMap.{get}
use Rattle.std.specs.Cmp.Lexicographic.{slice_cmp}
use Rattle.std.specs.Ordering.{nat_cmp}
use Rattle.pq_schema.proofs.Gathering.{Finds}
use Rattle.pq_schema.proofs.scope.collected.index_of.Given as goal

abbrev pub invariant-files : goal.invariant-files
invariant-files l = Finds (λ n. get (slice_cmp nat_cmp) l.index n) (drop l.file-index l.files) l.files
