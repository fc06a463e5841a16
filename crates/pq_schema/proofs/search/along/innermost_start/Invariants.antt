use Rattle.std.proofs.Common.{ℕ, ◌<◌, ◌≤◌}
use Rattle.pq_schema.specs.aux.Along.{IsSame, IsStart}
use Rattle.pq_schema.proofs.search.along.innermost_start.Given as goal

abbrev pub invariant-bytes : goal.invariant-bytes
invariant-bytes l = record {
  start : IsStart l.root l.start;
  up : l.start ≤ l.at;
  same : IsSame l.root l.entry l.at;
  last : (t : ℕ) → l.start < t → t ≤ l.at → IsStart l.root t → ⊥;
}
