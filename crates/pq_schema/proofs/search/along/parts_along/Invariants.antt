use Rattle.std.proofs.Common.{ℕ, ◌<◌, get_or, []}
use Rattle.pq_schema.specs.aux.Along.{AllMeet, HasMet, IsCovered}
use Rattle.pq_schema.proofs.search.along.parts_along.Given as goal

abbrev pub invariant-packages : goal.invariant-packages
invariant-packages l = record {
  covered : IsCovered l.parts.items l.root l.covered;
  meet : AllMeet l.parts.items l.packages l.root;
  met : (k : ℕ) → k < l.at → HasMet l.parts.items l.root (get_or l.packages k ([], 0)).0;
}
