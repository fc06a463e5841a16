use Rattle.std.proofs.Common.{◌≡◌, ◌++◌, drop}
use Rattle.pq_rules.specs.Relations.{Each}
use Rattle.pq_schema.specs.aux.Grouping.{IsBelow, roots}
use Rattle.pq_schema.proofs.scope.by_package.packages_of.Given as goal

abbrev pub invariant-files : goal.invariant-files
invariant-files l = record {
  entries : l.packages.items ++ roots l.place (drop l.place l.files) ≡ roots 0 l.files;
  below : Each IsBelow (drop l.place l.files) → Each IsBelow l.files;
}
