use Rattle.std.proofs.Common.{◌≡◌, ◌++◌, drop}
use Rattle.pq_schema.specs.Answers.{picked}
use Rattle.pq_schema.proofs.scope.collected.pick_few.Given as goal

abbrev pub invariant-names : goal.invariant-names
invariant-names l = l.found.items ++ picked l.files (drop l.name-index l.names) ≡ picked l.files l.names
