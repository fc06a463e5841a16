use Rattle.std.proofs.Common.{◌≡◌, ◌++◌, drop}
use Rattle.pq_schema.proofs.scope.collected.copy_files.Given as goal

abbrev pub invariant-files : goal.invariant-files
invariant-files l = l.copies.items ++ drop l.file-index l.files ≡ l.files
