use Rattle.std.proofs.Common.{◌≡◌, drop}
use Rattle.std.specs.Prelude.{find, bytes_eq}
use Rattle.pq_schema.specs.declared.scope.scope.FileDefs.{FileDefs}
use Rattle.pq_schema.proofs.scope.collected.file_named.Given as goal

abbrev pub invariant-files : goal.invariant-files
invariant-files l =
    let named = λ (f : FileDefs). bytes_eq f.file l.name in
    find named (drop l.file-index l.files) ≡ find named l.files
