use Rattle.std.proofs.Common.{◌≡◌, ℕ, List, ◌++◌, drop}
use Rattle.std.specs.Prelude.{codes, string_bytes}
use Rattle.pq_checks.specs.Faults.{arrowed}
use Rattle.pq_checks.proofs.around.import_lines.ring_text.Given as goal

abbrev pub invariant-files : goal.invariant-files
invariant-files l = (last : List ℕ) → string_bytes l.text ++ arrowed (drop l.file-index l.ring) last ≡ codes "import cycle: " ++ arrowed l.ring last
