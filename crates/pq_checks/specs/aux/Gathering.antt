-- Auxiliary: what the rule of a file's checks has gathered, as the surroundings of the file (used
-- by proofs and invariants only).
use Rattle.std.specs.Prelude.{ℕ, List, Option}
use Rattle.pq_checks.specs.Compile.{file_faults}
use Rattle.pq_checks.specs.Surroundings.{Surroundings, other_files}
use Rattle.pq_checks.specs.declared.errors.fault.Fault.{Fault}
use Rattle.pq_checks.specs.declared.queries.gathered.Known.{Known}
use Rattle.pq_checks.specs.declared.around.surroundings.Imported.{Imported}

-- `surroundings_of k imported next` is the surroundings of the file of `k`, which imports the files
-- `imported`, and the first bad import of which is `next`
abbrev pub surroundings_of : Known → List Imported → Option (List ℕ) → Surroundings
surroundings_of k imported next = record {
  imported = imported;
  ring = k.linked.ring;
  next = next;
  definitions = k.defs.definitions;
  others = other_files k.linked.file k.scope;
  references = k.references;
}

-- `checked_of k imported next` lists the errors of that file
abbrev pub checked_of : Known → List Imported → Option (List ℕ) → List Fault
checked_of k imported next = file_faults (surroundings_of k imported next) k.linked.items
