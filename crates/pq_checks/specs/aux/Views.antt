-- Auxiliary: words between the definitions and the code that keeps its own look-ups (used by proofs
-- and invariants only).
use Rattle.std.specs.Prelude.{ℕ, Bool, not, bytes_eq, List, [], ◌++◌, codes}
use Rattle.std.specs.Borrow.{Bor}
use Rattle.std.specs.Cmp.Lexicographic.{slice_cmp}
use Rattle.std.specs.Ordering.{nat_cmp}
use Rattle.std.specs.declared.cmp.Ordering.{Ordering}
use Rattle.pq_schema.specs.declared.define.definitions.Definition.{Definition}
use Rattle.pq_schema.specs.declared.scope.scope.FileDefs.{FileDefs}
use Rattle.pq_links.specs.declared.places.Part.TheVariants as part
use Rattle.pq_checks.specs.Faults.{at, when, quoted}
use Rattle.pq_checks.specs.declared.errors.code.Code.TheVariants as code
use Rattle.pq_checks.specs.declared.errors.fault.Fault.{Fault}

-- `twice_line repeated d` is the error of the definition `d` if its full name is `repeated`. The
-- message ends in the name of no file.
abbrev pub twice_line : Bool → Definition → List Fault
twice_line repeated d = when repeated (at d.item part.Name code.DefinedTwice (quoted d.full_name ++ codes " is already defined" ++ []))

-- `is_other file v` is whether the visible file `v` is another than `file`
abbrev pub is_other : List ℕ → FileDefs → Bool
is_other file v = not (bytes_eq v.file file)

-- `lent_cmp x y` is the order of the texts that `x` and `y` lend
abbrev pub lent_cmp : Bor (List ℕ) → Bor (List ℕ) → Ordering
lent_cmp x y = slice_cmp nat_cmp x.now y.now
