-- Auxiliary: the keys by which the code looks up, and a line of the table by what it has looked up
-- (used by proofs and invariants only).
use Rattle.std.specs.Prelude.{ℕ, ℤ, List, [], ◌∷◌, codes, Option, Some, None}
use Rattle.std.specs.Borrow.{Bor}
use Rattle.std.specs.Cmp.Lexicographic.{slice_cmp}
use Rattle.std.specs.Option.{option_cmp}
use Rattle.std.specs.Ordering.{ordering_then, nat_cmp, int_cmp}
use Rattle.std.specs.declared.cmp.Ordering.{Ordering}
use Rattle.pq_links.specs.declared.places.Part.TheVariants as part
use Rattle.pq_checks.specs.Faults.{at}
use Rattle.pq_checks.specs.Numbers.{bounds_of}
use Rattle.pq_checks.specs.Owners.{limits_by}
use Rattle.pq_checks.specs.declared.errors.code.Code.TheVariants as code
use Rattle.pq_checks.specs.declared.errors.fault.Fault.{Fault}
use Rattle.pq_checks.specs.declared.tree.members.Reserved.{Reserved}
use Rattle.pq_checks.specs.declared.tree.numbers.Bounds.{Bounds}

-- `Key` is a number of a message or an enum
abbrev pub Key : Type 0
Key = Option ℕ × Option ℤ

-- `key_cmp a b` compares keys: by their messages or enums, then by their numbers
abbrev pub key_cmp : Key → Key → Ordering
key_cmp a b = ordering_then (option_cmp nat_cmp a.0 b.0) (option_cmp int_cmp a.1 b.1)

-- `stair owner bounds` lists the keys from the first to the last that a range reserves
abbrev pub stair : Option ℕ → Option Bounds → List (Key × Key)
stair owner None = []
stair owner (Some b) = ((owner, Some b.first), (owner, Some b.last)) ∷ []

-- `stair_of r` is that of the reserved range `r`
abbrev pub stair_of : Reserved → List (Key × Key)
stair_of r = stair r.owner (bounds_of (limits_by r.in_enum) r.range)

-- `package_line p` is P101 of a package `p` that is not the first
abbrev pub package_line : ℕ → List Fault
package_line p = at p part.Name code.PackageTwice (codes "package is given twice") ∷ []

-- `NameKey` is a name in a message or an enum, as the code keeps it
abbrev pub NameKey : Type 0
NameKey = Option ℕ × Bor (List ℕ)

-- `name_cmp a b` compares names: by their messages or enums, then by their bytes
abbrev pub name_cmp : NameKey → NameKey → Ordering
name_cmp a b = ordering_then (option_cmp nat_cmp a.0 b.0) (slice_cmp nat_cmp a.1.now b.1.now)
