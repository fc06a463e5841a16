-- Auxiliary: sets of keys, by the elements of a list whose keys they hold (used by proofs and
-- invariants only).
use Rattle.std.specs.Prelude.{◌≡◌, ℕ, Bool, ◌&&◌, List, Option, bytes_eq}
use Rattle.std.specs.Borrow.{Bor}
use Rattle.std.specs.BTreeSet.{BTreeSet, contains}
use Rattle.std.specs.List.{list_any}
use Rattle.std.specs.Option.{option_eq}
use Rattle.std.specs.Ordering.{int_eq}
use Rattle.std.specs.declared.cmp.Ordering.{Ordering}
use Rattle.pq_checks.specs.Faults.{same_item}
use Rattle.pq_checks.specs.Members.{Member, ReservedName, ImportName}
use Rattle.pq_checks.specs.Numbers.{Limits, number_in}
use Rattle.pq_checks.specs.aux.Lines.{Key, NameKey}

-- `Has cmp is_key s xs` is that the set `s`, ordered by `cmp`, has just the keys of the elements of
-- `xs`: `is_key q x` tells whether `q` is the key of `x`
abbrev pub Has : {K A : Type 0} → (K → K → Ordering) → (K → A → Bool) → BTreeSet K → List A → Type 0
Has {K = K} cmp is_key s xs = (q : K) → contains cmp s q ≡ list_any (is_key q) xs

-- `is_number limits q m` is whether `q` is the owner and the number of the member `m`, which is one
-- of `limits`
abbrev pub is_number : Limits → Key → Member → Bool
is_number limits q m = same_item q.0 m.owner && option_eq int_eq q.1 (number_in limits m.number)

-- `is_owner q m` is whether `q` is the owner of the member `m`
abbrev pub is_owner : Option ℕ → Member → Bool
is_owner q m = same_item q m.owner

-- `is_holder q m` is whether `q` is the holder of the member `m`
abbrev pub is_holder : Option ℕ → Member → Bool
is_holder q m = same_item q m.holder

-- `is_name q n` is whether `q` is the owner and the value of the reserved name `n`
abbrev pub is_name : NameKey → ReservedName → Bool
is_name q n = same_item q.0 n.owner && bytes_eq q.1.now n.value

-- `is_import q i` is whether the import `i` has the name that `q` lends
abbrev pub is_import : Bor (List ℕ) → ImportName → Bool
is_import q i = bytes_eq q.now i.value
