-- Auxiliary: the numbers of keys, in a map that is searched by codes.
use Rattle.std.specs.Prelude.{ℕ, ◌≡◌, List, Option, Some, None, cond, IsSome}
use Rattle.std.specs.Map.{lookup}
use Rattle.std.specs.BTreeMap.{is_at}
use Rattle.std.specs.Ordering.{is_eq, nat_cmp}
use Rattle.std.specs.declared.cmp.Ordering.{Ordering}
use Rattle.pq_memo.specs.aux.Stack.{place_in}

-- `Coded K` is the first key of each code with its number, and the numbers of the other keys
pub record Coded (K : Type 0) : Type 0 where
  pub codes : List (ℕ × (K × ℕ))
  pub others : List (K × ℕ)

-- `first_in codes c` is the first key of the code `c` with its number, if a key has this code
abbrev pub first_in : {K : Type 0} → List (ℕ × (K × ℕ)) → ℕ → Option (K × ℕ)
first_in codes c = lookup (is_at (nat_cmp c)) codes

-- `number_by order k first other` is the number of the key `k`: that of `first`, if this is the key, or
-- else `other`; without a key of its code it has none
abbrev pub number_by : {K : Type 0} → (K → K → Ordering) → K → Option (K × ℕ) → Option ℕ → Option ℕ
number_by order k None other = None
number_by order k (Some e) other = cond (is_eq (order e.0 k)) (Some e.1) other

-- `number_in order code numbers k` is the number that `numbers` has of the key `k`
abbrev pub number_in : {K : Type 0} → (K → K → Ordering) → (K → ℕ) → Coded K → K → Option ℕ
number_in order code numbers k = number_by order k (first_in numbers.codes (code k)) (place_in order numbers.others k)

-- `AreCoded order code codes others` is that for each key in `others` some key in `codes` has its code
pub record AreCoded {K : Type 0} (order : K → K → Ordering) (code : K → ℕ) (codes : List (ℕ × (K × ℕ))) (others : List (K × ℕ)) : Type 0 where
  pub first : (k : K) (n : ℕ) → place_in order others k ≡ Some n → IsSome (first_in codes (code k))
