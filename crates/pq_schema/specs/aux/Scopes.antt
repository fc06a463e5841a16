-- Auxiliary: the scopes of a reference, as the search walks through them.
use Rattle.std.specs.Prelude.{ℕ, suc, Bool, false, ◌||◌, bytes_eq, List, [], ◌∷◌, ◌++◌, length, Option, Some, None}
use Rattle.pq_schema.specs.Resolution.{prefixes}

-- `before outer` lists `outer` and its prefixes before dots
abbrev pub before : Option (List ℕ) → List (List ℕ)
before None = []
before (Some s) = s ∷ prefixes s

-- `chain inner` lists the scopes from `inner` outwards; the empty scope is the last
abbrev pub chain : Option (List ℕ) → List (List ℕ)
chain inner = before inner ++ [] ∷ []

-- `first_of inner` is the scope `inner`, or the empty scope
abbrev pub first_of : Option (List ℕ) → List ℕ
first_of None = []
first_of (Some s) = s

-- `after_first inner` lists the scopes of `chain inner` after the first
abbrev pub after_first : Option (List ℕ) → List (List ℕ)
after_first None = []
after_first (Some s) = prefixes s ++ [] ∷ []

-- `left inner` is a bound on the length of `before inner`
abbrev pub left : Option (List ℕ) → ℕ
left None = 0
left (Some s) = suc (length s)

-- `is_among name ss` is that `name` is one of `ss`
abbrev pub is_among : List ℕ → List (List ℕ) → Bool
is_among name [] = false
is_among name (s ∷ ss) = bytes_eq s name || is_among name ss
