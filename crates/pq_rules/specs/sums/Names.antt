-- The names in a text: its pieces between single spaces that are not empty, in order.
use Rattle.std.specs.Prelude.{ℕ, ◌==◌, Bool, true, false, List, [], ◌∷◌, Option, Some, None}
use Rattle.std.specs.List.{filter, slice_split}

-- `space` is the byte of a space
abbrev pub space : ℕ
space = 32

-- `is_name w` is whether the piece `w` is a name: it is not empty
abbrev pub is_name : List ℕ → Bool
is_name [] = false
is_name (c ∷ cs) = true

-- `names t` is the list of the names in the text `t`
abbrev pub names : List ℕ → List (List ℕ)
names text = filter is_name (slice_split (λ b. b == space) text)

-- `names_of t` is the list of the names in a file's text `t`; an absent file has none
abbrev pub names_of : Option (List ℕ) → List (List ℕ)
names_of None = []
names_of (Some text) = names text
