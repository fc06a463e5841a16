-- Auxiliary: the first piece of a text and what comes after it (used by proofs and invariants
-- only).
use Rattle.std.specs.Prelude.{ℕ, ◌==◌, List, [], ◌∷◌, cond}
use Rattle.pq_rules.specs.sums.Names.{space}

-- `word t` is the bytes of `t` before its first space
abbrev pub word : List ℕ → List ℕ
word [] = []
word (c ∷ cs) = cond (c == space) [] (c ∷ word cs)

-- `rest t` is the bytes of `t` after its first space
abbrev pub rest : List ℕ → List ℕ
rest [] = []
rest (c ∷ cs) = cond (c == space) cs (rest cs)

-- `as_name w` is the piece `w` alone if it is a name, and nothing otherwise
abbrev pub as_name : List ℕ → List (List ℕ)
as_name [] = []
as_name (c ∷ cs) = (c ∷ cs) ∷ []
