-- Auxiliary: full names in parts, and their order for an index.
use Rattle.std.specs.Prelude.{ℕ, List, [], ◌∷◌, ◌++◌, reverse, codes}
use Rattle.std.specs.declared.cmp.Ordering.{Ordering}
use Rattle.std.specs.Cmp.Lexicographic.{slice_cmp}
use Rattle.std.specs.Ordering.{nat_cmp}

-- `leading scope` is what is before a simple name in the scope of the full name `scope`: the scope
-- with a dot after it, or nothing in the empty scope
abbrev pub leading : List ℕ → List ℕ
leading [] = []
leading (c ∷ cs) = (c ∷ cs) ++ codes "."

-- `name_order a b` compares the names `a` and `b` by their bytes from the last to the first
abbrev pub name_order : List ℕ → List ℕ → Ordering
name_order a b = slice_cmp nat_cmp (reverse a) (reverse b)
