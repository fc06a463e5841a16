-- The yield of a parse.
use Rattle.std.specs.Prelude.{List, [], ◌∷◌, ◌++◌}
use Rattle.pq_syntax.specs.Rule.{Parse}
use Rattle.pq_syntax.specs.Rule.Parse.{Leaf, Nil, Pair, Left, Right}

-- `yield_of p` is the words of `p`, from first to last.
abbrev pub yield_of : {W : Type 0} → Parse W → List W
yield_of (Leaf w) = w ∷ []
yield_of Nil = []
yield_of (Pair p q) = yield_of p ++ yield_of q
yield_of (Left p) = yield_of p
yield_of (Right p) = yield_of p
