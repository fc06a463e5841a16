-- How texts compare: the laws of `Text` speak of these two functions.
use Rattle.std.specs.Prelude.{Bool, List, ℕ}
use Rattle.std.specs.declared.cmp.Ordering.{Ordering}
use Rattle.pq_names.specs.contracts.text.TextPartialEq.TheImpl as of_eq
use Rattle.pq_names.specs.contracts.text.TextOrd.TheImpl as of_ord

-- `equal_texts a b` is what `==` of the texts with the bytes `a` and `b` answers, also where a
-- bound asks for it
abbrev pub equal_texts : List ℕ → List ℕ → Bool
equal_texts = of_eq.ghosts.eq

-- `compare_texts a b` is what `cmp` of the texts with the bytes `a` and `b` answers, also where a
-- bound asks for it
abbrev pub compare_texts : List ℕ → List ℕ → Ordering
compare_texts = of_ord.ghosts.cmp
