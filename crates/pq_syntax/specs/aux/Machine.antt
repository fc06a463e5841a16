-- Auxiliary: the predictive machine of a grammar, which looks at one word (used by proofs, and by
-- `parsed`, which `each_parse` ties to the grammar). `run` keeps a list of rules still to be read.
-- For LL(1) rules it reads exactly what `Derives` derives, and it stops exactly at the place of
-- `IsFaultPlace`.
use Rattle.std.specs.Prelude.{ℕ, Bool, true, false, ◌&&◌, ◌||◌, cond, List, [], ◌∷◌, length, Option, Some, None, Result, Ok, Err}
use Rattle.pq_syntax.specs.Rule.{Rule, Parse}
use Rattle.pq_syntax.specs.Rule.Rule.{Single, Empty, Seq, Alt, Star}
use Rattle.pq_syntax.specs.Rule.Parse.{Leaf, Nil, Pair, Left, Right}

-- `nullable r` is whether `r` derives the empty list of words.
abbrev pub nullable : {A : Type 0} → Rule A → Bool
nullable (Single c) = false
nullable Empty = true
nullable (Seq a b) = nullable a && nullable b
nullable (Alt a b) = nullable a || nullable b
nullable (Star r) = true

-- `empty_parse r` is the parse of the empty list by `r`.
abbrev pub empty_parse : {A W : Type 0} → Rule A → Parse W
empty_parse (Single c) = Nil
empty_parse Empty = Nil
empty_parse (Seq a b) = Pair (empty_parse a) (empty_parse b)
empty_parse (Alt a b) = cond (nullable a) (Left (empty_parse a)) (Right (empty_parse b))
empty_parse (Star r) = Nil

-- `in_first accepts r w` is whether a sentence of `r` begins with `w`.
abbrev pub in_first : {A W : Type 0} → (A → W → Bool) → Rule A → W → Bool
in_first accepts (Single c) w = accepts c w
in_first accepts Empty w = false
in_first accepts (Seq a b) w = in_first accepts a w || (nullable a && in_first accepts b w)
in_first accepts (Alt a b) w = in_first accepts a w || in_first accepts b w
in_first accepts (Star r) w = in_first accepts r w

-- `after accepts r k w` is the rules left of `r` and then `k` once `w` is read, if a sentence of `r`
-- begins with `w`.
abbrev pub after : {A W : Type 0} → (A → W → Bool) → Rule A → List (Rule A) → W → List (Rule A)
after accepts (Single c) k w = k
after accepts Empty k w = k
after accepts (Seq a b) k w = cond (in_first accepts a w) (after accepts a (b ∷ k) w) (after accepts b k w)
after accepts (Alt a b) k w = cond (in_first accepts a w) (after accepts a k w) (after accepts b k w)
after accepts (Star r) k w = after accepts r (Star r ∷ k) w

-- `paired`, `lefted` and `righted` put `Pair`, `Left` and `Right` on top of a list of parses.
abbrev pub paired : {W : Type 0} → List (Parse W) → List (Parse W)
paired [] = []
paired (x ∷ []) = []
paired (x ∷ y ∷ ps) = Pair x y ∷ ps

abbrev pub lefted : {W : Type 0} → List (Parse W) → List (Parse W)
lefted [] = []
lefted (x ∷ ps) = Left x ∷ ps

abbrev pub righted : {W : Type 0} → List (Parse W) → List (Parse W)
righted [] = []
righted (x ∷ ps) = Right x ∷ ps

-- `built accepts r w ps` is the parses of `r` and the rules after it, from the parses `ps` of what
-- is left once `w` is read.
abbrev pub built : {A W : Type 0} → (A → W → Bool) → Rule A → W → List (Parse W) → List (Parse W)
built accepts (Single c) w ps = Leaf w ∷ ps
built accepts Empty w ps = ps
built accepts (Seq a b) w ps = cond (in_first accepts a w) (paired (built accepts a w ps)) (paired (empty_parse a ∷ built accepts b w ps))
built accepts (Alt a b) w ps = cond (in_first accepts a w) (lefted (built accepts a w ps)) (righted (built accepts b w ps))
built accepts (Star r) w ps = paired (built accepts r w ps)

-- `pop accepts k w` is the rules left of `k` once `w` is read, or `None` if no sentence of `k`
-- begins with `w`.
abbrev pub pop : {A W : Type 0} → (A → W → Bool) → List (Rule A) → W → Option (List (Rule A))
pop accepts [] w = None
pop accepts (r ∷ k) w = cond (in_first accepts r w) (Some (after accepts r k w)) (cond (nullable r) (pop accepts k w) None)

-- `push accepts k w ps` is the parses of `k`, from the parses `ps` of what is left once `w` is
-- read.
abbrev pub push : {A W : Type 0} → (A → W → Bool) → List (Rule A) → W → List (Parse W) → List (Parse W)
push accepts [] w ps = ps
push accepts (r ∷ k) w ps = cond (in_first accepts r w) (built accepts r w ps) (empty_parse r ∷ push accepts k w ps)

-- `all_skip k` is whether `k` derives the empty list of words, and `empty_parses k` is how it then reads.
abbrev pub all_skip : {A : Type 0} → List (Rule A) → Bool
all_skip [] = true
all_skip (r ∷ k) = nullable r && all_skip k

abbrev pub empty_parses : {A W : Type 0} → List (Rule A) → List (Parse W)
empty_parses [] = []
empty_parses (r ∷ k) = empty_parse r ∷ empty_parses k

-- `on_ok f r` is `r` with `f` applied to an `Ok`.
abbrev pub on_ok : {X Y : Type 0} → (X → Y) → Result X ℕ → Result Y ℕ
on_ok f (Ok x) = Ok (f x)
on_ok f (Err n) = Err n

-- `run accepts k ws` is the parses of `ws` by `k`, or the number of words left at the error.
unfoldable pub run : {A W : Type 0} → (A → W → Bool) → List (Rule A) → List W → Result (List (Parse W)) ℕ
run accepts k [] = cond (all_skip k) (Ok (empty_parses k)) (Err 0)
run accepts k (w ∷ ws) = elim (pop accepts k w) [ None ↦ Err (length (w ∷ ws)) | Some k' ↦ on_ok (push accepts k w) (run accepts k' ws) ]
