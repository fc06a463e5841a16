-- Auxiliary: a test for the LL(1) property (used by proofs only). It computes FIRST sets as lists
-- of terminals and compares them pairwise, so it decides for the grammar once what `IsLL1` says.
use Rattle.std.specs.Prelude.{Bool, true, not, ◌&&◌, ◌||◌, cond, List, [], ◌∷◌, ◌++◌}
use Rattle.pq_syntax.specs.Rule.{Rule}
use Rattle.pq_syntax.specs.Rule.Rule.{Single, Empty, Seq, Alt, Star}
use Rattle.pq_syntax.specs.aux.Machine.{nullable}

-- `first_set r` is the terminals that a sentence of `r` can begin with.
abbrev pub first_set : {A : Type 0} → Rule A → List A
first_set (Single c) = c ∷ []
first_set Empty = []
first_set (Seq a b) = first_set a ++ cond (nullable a) (first_set b) []
first_set (Alt a b) = first_set a ++ first_set b
first_set (Star r) = first_set r

-- `apart_from apart c ds` and `all_apart apart cs ds` are whether `apart` holds between `c`, or
-- each of `cs`, and each of `ds`.
abbrev pub apart_from : {A : Type 0} → (A → A → Bool) → A → List A → Bool
apart_from apart c [] = true
apart_from apart c (d ∷ ds) = apart c d && apart_from apart c ds

abbrev pub all_apart : {A : Type 0} → (A → A → Bool) → List A → List A → Bool
all_apart apart [] ds = true
all_apart apart (c ∷ cs) ds = apart_from apart c ds && all_apart apart cs ds

-- `is_ll1 apart r follow` is whether one word decides each choice within `r`, if what follows
-- begins with one of `follow`.
abbrev pub is_ll1 : {A : Type 0} → (A → A → Bool) → Rule A → List A → Bool
is_ll1 apart (Single c) follow = true
is_ll1 apart Empty follow = true
is_ll1 apart (Seq a b) follow = is_ll1 apart a (first_set b ++ cond (nullable b) follow []) && is_ll1 apart b follow
is_ll1 apart (Alt a b) follow =
    is_ll1 apart a follow && (is_ll1 apart b follow && (all_apart apart (first_set a) (first_set b) &&
    (not (nullable a && nullable b) && (not (nullable a || nullable b) || all_apart apart (first_set a ++ first_set b) follow))))
is_ll1 apart (Star r) follow = is_ll1 apart r (first_set r ++ follow) && (not (nullable r) && all_apart apart (first_set r) follow)
