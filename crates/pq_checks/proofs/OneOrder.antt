-- A list put in order rises strictly and has the same elements, and it is the only such list.
use Rattle.std.specs.Prelude.{◌≡◌, ◌↔◌, ◌||◌, Bool, true, false, List, [], ◌∷◌, Contains, IsTrue, refl}
use Rattle.std.proofs.Common.{◌+◌, sym, ◌∙◌, ap, subst, arith}
use Rattle.std.specs.List.{list_any}
use Rattle.std.specs.List.Sorted.{IsStrictlySortedBy}
use Rattle.std.specs.Cmp.{IsTotalOrder}
use Rattle.std.specs.Ordering.{is_eq, match_ordering, ordering_reverse}
use Rattle.std.specs.BTreeSet.{BTreeSet, insert_key}
use Rattle.std.specs.declared.cmp.Ordering.{Ordering}
use Rattle.std.specs.declared.cmp.Ordering.TheVariants.{Less, Equal, Greater}
use Rattle.std.proofs.lemmas.Cmp.{alike_right}
use Rattle.std.proofs.lemmas.List.Elements.{All-from_recursion, recursion_from_All, All-weaker}
use Rattle.std.proofs.lemmas.Map.Lookups.{CmpEqualImpliesEq, btree_set_from_contains}
use Rattle.std.proofs.lemmas.Map.Views.{All-insert_key, btree_set_contains_iff}
use Rattle.std.proofs.lemmas.Map.Keys.{Less-from_sorted, sorted_from_all_adjacent}
use Rattle.pq_checks.specs.InOrder.{in_order, IsInOrder}

-- `set_of xs` is the set of the keys `xs`, which are in order
abbrev pub set_of : {X : Type 0} → List X → BTreeSet X
set_of xs = record { keys = xs }

or_twice : (a b : Bool) → (a || b) ≡ (a || (a || b))
or_twice true b = refl
or_twice false b = refl

or_swap : (a b c : Bool) → (a || (b || c)) ≡ (b || (a || c))
or_swap true true c = refl
or_swap true false c = refl
or_swap false true c = refl
or_swap false false c = refl

same_tests : (a b : Bool) → (IsTrue a → IsTrue b) → (IsTrue b → IsTrue a) → a ≡ b
same_tests true true f g = refl
same_tests true false f g = cc (f refl)
same_tests false true f g = cc (g refl)
same_tests false false f g = refl

module _ {X : Type 0} {R : X → X → Ordering} (o : IsTotalOrder R) where
  -- `has xs x` is that some element of `xs` is equal to `x`
  abbrev pub has : List X → X → Bool
  has xs x = list_any (λ y. is_eq (R x y)) xs

  has-insert : (ys : List X) (x q : X) → has (insert_key R ys x) q ≡ (is_eq (R q x) || has ys q)
  has-insert [] x q = refl
  has-insert (y ∷ ys) x q = by (has-insert ys x q) (R x y) refl
    where
      by : has (insert_key R ys x) q ≡ (is_eq (R q x) || has ys q) → (r : Ordering) → R x y ≡ r → has (match_ordering r (x ∷ y ∷ ys) (y ∷ ys) (y ∷ insert_key R ys x)) q ≡ (is_eq (R q x) || (is_eq (R q y) || has ys q))
      by rest Less e = refl
      by rest Equal e = rw (alike_right o x y q e) (or_twice (is_eq (R q y)) (has ys q))
      by rest Greater e = ap (λ b. is_eq (R q y) || b) rest ∙ or_swap (is_eq (R q y)) (is_eq (R q x)) (has ys q)

  has-in_order : (xs : List X) (q : X) → has (in_order R xs) q ≡ has xs q
  unfolding in_order
  has-in_order [] q = refl
  has-in_order (x ∷ xs) q = has-insert (in_order R xs) x q ∙ ap (λ b. is_eq (R q x) || b) (has-in_order xs q)

  sorted-insert : (ys : List X) (x : X) → IsStrictlySortedBy R ys → IsStrictlySortedBy R (insert_key R ys x)
  unfolding IsStrictlySortedBy
  sorted-insert [] x s = (tt, tt)
  sorted-insert (y ∷ ys) x s = by (sorted-insert ys x s.1) (R x y) refl
    where
      by : IsStrictlySortedBy R (insert_key R ys x) → (r : Ordering) → R x y ≡ r → IsStrictlySortedBy R (match_ordering r (x ∷ y ∷ ys) (y ∷ ys) (y ∷ insert_key R ys x))
      by rest Less e =
          let behind = All-from_recursion (λ z. R y z ≡ Less) ys s.0 in
          ((e, recursion_from_All (λ z. R x z ≡ Less) ys (All-weaker (λ z. R y z ≡ Less) (λ z. R x z ≡ Less) (λ z h. o.trans x y z e h) ys behind)), s)
      by rest Equal e = s
      by rest Greater e =
          let before : R y x ≡ Less = o.antisymm y x ∙ ap ordering_reverse e in
          let behind = All-from_recursion (λ z. R y z ≡ Less) ys s.0 in
          (recursion_from_All (λ z. R y z ≡ Less) (insert_key R ys x) (All-insert_key R x (λ z. R y z ≡ Less) ys behind before), rest)

  pub sorted-in_order : (xs : List X) → IsStrictlySortedBy R (in_order R xs)
  unfolding IsStrictlySortedBy in_order
  sorted-in_order [] = tt
  sorted-in_order (x ∷ xs) = sorted-insert (in_order R xs) x (sorted-in_order xs)

  module _ (exact : CmpEqualImpliesEq R) where
    -- two lists in order with the same elements are one
    pub one_order : (xs ys : List X) → IsStrictlySortedBy R xs → IsStrictlySortedBy R ys → ((x : X) → Contains xs x → Contains ys x) → ((x : X) → Contains ys x → Contains xs x) → xs ≡ ys
    one_order xs ys s t f g =
        btree_set_from_contains o (set_of xs) (set_of ys) s t (λ q.
        let here = btree_set_contains_iff o exact (set_of xs) q in
        let there = btree_set_contains_iff o exact (set_of ys) q in
        same_tests (has xs q) (has ys q) (λ h. there.1 (f q (here.0 h))) (λ h. here.1 (g q (there.0 h)))) exact

    pub kept-in_order : (xs : List X) (x : X) → Contains xs x → Contains (in_order R xs) x
    kept-in_order xs x h =
        let here = btree_set_contains_iff o exact (set_of xs) x in
        let there = btree_set_contains_iff o exact (set_of (in_order R xs)) x in
        there.0 (subst IsTrue (sym (has-in_order xs x)) (here.1 h))

    pub from-in_order : (xs : List X) (x : X) → Contains (in_order R xs) x → Contains xs x
    from-in_order xs x h =
        let here = btree_set_contains_iff o exact (set_of xs) x in
        let there = btree_set_contains_iff o exact (set_of (in_order R xs)) x in
        here.0 (subst IsTrue (has-in_order xs x) (there.1 h))

  pub ordered_in_order : (xs : List X) → IsInOrder R (in_order R xs)
  ordered_in_order xs i j d lt in_range = Less-from_sorted R (in_order R xs) i j d (sorted-in_order xs) lt in_range

  strictly : (xs : List X) → IsInOrder R xs → IsStrictlySortedBy R xs
  unfolding IsStrictlySortedBy
  strictly [] s = tt
  strictly (x ∷ xs) s = sorted_from_all_adjacent o (x ∷ xs) x (λ k lt. s k (k + 1) x (omega arith) lt)

  pub members_in_order : ((x y : X) → R x y ≡ Equal → x ≡ y) → (xs : List X) (x : X) → Contains (in_order R xs) x ↔ Contains xs x
  members_in_order exact xs x = (from-in_order exact xs x, kept-in_order exact xs x)

  pub only_in_order : ((x y : X) → R x y ≡ Equal → x ≡ y) → (xs ys : List X) → IsInOrder R ys → ((x : X) → Contains ys x ↔ Contains xs x) → ys ≡ in_order R xs
  only_in_order exact xs ys s same =
      one_order exact ys (in_order R xs) (strictly ys s) (sorted-in_order xs)
      (λ x h. (members_in_order exact xs x).1 ((same x).0 h)) (λ x h. (same x).1 ((members_in_order exact xs x).0 h))
