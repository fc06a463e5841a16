-- The search for the frame of the least key.
use Rattle.std.proofs.Common.{◌≡◌, ℕ, ◌+◌, ◌<◌, ◌⊎◌, List, length, get_or, refl, sym, ap, ap₂, subst, ◌∙◌, inl, inr, arith, Bool, true, false, IsTrue, is_gt}
use Rattle.std.specs.declared.cmp.Ordering.{Ordering}
use Rattle.std.specs.declared.cmp.Ordering.TheVariants.{Equal, Less, Greater}
use Rattle.std.specs.Ordering.{is_lt, is_le, ordering_reverse}
use Rattle.std.specs.Cmp.{IsTotalOrder, tied_itself}
use Rattle.std.specs.BTreeMap.Comparable.{le_lt_trans}
use Rattle.std.proofs.lemmas.List.{get_or_default}
use Rattle.pq_memo.specs.declared.stepping.frame.Frame.{Frame}

less_is : (o : Ordering) → is_lt o ≡ true → o ≡ Less
less_is Less h = refl
less_is Equal h = cc
less_is Greater h = cc

le_is : (o : Ordering) → is_gt o ≡ false → IsTrue (is_le o)
le_is Less h = refl
le_is Equal h = refl
le_is Greater h = cc

turned_gt : (o : Ordering) → is_lt o ≡ false → is_gt (ordering_reverse o) ≡ false
turned_gt Less h = cc
turned_gt Equal h = refl
turned_gt Greater h = refl

module _ {K : Type 0} (order : K → K → Ordering) (total : IsTotalOrder order) where
  itself : (a : K) → is_gt (order a a) ≡ false
  itself a = ap is_gt (tied_itself total a)

  below : (a l j : K) → order a l ≡ Less → is_gt (order l j) ≡ false → (o : Ordering) → order a j ≡ o → is_gt o ≡ false
  below a l j h low Less e = refl
  below a l j h low Equal e = refl
  below a l j h low Greater e =
      let turned : order j a ≡ Less = total.antisymm j a ∙ ap ordering_reverse e in
      let less : order l a ≡ Less = le_lt_trans total l j a (le_is (order l j) low) turned in
      let back : order a l ≡ Greater = total.antisymm a l ∙ ap ordering_reverse less in
      cc

  above : (a l : K) → is_lt (order a l) ≡ false → is_gt (order l a) ≡ false
  above a l h = ap is_gt (total.antisymm l a) ∙ turned_gt (order a l) h

  either_place : (j i : ℕ) → j < i + 1 → (j < i) ⊎ (j ≡ i)
  either_place j i h = grind arith

  module _ {P : Type 0} (fs : List (Frame K P)) (i least : ℕ) (x y : Frame K P) (o : Ordering) (b : Bool) (x_is : x ≡ get_or fs i x) (y_is : y ≡ get_or fs least y)
      (within : i < length fs) (inside : least < length fs) (read : o ≡ order (get_or fs i x).key (get_or fs least y).key) (b_is : b ≡ is_lt o)
      (low : (j : ℕ) (d : Frame K P) → j < i → is_gt (order (get_or fs least d).key (get_or fs j d).key) ≡ false) where
    o_is : o ≡ order x.key y.key
    o_is = read ∙ ap₂ (λ (a c : Frame K P). order a.key c.key) (sym x_is) (sym y_is)

    at_i : (d : Frame K P) → get_or fs i d ≡ x
    at_i d = get_or_default fs i d x within ∙ sym x_is

    at_least : (d : Frame K P) → get_or fs least d ≡ y
    at_least d = get_or_default fs least d y inside ∙ sym y_is

    pub least_then : (next : ℕ) → b ≡ true → next ≡ i → (j : ℕ) (d : Frame K P) → j < i + 1 → is_gt (order (get_or fs next d).key (get_or fs j d).key) ≡ false
    least_then next yes_ n j d h =
        subst (λ (k : ℕ). is_gt (order (get_or fs k d).key (get_or fs j d).key) ≡ false) (sym n)
        (elim (either_place j i h) [
          | inl lt ↦ below (get_or fs i d).key (get_or fs least d).key (get_or fs j d).key less (low j d lt) (order (get_or fs i d).key (get_or fs j d).key) refl
          | inr e ↦ subst (λ (k : ℕ). is_gt (order (get_or fs i d).key (get_or fs k d).key) ≡ false) (sym e) (itself (get_or fs i d).key)
        ])
      where
        less : order (get_or fs i d).key (get_or fs least d).key ≡ Less
        less = subst (λ (f : Frame K P). order f.key (get_or fs least d).key ≡ Less) (sym (at_i d))
            (subst (λ (f : Frame K P). order x.key f.key ≡ Less) (sym (at_least d)) (sym o_is ∙ less_is o (sym b_is ∙ yes_)))

    pub least_else : (next : ℕ) → b ≡ false → next ≡ least → (j : ℕ) (d : Frame K P) → j < i + 1 → is_gt (order (get_or fs next d).key (get_or fs j d).key) ≡ false
    least_else next not_ n j d h =
        subst (λ (k : ℕ). is_gt (order (get_or fs k d).key (get_or fs j d).key) ≡ false) (sym n)
        (elim (either_place j i h) [
          | inl lt ↦ low j d lt
          | inr e ↦ subst (λ (k : ℕ). is_gt (order (get_or fs least d).key (get_or fs k d).key) ≡ false) (sym e) there
        ])
      where
        there : is_gt (order (get_or fs least d).key (get_or fs i d).key) ≡ false
        there = subst (λ (f : Frame K P). is_gt (order (get_or fs least d).key f.key) ≡ false) (sym (at_i d))
            (subst (λ (f : Frame K P). is_gt (order f.key x.key) ≡ false) (sym (at_least d))
            (above x.key y.key (ap is_lt (sym o_is) ∙ sym b_is ∙ not_)))
