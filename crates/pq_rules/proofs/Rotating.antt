-- A list of distinct keys, rotated so that its least key is the first.
use Rattle.std.proofs.Common.{◌≡◌, ℕ, ◌<◌, List, ◌∷◌, ◌++◌, length, take, drop, get_or, refl, sym, ap, subst, ◌∙◌, inl, inr, false}
use Rattle.std.specs.declared.cmp.Ordering.{Ordering}
use Rattle.std.specs.declared.cmp.Ordering.TheVariants.{Equal, Less, Greater}
use Rattle.std.specs.Ordering.{is_gt}
use Rattle.pq_rules.specs.declared.scratch.Frame.{Frame}
use Rattle.pq_rules.specs.Relations.{In}
use Rattle.pq_rules.specs.aux.Evaluator.{frame_keys, IsLeastAt, RotatedToLeast, Distinct}
use Rattle.pq_rules.specs.aux.Lists.{in_append, in_append_left, in_append_right}
use Rattle.pq_rules.proofs.ListLemmas.{split, frame_keys_append, each_from, in_index, in_keys, distinct_middle}

pub below : (o : Ordering) → is_gt o ≡ false → (o ≡ Equal → ⊥) → o ≡ Less
below Less h n = refl
below Equal h n = absurd (n refl)
below Greater h n = cc

pub rotated : {K P : Type 0} (order : K → K → Ordering) → ((a b : K) → order a b ≡ Equal → a ≡ b)
    → (fs : List (Frame K P)) (i : ℕ) → i < length fs → IsLeastAt order fs i → Distinct (frame_keys fs)
    → RotatedToLeast order (frame_keys fs) (frame_keys (drop i fs) ++ frame_keys (take i fs))
unfolding IsLeastAt RotatedToLeast
rotated {K} {P} order exact fs i h least distinct =
    let s = split fs i h in
    let whole : frame_keys fs ≡ frame_keys s.front ++ s.item.key ∷ frame_keys s.back =
    ap (λ (xs : List (Frame K P)). frame_keys xs) s.whole ∙ frame_keys_append s.front (s.item ∷ s.back) in
    let alone = distinct_middle (frame_keys s.front) s.item.key (frame_keys s.back) (subst (λ (ks : List K). Distinct ks) whole distinct) in
    let member : (y : K) → In y (frame_keys s.back ++ frame_keys s.front) → In y (frame_keys fs) =
    λ y j. subst (λ (ks : List K). In y ks) (sym whole)
    (elim (in_append y (frame_keys s.back) (frame_keys s.front) j) [
      | inl b ↦ in_append_right y (frame_keys s.front) (s.item.key ∷ frame_keys s.back) (inr b)
      | inr f ↦ in_append_left y (frame_keys s.front) (s.item.key ∷ frame_keys s.back) f
    ]) in
    let low : (y : K) → In y (frame_keys fs) → is_gt (order s.item.key y) ≡ false =
    λ y j. let f = in_keys y fs j in
    let at = in_index f.0 s.item fs f.1 in
    let l = least at.0 s.item at.1 in
    subst (λ (w : K). is_gt (order s.item.key w) ≡ false) f.2
    (subst (λ (g : Frame K P). is_gt (order s.item.key g.key) ≡ false) at.2
    (subst (λ (g : Frame K P). is_gt (order g.key (get_or fs at.0 s.item).key) ≡ false) (s.at s.item) l)) in (
      frame_keys s.front,
      s.item.key,
      frame_keys s.back,
      whole,
      (let a : drop i fs ≡ s.item ∷ s.back = s.left in let b : take i fs ≡ s.front = s.taken in cc),
      each_from (λ y. order s.item.key y ≡ Less) (frame_keys s.back ++ frame_keys s.front)
          (λ y j. below (order s.item.key y) (low y (member y j))
          (λ e. alone (subst (λ (w : K). In w (frame_keys s.back ++ frame_keys s.front)) (sym (exact s.item.key y e)) j))),
    )
