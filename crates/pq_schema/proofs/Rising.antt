-- Entries of names with places, sorted by name, then by place: their names rise.
use Rattle.std.proofs.Common.{◌≡◌, ℕ, ◌<◌, ◌≤◌, true, false, length, get_or, List, refl, sym, ap, ◌∙◌, true≢false}
use Rattle.std.specs.List.Sorted.{IsSorted, IsPartitionedBy}
use Rattle.std.specs.Cmp.{IsTotalOrder}
use Rattle.std.specs.Ordering.{nat_cmp, is_lt, ordering_then, ordering_reverse}
use Rattle.std.specs.declared.cmp.Ordering.{Ordering}
use Rattle.std.specs.declared.cmp.Ordering.TheVariants.{Less, Equal, Greater}
use Rattle.std.proofs.lemmas.Cmp.{tied_itself, on_total, then_total, nat_cmp_total}
use Rattle.std.proofs.lemmas.List.Sorted.{sorted_far, ranks_by}

pub by_order : (o : Ordering) (P : Type 0) → (o ≡ Less → P) → (o ≡ Equal → P) → (o ≡ Greater → P) → P
by_order Less P f g h = f refl
by_order Equal P f g h = g refl
by_order Greater P f g h = h refl

module _ (order : List ℕ → List ℕ → Ordering) (total : IsTotalOrder order) where
  abbrev pub by_name : List ℕ × ℕ → List ℕ × ℕ → Ordering
  by_name a b = ordering_then (order a.0 b.0) (nat_cmp a.1 b.1)

  pub by_name_total : IsTotalOrder by_name
  by_name_total = then_total (on_total (λ (e : List ℕ × ℕ). e.0) total) (on_total (λ (e : List ℕ × ℕ). e.1) nat_cmp_total)

  pub not_below_itself : (a : List ℕ) → is_lt (order a a) ≡ true → ⊥
  not_below_itself a h = true≢false (sym h ∙ ap is_lt (tied_itself total a))

  -- of two names neither of which is below the other
  pub tied : (a b : List ℕ) → is_lt (order a b) ≡ false → is_lt (order b a) ≡ false → order a b ≡ Equal
  tied a b up down = by_order (order a b) (order a b ≡ Equal)
      (λ e. absurd (true≢false (sym (ap is_lt e) ∙ up)))
      (λ e. e)
      (λ e. absurd (true≢false (sym (ap is_lt (total.antisymm b a ∙ ap ordering_reverse e)) ∙ down)))

  -- entries that do not come before others have names that do not
  pub names_up : (a b : List ℕ × ℕ) → is_lt (by_name a b) ≡ false → is_lt (order a.0 b.0) ≡ false
  names_up a b h = by_order (order a.0 b.0) (is_lt (order a.0 b.0) ≡ false)
      (λ e. absurd (true≢false (sym (ap (λ (o : Ordering). is_lt (ordering_then o (nat_cmp a.1 b.1))) e) ∙ h)))
      (λ e. ap is_lt e) (λ e. ap is_lt e)

  -- what is not greater than a name below `t` is below `t`
  pub below_before : (a b t : List ℕ) → is_lt (order b a) ≡ false → is_lt (order b t) ≡ true → is_lt (order a t) ≡ true
  below_before a b t up less =
      let b_less : order b t ≡ Less = by_order (order b t) (order b t ≡ Less) (λ e. e)
      (λ e. absurd (true≢false (sym less ∙ ap is_lt e))) (λ e. absurd (true≢false (sym less ∙ ap is_lt e))) in
      by_order (order a b) (is_lt (order a t) ≡ true)
      (λ e. ap is_lt (total.trans a b t e b_less))
      (λ e. ap is_lt (total.congr a b t e ∙ b_less))
      (λ e. absurd (true≢false (sym (ap is_lt (total.antisymm b a ∙ ap ordering_reverse e)) ∙ up)))

  -- the names rise
  pub rises : (index : List (List ℕ × ℕ)) → IsSorted by_name index → (i j : ℕ) (d : List ℕ × ℕ) → i ≤ j → j < length index
      → is_lt (order (get_or index j d).0 (get_or index i d).0) ≡ false
  rises index sorted i j d up within =
      names_up (get_or index j d) (get_or index i d)
      (sorted_far (λ (x y : List ℕ × ℕ). is_lt (by_name x y)) (ranks_by by_name_total (λ (e : List ℕ × ℕ). e)) index sorted i j d up within)

  -- those whose name is below `t` come first
  pub parted : (index : List (List ℕ × ℕ)) → IsSorted by_name index → (t : List ℕ) → IsPartitionedBy (λ (e : List ℕ × ℕ). is_lt (order e.0 t)) index
  parted index sorted t i j d up within less =
      below_before (get_or index i d).0 (get_or index j d).0 t (rises index sorted i j d up within) less
