-- The search of a sorted list of parts for the last entry of a part.
use Rattle.std.proofs.Common.{◌≡◌, ℕ, ◌-◌, ◌<◌, ◌≤◌, Bool, true, false, true≢false, cond, nat_eq, nat_lt, length, get_or, List, [], Some, None, refl, sym, ap, subst, ◌∙◌, inl, inr, arith}
use Rattle.std.specs.Prelude.{not}
use Rattle.std.specs.List.{Contains}
use Rattle.std.specs.List.Sorted.{IsPartitionedBy, IsSorted}
use Rattle.std.specs.Cmp.Lexicographic.{bytes_decides, slice_cmp}
use Rattle.std.specs.Ordering.{is_eq, is_lt, nat_cmp, ordering_then, ordering_reverse}
use Rattle.std.specs.declared.cmp.Ordering.{Ordering}
use Rattle.std.specs.declared.cmp.Ordering.TheVariants.{Less, Equal, Greater}
use Rattle.std.proofs.lemmas.Bool.{cases_lt}
use Rattle.std.proofs.lemmas.Bool.Decides.{nat_tests}
use Rattle.std.proofs.lemmas.Cmp.{nat_list_cmp_total, tied_itself}
use Rattle.std.proofs.lemmas.List.{get_or_default}
use Rattle.std.proofs.lemmas.List.Sorted.{sorted_far, ranks_by}
use Rattle.std.proofs.lemmas.Map.Text.{is_eq-slice_cmp}
use Rattle.pq_schema.specs.aux.Along.{IsLastStart}
use Rattle.pq_schema.specs.aux.Grouping.{root_order}
use Rattle.pq_schema.proofs.Cases.{either}
use Rattle.pq_schema.proofs.Rising.{by_name_total, by_order, not_below_itself, rises, tied}

abbrev pub order : List ℕ → List ℕ → Ordering
order = slice_cmp nat_cmp

abbrev pub no_entry : List ℕ × ℕ
no_entry = ([], 0)

abbrev pub is_up_to : List ℕ → List ℕ × ℕ → Bool
is_up_to name e = not (is_lt (order name e.0))

pub not_true : (b : Bool) → not b ≡ true → b ≡ false
not_true true h = sym h
not_true false h = refl

pub above : (b : Bool) → not b ≡ false → b ≡ true
above true h = refl
above false h = sym h

-- what comes before an entry comes before the later ones
later : (t a b : List ℕ) → is_lt (order b a) ≡ false → is_lt (order t a) ≡ true → is_lt (order t b) ≡ true
later t a b rise less =
    let t_less : order t a ≡ Less = by_order (order t a) (order t a ≡ Less) (λ e. e)
    (λ e. absurd (true≢false (sym less ∙ ap is_lt e))) (λ e. absurd (true≢false (sym less ∙ ap is_lt e))) in
    by_order (order a b) (is_lt (order t b) ≡ true)
    (λ e. ap is_lt (nat_list_cmp_total.trans t a b t_less e))
    (λ e. ap is_lt (nat_list_cmp_total.antisymm t b ∙ ap ordering_reverse (sym (nat_list_cmp_total.congr a b t e)) ∙ sym (nat_list_cmp_total.antisymm t a)) ∙ less)
    (λ e. absurd (true≢false (sym (ap is_lt (nat_list_cmp_total.antisymm b a ∙ ap ordering_reverse e)) ∙ rise)))

module _ (parts : List (List ℕ × ℕ)) (sorted : IsSorted root_order parts) (name : List ℕ) where
  -- those that do not come after `name` come first
  pub parted_to : IsPartitionedBy (is_up_to name) parts
  parted_to i j d up within h =
      either (is_lt (order name (get_or parts i d).0)) (λ b. not b ≡ true)
      (λ e. absurd (true≢false (sym
      (later name (get_or parts i d).0 (get_or parts j d).0 (rises order nat_list_cmp_total parts sorted i j d up within) e)
      ∙ not_true (is_lt (order name (get_or parts j d).0)) h)))
      (λ _. refl)

  module _ (n : ℕ) (bound : n ≤ length parts)
      (low : (k : ℕ) → k < n → is_lt (order name (get_or parts k no_entry).0) ≡ false)
      (others : (k : ℕ) → n ≤ k → k < length parts → is_lt (order name (get_or parts k no_entry).0) ≡ true) where
    entry_is : (start : ℕ) (c : Contains parts (name, start)) → get_or parts c.0 no_entry ≡ (name, start)
    entry_is start c = get_or_default parts c.0 no_entry (name, start) c.1 ∙ c.2

    -- an entry of `name` is before `n`
    before : (start : ℕ) (c : Contains parts (name, start)) → c.0 < n
    before start c = elim (cases_lt c.0 n) [
      | inl below ↦ below
      | inr past ↦ absurd (not_below_itself order nat_list_cmp_total name (subst (λ (e : List ℕ × ℕ). is_lt (order name e.0) ≡ true) (entry_is start c) (others c.0 past c.1)))
    ]

    pub none_there : n ≡ 0 → IsLastStart parts name None
    none_there none start c = let below = before start c in absurd (omega arith)

    -- the last of them is the entry before `n`
    pub other_last : 0 < n → ((get_or parts (n - 1) no_entry).0 ≡ name → ⊥) → IsLastStart parts name None
    other_last some other start c =
        let below = before start c in
        let e = get_or parts (n - 1) no_entry in
        let up : is_lt (order e.0 name) ≡ false =
        subst (λ (f : List ℕ × ℕ). is_lt (order e.0 f.0) ≡ false) (entry_is start c)
        (rises order nat_list_cmp_total parts sorted c.0 (n - 1) no_entry (omega arith) (omega arith)) in
        let tie = tied order nat_list_cmp_total e.0 name up (low (n - 1) (omega arith)) in
        other ((bytes_decides e.0 name).0 (sym (is_eq-slice_cmp e.0 name) ∙ ap is_eq tie))

    pub found_last : 0 < n → (get_or parts (n - 1) no_entry).0 ≡ name → IsLastStart parts name (Some (get_or parts (n - 1) no_entry).1)
    found_last some is =
        let e = get_or parts (n - 1) no_entry in
        let e_is : e ≡ (name, e.1) = ap (λ (m : List ℕ). (m, e.1)) is in (
          (n - 1, (omega arith), get_or_default parts (n - 1) (name, e.1) no_entry (omega arith) ∙ e_is),
          λ other c.
              let below = before other c in
              let far : is_lt (root_order e (get_or parts c.0 no_entry)) ≡ false =
              sorted_far (λ (x y : List ℕ × ℕ). is_lt (root_order x y)) (ranks_by (by_name_total order nat_list_cmp_total) (λ (f : List ℕ × ℕ). f)) parts sorted c.0 (n - 1) no_entry (omega arith) (omega arith) in
              let far_there : is_lt (ordering_then (order e.0 name) (nat_cmp e.1 other)) ≡ false =
              subst (λ (f : List ℕ × ℕ). is_lt (root_order e f) ≡ false) (entry_is other c) far in
              let far_names : is_lt (ordering_then (order name name) (nat_cmp e.1 other)) ≡ false =
              subst (λ (m : List ℕ). is_lt (ordering_then (order m name) (nat_cmp e.1 other)) ≡ false) is far_there in
              let far_starts : is_lt (nat_cmp e.1 other) ≡ false =
              subst (λ (o : Ordering). is_lt (ordering_then o (nat_cmp e.1 other)) ≡ false) (tied_itself nat_list_cmp_total name) far_names in
              elim (cases_lt e.1 other) [
                | inl less ↦
                    let test : nat_lt e.1 other ≡ true = grind (arith, nat_tests) in
                    absurd (true≢false (sym (ap (λ b. is_lt (cond b Less (cond (nat_eq e.1 other) Equal Greater))) test) ∙ far_starts))
                | inr up ↦ up
              ],
        )
