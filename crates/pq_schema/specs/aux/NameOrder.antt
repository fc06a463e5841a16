-- Auxiliary: the order of names is total, and its ties are equal names. The lemmas are here, since
-- the laws of the order cite them.
use Rattle.std.proofs.Common.{◌≡◌, ℕ, List, reverse, refl, sym, ap, ◌∙◌}
use Rattle.std.specs.Prelude.{bytes_eq}
use Rattle.std.specs.Cmp.{IsTotalOrder, IsPartialOrder, partial_order_from_agreeing_total, both_ways}
use Rattle.std.specs.Cmp.Lexicographic.{bytes_decides}
use Rattle.std.specs.Ordering.{eq_by_cmp, as_partial_cmp}
use Rattle.std.proofs.lemmas.Cmp.{on_total, nat_list_cmp_total}
use Rattle.std.proofs.lemmas.List.{reverse-reverse}
use Rattle.std.proofs.lemmas.Map.Text.{is_eq-slice_cmp}
use Rattle.pq_schema.specs.aux.NameParts.{name_order}

pub names_total : IsTotalOrder name_order
names_total = on_total (λ (a : List ℕ). reverse a) nat_list_cmp_total

reverse_equal : (a b : List ℕ) → bytes_eq a b ≡ bytes_eq (reverse a) (reverse b)
reverse_equal a b =
    both_ways (bytes_eq a b) (bytes_eq (reverse a) (reverse b))
    (λ e. (bytes_decides (reverse a) (reverse b)).1 (ap reverse ((bytes_decides a b).0 e)))
    (λ e. (bytes_decides a b).1 (sym (reverse-reverse a) ∙ ap reverse ((bytes_decides (reverse a) (reverse b)).0 e) ∙ reverse-reverse b))

pub names_tie : (a b : List ℕ) → bytes_eq a b ≡ eq_by_cmp name_order a b
names_tie a b = reverse_equal a b ∙ sym (is_eq-slice_cmp (reverse a) (reverse b))

pub names_partial : IsPartialOrder bytes_eq (as_partial_cmp name_order)
names_partial = partial_order_from_agreeing_total name_order names_total (λ a b. refl) names_tie
