-- Auxiliary: the order of names by their codes is total, and its ties are equal names. The lemmas
-- are here, since the laws of the order cite them.
use Rattle.std.proofs.Common.{◌≡◌, ℕ, List, true, refl, sym, ap, ◌∙◌, true≢false}
use Rattle.std.specs.Prelude.{bytes_eq}
use Rattle.std.specs.Cmp.{IsTotalOrder, IsPartialOrder, partial_order_from_agreeing_total, both_ways}
use Rattle.std.specs.Cmp.Lexicographic.{bytes_decides}
use Rattle.std.specs.Ordering.{nat_cmp, is_eq, eq_by_cmp, as_partial_cmp, ordering_then}
use Rattle.std.specs.declared.cmp.Ordering.{Ordering}
use Rattle.std.specs.declared.cmp.Ordering.TheVariants.{Less, Equal, Greater}
use Rattle.std.proofs.lemmas.Cmp.{on_total, then_total, tied_itself, nat_cmp_total}
use Rattle.pq_schema.specs.aux.NameParts.{name_order}
use Rattle.pq_schema.specs.aux.NameOrder.{names_total, names_tie}
use Rattle.pq_schema.specs.aux.NameCodes.{code_of, code_order}

pub codes_total : IsTotalOrder code_order
codes_total = then_total (on_total code_of nat_cmp_total) names_total

-- the second of two orders is tied where both together are
second : (o p : Ordering) → is_eq (ordering_then o p) ≡ true → is_eq p ≡ true
second Less p e = absurd (true≢false (sym e))
second Equal p e = e
second Greater p e = absurd (true≢false (sym e))

itself : (a : List ℕ) → is_eq (code_order a a) ≡ true
itself a = ap is_eq (tied_itself codes_total a)

pub codes_tie : (a b : List ℕ) → bytes_eq a b ≡ eq_by_cmp code_order a b
codes_tie a b =
    both_ways (bytes_eq a b) (is_eq (code_order a b))
    (λ e. sym (ap (λ (n : List ℕ). is_eq (code_order a n)) ((bytes_decides a b).0 e)) ∙ itself a)
    (λ e. names_tie a b ∙ second (nat_cmp (code_of a) (code_of b)) (name_order a b) e)

pub codes_partial : IsPartialOrder bytes_eq (as_partial_cmp code_order)
codes_partial = partial_order_from_agreeing_total code_order codes_total (λ a b. refl) codes_tie
