-- Auxiliary: keys and values of the example that compare as equal are equal (used by proofs and
-- invariants only).
use Rattle.std.specs.Prelude.{ℕ, ◌≡◌, List, IsTrue, IsSome, ◌↔◌, Some, None}
use Rattle.std.proofs.Common.{refl, ap, sym, ◌∙◌}
use Rattle.std.specs.Cmp.Lexicographic.{slice_cmp}
use Rattle.std.specs.Ordering.{nat_cmp}
use Rattle.std.specs.declared.cmp.Ordering.TheVariants.{Equal}
use Rattle.std.specs.Cmp.{Equal-is}
use Rattle.std.proofs.lemmas.Map.Text.{is_eq-slice_cmp}
use Rattle.std.proofs.lemmas.Slice.Eq.{bytes_eq-Decides}
use borrow.Author.Tests.{eqb-true}
use Rattle.pq_rules.specs.contracts.sums.SumsKeyOrd.TheImpl as key_order
use Rattle.pq_rules.specs.contracts.sums.SumsValuePartialEq.TheImpl as value_eq
use Rattle.pq_rules.specs.declared.sums.SumsValue.{SumsValue}
use Rattle.pq_rules.specs.declared.sums.SumsValue.TheVariants.{Source, Number}
use Rattle.pq_rules.specs.declared.sums.SumsKey.{SumsKey}
use Rattle.pq_rules.specs.declared.sums.SumsKey.TheVariants.{Input, Sum, Total}
use Rattle.pq_rules.specs.sums.RuleSet.{sums_level, sums_file}

pub sums_inputs : (k : SumsKey) → (sums_level k ≡ 0) ↔ IsSome (sums_file k)
sums_inputs (Input f) = (λ e. refl, λ e. refl)
sums_inputs (Sum f) = (λ e. cc, λ e. cc)
sums_inputs (Total f) = (λ e. cc, λ e. cc)

same_text : (x y : List ℕ) → slice_cmp nat_cmp x y ≡ Equal → x ≡ y
same_text x y e = (bytes_eq-Decides x y).0 (sym (is_eq-slice_cmp x y) ∙ (Equal-is (slice_cmp nat_cmp x y)).1 e)

pub key_exact : (a b : SumsKey) → key_order.ghosts.cmp a b ≡ Equal → a ≡ b
key_exact (Input x) (Input y) e = ap (λ t. Input t) (same_text x y e)
key_exact (Input x) (Sum y) e = cc
key_exact (Input x) (Total y) e = cc
key_exact (Sum x) (Input y) e = cc
key_exact (Sum x) (Sum y) e = ap (λ t. Sum t) (same_text x y e)
key_exact (Sum x) (Total y) e = cc
key_exact (Total x) (Input y) e = cc
key_exact (Total x) (Sum y) e = cc
key_exact (Total x) (Total y) e = ap (λ t. Total t) (same_text x y e)

pub value_exact : (a b : SumsValue) → IsTrue (value_eq.ghosts.eq a b) → a ≡ b
value_exact (Source None) (Source None) e = refl
value_exact (Source None) (Source (Some y)) e = cc
value_exact (Source (Some x)) (Source None) e = cc
value_exact (Source (Some x)) (Source (Some y)) e = ap (λ t. Source (Some t)) ((bytes_eq-Decides x y).0 e)
value_exact (Source x) (Number y) e = cc
value_exact (Number x) (Source y) e = cc
value_exact (Number x) (Number y) e = ap (λ t. Number t) (eqb-true x y e)
