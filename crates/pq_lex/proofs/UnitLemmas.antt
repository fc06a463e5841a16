-- Sums of units, and the first byte of a character.
use Rattle.std.proofs.Common.{◌≡◌, ℕ, zero, suc, ◌+◌, ◌-◌, ◌<◌, ◌≤◌, ◌==◌, ◌&&◌, false, List, length, take, get_or, nat_lt, sum, refl, ap, arith, sub-one}
use Rattle.std.proofs.lemmas.List.{take_all, take-take}
use Rattle.std.proofs.lemmas.List.Sums.{sum_by-take-drop, sum_by-drop_more, sum_by-take-le}
use Rattle.std.proofs.lemmas.Bool.{lt-ltb}
use Rattle.std.proofs.lemmas.Bool.Decides.{nat_tests}
use Rattle.pq_lex.specs.aux.LineMarks.{lead_index, IsByte}

pub sum_take : (xs : List ℕ) (i : ℕ) → i < length xs → sum (take (i + 1) xs) ≡ sum (take i xs) + get_or xs i 0
sum_take xs i h = omega (arith, sum_by-take-drop (λ x. x) xs i, sum_by-take-drop (λ x. x) xs (i + 1), sum_by-drop_more (λ x. x) xs i 0 h)

pub sum_take_le : (xs : List ℕ) (i j : ℕ) → i ≤ j → sum (take i xs) ≤ sum (take j xs)
sum_take_le xs i j h = omega (arith, sum_by-take-le (λ x. x) (take j xs) i, ap sum (take-take i j xs h))

pub lead_on : (u : List ℕ) (i : ℕ) → 0 < i → i < length u → get_or u i 0 ≡ 0 → lead_index u i ≡ lead_index u (i - 1)
unfolding lead_index
lead_on u zero p h e = absurd (omega (arith, p))
lead_on u (suc i) p h e = rw (lt-ltb (suc i) (length u) h, e, sub-one) refl

pub lead_stop : (u : List ℕ) (i : ℕ) → (i < length u → get_or u i 0 ≡ 0 → ⊥) → lead_index u i ≡ i
unfolding lead_index
lead_stop u zero h = refl
lead_stop u (suc i) h = let e : (nat_lt (suc i) (length u) && (get_or u (suc i) 0 == 0)) ≡ false = grind (arith, nat_tests) in rw e refl

pub lead_zero : (u : List ℕ) → lead_index u 0 ≡ 0
unfolding lead_index
lead_zero u = refl

-- where a scan of the units stops
pub byte_found : (u : List ℕ) (column left i : ℕ) → i < length u → left + sum (take i u) ≡ column → left < get_or u i 0 → IsByte u column i
byte_found u column left i h e less = record {
  within = omega (arith, h);
  start = λ _ z. omega (arith, z, less);
  fits = omega (arith, e);
  most = λ q more within. omega (arith, e, less, sum_take u i h, sum_take_le u (i + 1) q (omega (arith, more)));
}

pub byte_end : (u : List ℕ) (column left : ℕ) → left + sum u ≡ column → IsByte u column (length u)
byte_end u column left e = record {
  within = omega arith;
  start = λ h _. omega (arith, h);
  fits = omega (arith, e, ap sum (take_all (length u) u (omega arith)));
  most = λ q more within. absurd (omega (arith, more, within));
}

pub lead_none : (u : List ℕ) (i : ℕ) → i ≤ 0 → lead_index u i ≡ i
unfolding lead_index
lead_none u zero h = refl
lead_none u (suc i) h = absurd (omega (arith, h))
