use Rattle.std.proofs.Common.{◌≡◌, refl, ℕ, ◌-◌, ◌<◌, ◌≤◌, true, false, sym, ap, ◌∙◌, arith, Bool, get_or, length, nat_lt, List}
use Rattle.std.proofs.lemmas.Bool.Decides.{nat_tests}
use Rattle.std.specs.Cmp.{IsTotalOrder}
use Rattle.std.specs.Ordering.{is_le}
use Rattle.std.specs.declared.cmp.Ordering.{Ordering}
use Rattle.pq_checks.specs.aux.Cover.{is_at_most, is_covered, Climbs}
use Rattle.pq_checks.proofs.Covering.{found, missed}
use Rattle.pq_checks.proofs.lines.cover.is_covered.Goals as goal

module _ {X : Type 0} {R : X → X → Ordering} (o : IsTotalOrder R) (rs : List (X × X)) (x : X) (climbs : Climbs R rs) where
  -- the search ended at a place with a range before it
  behind_one : (low high : ℕ) (d : X × X) → high ≡ low → 0 < low → high ≤ length rs
      → is_at_most R (get_or rs (low - 1) d).0 x ≡ true
      → ((e : X × X) → high < length rs → is_at_most R (get_or rs high e).0 x ≡ false)
      → is_at_most R x (get_or rs (low - 1) d).1 ≡ is_covered R rs x
  behind_one low high d same up in_range below above = by (is_at_most R x (get_or rs (low - 1) d).1) refl
    where
      by : (b : Bool) → is_at_most R x (get_or rs (low - 1) d).1 ≡ b → b ≡ is_covered R rs x
      by true e = sym (found o rs x climbs d (low - 1) (omega arith) below e)
      by false e = sym (missed o rs x climbs d high in_range (λ h. ap (λ n. is_at_most R x (get_or rs (n - 1) d).1) same ∙ e) above)

  at_front : (high : ℕ) (d : X × X) → high ≡ 0 → ((e : X × X) → high < length rs → is_at_most R (get_or rs high e).0 x ≡ false) → is_covered R rs x ≡ false
  at_front high d same above = missed o rs x climbs d high (omega arith) (λ h. absurd (omega arith)) above

pub returns-then-low-gt0 : goal.returns-then-low-gt0
returns-then-low-gt0 g c =
    c.is_le-then-low-gt0.ensures ∙ ap is_le c.cmp-then-low-gt0.ensures
    ∙ behind_one g.met.T.Ord.total c.args.stairs.now c.args.value c.requires c.halves.low c.halves.high c.index-stairs-low.result
    (omega arith) c.if-low-gt0.true c.halves.invariant.in_range (c.halves.invariant.below c.index-stairs-low.result c.if-low-gt0.true) c.halves.invariant.above

pub returns-else-low-gt0 : goal.returns-else-low-gt0
returns-else-low-gt0 g c =
    let none : nat_lt 0 c.halves.low ≡ false = grind (arith, nat_tests) in
    none ∙ sym (at_front g.met.T.Ord.total c.args.stairs.now c.args.value c.requires c.halves.high (c.args.value, c.args.value) (omega arith) c.halves.invariant.above)
