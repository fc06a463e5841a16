-- The last time that something happened, as one more revision comes.
use Rattle.std.proofs.Common.{◌≡◌, ℕ, ◌+◌, ◌-◌, ◌<◌, ◌≤◌, inl, inr, subst, arith}
use Rattle.std.proofs.lemmas.Bool.{cases_lt, cases_order}
use Rattle.pq_inputs.specs.Changes.{IsLast}

-- one thing has one last time
pub last_is_one : {Happens : ℕ → Type 0} (a b : ℕ) → IsLast Happens a → IsLast Happens b → a ≡ b
last_is_one {Happens} a b of_a of_b = elim (cases_order a b) [ inl same ↦ same | inr differ ↦ elim differ [ inl less ↦ absurd (none_after a b of_a of_b less) | inr greater ↦ absurd (none_after b a of_b of_a greater) ] ]
  where
    none_after : (x y : ℕ) → IsLast Happens x → IsLast Happens y → x < y → ⊥
    none_after x y of_x of_y less = of_x.latest (y - 1) (omega arith) (of_y.happened (y - 1) (omega arith))

-- what happens more often happened last no earlier
pub last_ordered : {H N : ℕ → Type 0} (a b : ℕ) → ((p : ℕ) → H p → N p) → IsLast H a → IsLast N b → a ≤ b
last_ordered {H} {N} a b more of_a of_b = elim (cases_lt b a) [ inr within ↦ within | inl after ↦ absurd (of_b.latest (a - 1) (omega arith) (more (a - 1) (of_a.happened (a - 1) (omega arith)))) ]

-- new is old with one more time, n, at which it may happen
pub record IsExtended (old new : ℕ → Type 0) (n : ℕ) : Type 0 where
  pub old_below : (p : ℕ) → old p → p < n
  pub kept : (p : ℕ) → old p → new p
  pub no_more : (p : ℕ) → p < n → new p → old p
  pub new_below : (p : ℕ) → new p → p < n + 1

module _ {old new : ℕ → Type 0} {n : ℕ} (extended : IsExtended old new n) where
  -- where it did not happen then, its last time stays
  pub last_stays : (r : ℕ) → IsLast old r → (new n → ⊥) → IsLast new r
  last_stays r last not_then = record {
    happened = λ p is. extended.kept p (last.happened p is);
    latest = λ p after did. elim (cases_lt p n) [
      | inl before ↦ last.latest p after (extended.no_more p before did)
      | inr at_end ↦ let below = extended.new_below p did in let same : p ≡ n = omega arith in not_then (subst new same did)
    ];
  }

  -- where it happened then, that is its last time
  pub last_moves : new n → IsLast new (n + 1)
  last_moves did = record {
    happened = λ p is. let same : n ≡ p = omega arith in subst new same did;
    latest = λ p after later. let within = extended.new_below p later in omega arith;
  }

  -- its last time is no later than n
  pub last_within : (r : ℕ) → IsLast old r → r ≤ n
  last_within r last = elim (cases_lt 0 r) [ inr none ↦ omega arith | inl some ↦ let below = extended.old_below (r - 1) (last.happened (r - 1) (omega arith)) in omega arith ]
