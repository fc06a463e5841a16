-- Memos that are marked below the frame of a run: no run holds their keys.
use Rattle.std.proofs.Common.{◌≡◌, ℕ, List, [], ◌∷◌, Option, Some, sym, ◌∙◌, ap, subst, inl, inr}
use Rattle.std.specs.declared.cmp.Ordering.{Ordering}
use Rattle.pq_inputs.specs.Sources.{Table}
use Rattle.pq_rules.specs.Turns.{Machine}
use Rattle.pq_rules.specs.Relations.{In}
use Rattle.pq_rules.proofs.Weight.{Exact}
use Rattle.pq_memo.specs.Sound.{Memo}
use Rattle.pq_memo.specs.Look.{IsUpToDate}
use Rattle.pq_memo.specs.Table.{View, key_at, memo_at, HasIn, KeptOver}
use Rattle.pq_memo.specs.Writes.{IsConfirmed}
use Rattle.pq_memo.proofs.Confirming.{green_stale}
use Rattle.pq_memo.proofs.Wrote.{wrote_marked}
use Rattle.pq_claims.specs.Claims.{Hold, Holds, hold_of}
use Rattle.pq_core.specs.aux.Runs.{AreStale, HasMarked, HeldUnwritten, Renewed}
use Rattle.pq_core.proofs.Renewed.{renewed_finished, renewed_same, renewed_then}

module _ {R K P V : Type 0} (order : K → K → Ordering) (machine : R → Machine K P V) (inputs : Table) (claims : List (ℕ × Hold K)) where
  -- no memo was marked
  pub marked_none : (before after : View R K V) → after.rules ≡ before.rules → after.places ≡ before.places → KeptOver order (machine before.rules) inputs before.places
      → HasMarked order machine inputs claims before after
  marked_none before after rules same kept = record {
    rules = rules;
    kept = subst (λ (places : List (K × Option (Memo K V))). KeptOver order (machine before.rules) inputs places) (sym same) kept;
    renewed = renewed_same (machine before.rules) inputs.revision (memo_at order before.places) (memo_at order after.places)
        (λ k. ap (λ (places : List (K × Option (Memo K V))). memo_at order places k) same);
    unwritten = λ r k holds. ap (λ (places : List (K × Option (Memo K V))). memo_at order places k) same;
  }

  -- the memo of the key with a number was
  marked_one : Exact order → (number : ℕ) (before after : View R K V) → after.rules ≡ before.rules
      → KeptOver order (machine before.rules) inputs before.places → KeptOver order (machine before.rules) inputs after.places
      → ((k : K) → key_at before.places number ≡ Some k → (r : ℕ) → Holds claims r k → ⊥)
      → IsConfirmed order (machine before.rules) inputs before.places number after.places → HasMarked order machine inputs claims before after
  marked_one exact number before after rules was kept free (k, there, green, marked) = record {
    rules = rules;
    kept = kept;
    renewed = renewed_finished order exact (machine before.rules) inputs before.places after.places k
        (green_stale order (machine before.rules) inputs (memo_at order before.places) was k green) (inr (inl marked));
    unwritten = λ r q holds. (wrote_marked order exact (machine before.rules) inputs before.places k after.places marked).others q (other r q holds);
  }
    where
      other : (r : ℕ) (q : K) → Holds claims r q → In q (k ∷ []) → ⊥
      other r q holds (inl e) = free k there r (subst (λ (x : K). Holds claims r x) e holds)
      other r q holds (inr i) = absurd i

  -- some were, and then others
  marked_then : (a b c : View R K V) → HasMarked order machine inputs claims a b → HasMarked order machine inputs claims b c → HasMarked order machine inputs claims a c
  marked_then a b c first second = record {
    rules = second.rules ∙ first.rules;
    kept = subst (λ (r : R). KeptOver order (machine r) inputs c.places) first.rules second.kept;
    renewed = renewed_then (machine a.rules) inputs.revision (memo_at order a.places) (memo_at order b.places) (memo_at order c.places) first.renewed
        (subst (λ (r : R). Renewed (machine r) inputs.revision (memo_at order b.places) (memo_at order c.places)) first.rules second.renewed);
    unwritten = λ r k holds. second.unwritten r k holds ∙ first.unwritten r k holds;
  }

  -- the table is kept by its own rules
  still_kept : (a b : View R K V) → HasMarked order machine inputs claims a b → KeptOver order (machine b.rules) inputs b.places
  still_kept a b first = subst (λ (r : R). KeptOver order (machine r) inputs b.places) (sym first.rules) first.kept

  -- some were, and then no other
  pub marked_left : (a b c : View R K V) → HasMarked order machine inputs claims a b → c.rules ≡ b.rules → c.places ≡ b.places → HasMarked order machine inputs claims a c
  marked_left a b c first rules same = marked_then a b c first (marked_none b c rules same (still_kept a b first))

  -- some were, and then one more
  pub marked_next : Exact order → (number : ℕ) (a b c : View R K V) → HasMarked order machine inputs claims a b → c.rules ≡ b.rules
      → KeptOver order (machine b.rules) inputs c.places → ((k : K) → key_at b.places number ≡ Some k → (r : ℕ) → Holds claims r k → ⊥)
      → IsConfirmed order (machine b.rules) inputs b.places number c.places → HasMarked order machine inputs claims a c
  marked_next exact number a b c first rules kept free confirmed =
      marked_then a b c first (marked_one exact number b c rules (still_kept a b first) kept free confirmed)

-- what a run holds is not up to date
pub held_stale : {K P V : Type 0} (m : Machine K P V) (now : ℕ) (before after : K → Option (Memo K V)) (claims : List (ℕ × Hold K)) (run : ℕ) (ks : List K)
    → (hold_of claims run).keys ≡ ks → HeldUnwritten claims before after → AreStale m now before ks → AreStale m now after ks
held_stale {K} m now before after claims run ks held unwritten stale k i up =
    stale k i (old (unwritten run k (subst (λ (xs : List K). In k xs) (sym held) i)) up)
  where
    old : after k ≡ before k → IsUpToDate m now (HasIn after) k → IsUpToDate m now (HasIn before) k
    old e (inl low) = inl low
    old e (inr r) = inr (r.0, sym e ∙ r.1, r.2)
