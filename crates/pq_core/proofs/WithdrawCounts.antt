-- What a withdrawal keeps of the counts of starts: a key that is taken no longer was held by a run
-- that is over, and is among those that the log loses.
use Rattle.std.proofs.Common.{◌≡◌, ℕ, ◌+◌, ◌≤◌, ◌⊎◌, ◌&&◌, Bool, true, false, cond, eqb, List, [], ◌∷◌, ◌++◌, Option, Some, refl, sym, ◌∙◌, ap, subst, inl, inr, arith}
use Rattle.std.proofs.lemmas.Bool.{eq-eqb, eqb-true}
use Rattle.std.proofs.lemmas.Bool.Decides.{Decides-int_eq}
use Rattle.std.proofs.lemmas.Slice.Eq.{bytes_eq-Decides}
use Rattle.std.specs.declared.cmp.Ordering.{Ordering}
use Rattle.pq_inputs.specs.Sources.{Table}
use Rattle.pq_rules.specs.Turns.{Machine}
use Rattle.pq_rules.specs.Relations.{In}
use Rattle.pq_rules.proofs.Weight.{Exact}
use Rattle.pq_memo.specs.Sound.{Memo}
use Rattle.pq_memo.specs.Table.{memo_at}
use Rattle.pq_claims.specs.Claims.{Hold, hold_of}
use Rattle.pq_core.specs.Starts.{IsCounted, IsCountedIn, Log, count, events_of, lost_among, lost_at, same_label}
use Rattle.pq_core.specs.Stores.{StoreView}
use Rattle.pq_core.specs.declared.values.label.Label.{Label}
use Rattle.pq_core.specs.declared.values.label.Label.TheVariants.{None as NoLabel, Unsigned, Negative, Text}
use Rattle.pq_core.specs.declared.store.rising.Place.{Place as Slot}
use Rattle.pq_core.specs.aux.Rising.{found}
use Rattle.pq_core.specs.aux.Runs.{AreClaimed, RunView}
use Rattle.pq_core.specs.aux.Withdrawing.{WithdrawsRuns}
use Rattle.pq_core.proofs.Counting.{count_append, in_count, lost_counts}
use Rattle.pq_core.proofs.Lists.{none_some}
use Rattle.pq_core.proofs.StoreCounting.{Taken, claimed_begun}

-- each label is the same as itself
same_itself : (a : Label) → same_label a a ≡ true
same_itself NoLabel = refl
same_itself (Unsigned n) = eq-eqb n n refl
same_itself (Negative n) = (Decides-int_eq n n).1 refl
same_itself (Text text) = (bytes_eq-Decides text text).1 refl

module _ {K P : Type 0} (order : K → K → Ordering) (exact : Exact order) (claims : List (ℕ × Hold K)) (c : ℕ) (label : Label) (now : ℕ) where
  -- a key that a run of the client with the label held is among those lost
  lost_one : (r : ℕ) (run : RunView K P) (key : K) → run.client ≡ c → run.request.label ≡ label → run.started ≡ now → In key (hold_of claims r).keys
      → 1 ≤ count order now key (lost_at claims c label r (Some run))
  lost_one r run key client_is labelled began held =
      subst (λ (b : Bool). 1 ≤ count order now key (cond b (events_of r run.started (hold_of claims r).keys) [])) (sym (both (eqb run.client c) (same_label run.request.label label) (eq-eqb run.client c client_is)
      (ap (λ (x : Label). same_label x label) labelled ∙ same_itself label)))
      (subst (λ (v : ℕ). 1 ≤ count order now key (events_of r v (hold_of claims r).keys)) (sym began) (in_count order exact.total exact.exact now r key (hold_of claims r).keys held))
    where
      both : (a b : Bool) → a ≡ true → b ≡ true → a && b ≡ true
      both a b e f = cc

  lost_here : (runs : List (Slot (RunView K P))) (r : ℕ) (run : RunView K P) (key : K) → found runs r ≡ Some run → run.client ≡ c → run.request.label ≡ label → run.started ≡ now → In key (hold_of claims r).keys
      → 1 ≤ count order now key (lost_among claims c label runs)
  unfolding found lost_among
  lost_here [] r run key here client_is labelled began held = absurd (none_some run here)
  lost_here (p ∷ runs) r run key here client_is labelled began held = by_number (eqb p.number r) refl (λ there. lost_here runs r run key there client_is labelled began held)
    where
      sum : count order now key (lost_at claims c label p.number p.value ++ lost_among claims c label runs)
          ≡ count order now key (lost_at claims c label p.number p.value) + count order now key (lost_among claims c label runs)
      sum = count_append order exact.total exact.exact now key (lost_at claims c label p.number p.value) (lost_among claims c label runs)

      by_number : (b : Bool) → eqb p.number r ≡ b → (found runs r ≡ Some run → 1 ≤ count order now key (lost_among claims c label runs)) → 1 ≤ count order now key (lost_at claims c label p.number p.value ++ lost_among claims c label runs)
      by_number true e below =
          let number : r ≡ p.number = sym (eqb-true p.number r e) in
          let value : p.value ≡ Some run = ap (λ (b : Bool). cond b p.value (found runs r)) (sym e) ∙ here in
          let one : 1 ≤ count order now key (lost_at claims c label p.number p.value) =
          subst (λ (o : Option (RunView K P)). 1 ≤ count order now key (lost_at claims c label p.number o)) (sym value)
          (lost_one p.number run key client_is labelled began (subst (λ (i : ℕ). In key (hold_of claims i).keys) number held)) in
          let s = sum in
          omega arith
      by_number false e below =
          let rest = below (ap (λ (b : Bool). cond b p.value (found runs r)) (sym e) ∙ here) in
          let s = sum in
          omega arith

-- the requests of a client were withdrawn
pub withdrawn_counted : {K P V : Type 0} (order : K → K → Ordering) (exact : Exact order) (m : Machine K P V) (inputs : Table) (log : Log K) (table : K → Option (Memo K V)) (claims : List (ℕ × Hold K))
    (b a : List (Slot (RunView K P))) (c : ℕ) (label : Label) → AreClaimed claims b → WithdrawsRuns c label b a
    → IsCounted order inputs.revision (λ k. Taken m inputs.revision table b k) log
    → IsCounted order inputs.revision (λ k. Taken m inputs.revision table a k) (record { starts = log.starts; lost = log.lost ++ lost_among claims c label b })
withdrawn_counted {K} {P} order exact m inputs log table claims b a c label claimed runs x =
    lost_counts order exact.total exact.exact inputs.revision (λ k. Taken m inputs.revision table b k) (λ k. Taken m inputs.revision table a k) log (lost_among claims c label b) left x
  where
    left : (k : K) → Taken m inputs.revision table b k → Taken m inputs.revision table a k ⊎ (1 ≤ count order inputs.revision k (lost_among claims c label b))
    left k (inl up) = inl (inl up)
    left k (inr t) = elim (runs t.0) [
      | inl same ↦ inl (inr (t.0, t.1, same ∙ t.2, t.3, t.4))
      | inr over ↦ (
          let seat = over.1 t.1 t.2 in
          inr (lost_here order exact claims c label inputs.revision b t.0 t.1 k t.2 seat.0 seat.1 t.3 (claimed_begun claims b claimed t.0 t.1 t.2 k t.4)))
    ]

-- the same, of a store
pub withdrew_counted : {R K P V M : Type 0} (order : K → K → Ordering) (exact : Exact order) (m : Machine K P V) (old now : StoreView R K P V M) (log : Log K) (c : ℕ) (label : Label)
    → AreClaimed old.claims old.runs.items → now.inputs ≡ old.inputs → now.places ≡ old.places → WithdrawsRuns c label old.runs.items now.runs.items
    → IsCountedIn order m old log → IsCountedIn order m now (record { starts = log.starts; lost = log.lost ++ lost_among old.claims c label old.runs.items })
withdrew_counted {K = K} {V = V} order exact m old now log c label claimed inputs places over x =
    subst (λ (t : Table). IsCounted order t.revision (λ k. Taken m t.revision (memo_at order now.places) now.runs.items k) new) (sym inputs)
    (subst (λ (ps : List (K × Option (Memo K V))). IsCounted order old.inputs.revision (λ k. Taken m old.inputs.revision (memo_at order ps) now.runs.items k) new) (sym places)
    (withdrawn_counted order exact m old.inputs log (memo_at order old.places) old.claims old.runs.items now.runs.items c label claimed over x))
  where
    new : Log K
    new = record { starts = log.starts; lost = log.lost ++ lost_among old.claims c label old.runs.items }
