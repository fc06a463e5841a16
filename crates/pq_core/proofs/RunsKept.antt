-- The invariant of runs and their claims, after each kind of call: the same runs, a run that was
-- started, one that took a step, one that ended, and an edit.
--
-- A step writes keys that its run holds, and no other run holds these. So the keys that others hold
-- stay stale, and their frames and waits stand as they did.
use Rattle.std.proofs.Common.{◌≡◌, ◌≢◌, ℕ, ◌+◌, ◌≤◌, ◌==◌, if◌then◌else◌, ◌⊎◌, Bool, true, false, List, [], ◌∷◌, ◌++◌, Option, Some, None, refl, sym, ◌∙◌, ap, subst, inl, inr, arith}
use Rattle.std.proofs.lemmas.Bool.{eqb-true}
use Rattle.std.specs.declared.cmp.Ordering.{Ordering}
use Rattle.pq_inputs.specs.Sources.{Table}
use Rattle.pq_rules.specs.Turns.{Machine}
use Rattle.pq_rules.specs.Relations.{In}
use Rattle.pq_memo.specs.declared.stepping.frame.Frame.{Frame}
use Rattle.pq_memo.specs.Sound.{Memo}
use Rattle.pq_memo.specs.Look.{IsUpToDate}
use Rattle.pq_memo.specs.Kept.{Kept}
use Rattle.pq_memo.specs.Table.{View, HasIn, KeptOver, memo_at}
use Rattle.pq_memo.specs.Frames.{frame_keys}
use Rattle.pq_claims.specs.Claims.{Hold, hold_of, Holds, AreSound, WaitsFor, ReleasesAll}
use Rattle.pq_core.specs.declared.store.rising.Place.{Place}
use Rattle.pq_core.specs.declared.runs.frames.Top.{Top}
use Rattle.pq_core.specs.declared.runs.frames.Top.TheVariants.{Empty, At, Away}
use Rattle.pq_core.specs.aux.Rising.{found}
use Rattle.pq_core.specs.aux.RunSteps.{RunReady, RunStepped, step_state}
use Rattle.pq_core.specs.aux.Runs.{RunView, RunKept, RunsKept, IsSameRun, AreStale, ClosesRing, OthersHold, Renewed, TopAwaits, WaitStands, OthersUnwritten, claimed_keys, run_keys}
use Rattle.pq_core.proofs.Lists.{none_some, some_one}
use Rattle.pq_core.proofs.Claiming.{all_others, all_released, by_run, not_same, others_same, others_then, same_claimed}
use Rattle.pq_core.proofs.Renewed.{awaits_still, renewed_same, runs_kept, waits_still}

-- a run after one was changed: it is that one, or another, as it was
changed_run : {T : Type 0} (b a : List (Place T)) (r : ℕ) (value : Option T) → ((k : ℕ) → found a k ≡ (if k == r then value else found b k))
    → (k : ℕ) (x : T) → found a k ≡ Some x → ((k ≡ r) × (value ≡ Some x)) ⊎ ((k ≢ r) × (found b k ≡ Some x))
changed_run {T} b a r value set k x h = by_test (k == r) refl
  where
    by_test : (t : Bool) → (k == r) ≡ t → ((k ≡ r) × (value ≡ Some x)) ⊎ ((k ≢ r) × (found b k ≡ Some x))
    by_test true e = inl (eqb-true k r e, ap (λ (s : Bool). if s then value else found b k) (sym e) ∙ (sym (set k) ∙ h))
    by_test false e = inr (not_same k r e, ap (λ (s : Bool). if s then value else found b k) (sym e) ∙ (sym (set k) ∙ h))

same_or_not : (k r : ℕ) → (k ≡ r) ⊎ (k ≢ r)
same_or_not k r = by_test (k == r) refl
  where
    by_test : (t : Bool) → (k == r) ≡ t → (k ≡ r) ⊎ (k ≢ r)
    by_test true e = inl (eqb-true k r e)
    by_test false e = inr (not_same k r e)

in_back : {K : Type 0} (xs ys : List K) (k : K) → In k ys → In k (xs ++ ys)
in_back [] ys k i = i
in_back (x ∷ xs) ys k i = inr (in_back xs ys k i)

-- a key whose memo is the same was up to date
up_before : {K P V : Type 0} (m : Machine K P V) (now : ℕ) (before after : K → Option (Memo K V)) (k : K) → after k ≡ before k → IsUpToDate m now (HasIn after) k
    → IsUpToDate m now (HasIn before) k
up_before m now before after k e (inl low) = inl low
up_before m now before after k e (inr r) = inr (r.0, sym e ∙ r.1, r.2)

module _ {K P V : Type 0} (order : K → K → Ordering) (m : Machine K P V) (inputs : Table) (table : K → Option (Memo K V)) (claims : List (ℕ × Hold K)) where
  -- the same runs, in other places
  pub same_runs : (b a : List (Place (RunView K P))) → ((k : ℕ) → found a k ≡ found b k) → RunsKept order m inputs table claims b → RunsKept order m inputs table claims a
  same_runs b a same w = record {
    claimed = same_claimed claims b a same w.claimed;
    current = λ r run h. w.current r run (sym (same r) ∙ h);
    stale = w.stale;
    waits = λ r run h. w.waits r run (sym (same r) ∙ h);
    no_later = λ r s x y held h i. w.no_later r s x y held (sym (same r) ∙ h) (sym (same s) ∙ i);
  }

  -- a run holds the keys of its frames
  own_claimed : (runs : List (Place (RunView K P))) (r : ℕ) (run : RunView K P) → found runs r ≡ Some run → RunsKept order m inputs table claims runs
      → (hold_of claims r).keys ≡ run_keys run.stack run.top
  own_claimed runs r run here w = w.claimed r ∙ ap (λ (o : Option (RunView K P)). claimed_keys o) here

  -- no run, and no claim
  pub no_runs : (runs : List (Place (RunView K P))) → ((r : ℕ) → (hold_of claims r).keys ≡ []) → ((r : ℕ) → found runs r ≡ None) → RunsKept order m inputs table claims runs
  no_runs runs free none = record {
    claimed = λ r. free r ∙ ap (λ (o : Option (RunView K P)). claimed_keys o) (sym (none r));
    current = λ r run h e. absurd (none_some run (sym (none r) ∙ h));
    stale = λ r k held up. subst (λ (ks : List K). In k ks) (free r) held;
    waits = λ r run h e k w. absurd (none_some run (sym (none r) ∙ h));
    no_later = λ r s x y held h i. absurd (none_some x (sym (none r) ∙ h));
  }

  -- an edit: no run is current, and no key is up to date that was not
  pub edited_runs : (next : Table) (runs : List (Place (RunView K P))) → next.revision ≡ inputs.revision + 1
      → ((r : ℕ) (run : RunView K P) → found runs r ≡ Some run → run.started ≤ inputs.revision)
      → Kept order m inputs.history inputs.revision (HasIn table)
      → RunsKept order m inputs table claims runs → RunsKept order m next table claims runs
  edited_runs next runs later past kept w = record {
    claimed = w.claimed;
    current = λ r run h e. absurd (over run.started (past r run h) e);
    stale = λ r k held up. w.stale r k held (was k up);
    waits = λ r run h e. absurd (over run.started (past r run h) e);
    no_later = w.no_later;
  }
    where
      over : (n : ℕ) → n ≤ inputs.revision → n ≡ next.revision → ⊥
      over n a e = omega (arith, a, e, later)

      was : (k : K) → IsUpToDate m next.revision (HasIn table) k → IsUpToDate m inputs.revision (HasIn table) k
      was k (inl low) = inl low
      was k (inr r) = absurd (over r.0.verified (kept.memos k r.0 r.1).in_order.1 r.2)

module _ {K P V : Type 0} (order : K → K → Ordering) (m : Machine K P V) (inputs : Table) (tb ta : K → Option (Memo K V)) (before after : List (ℕ × Hold K))
    (b a : List (Place (RunView K P))) (r : ℕ) where
  -- the run `r` is another, or is gone; of the keys that others hold no memo was written
  one_changed : (value : Option (RunView K P)) → ((k : ℕ) → found a k ≡ (if k == r then value else found b k))
      → (hold_of after r).keys ≡ claimed_keys value → OthersHold r before after → Renewed m inputs.revision tb ta
      → OthersUnwritten before r tb ta
      → ((run : RunView K P) → value ≡ Some run → run.started ≡ inputs.revision → RunKept order m inputs ta run × WaitStands order m inputs ta after r run.top)
      → AreStale m inputs.revision ta (claimed_keys value)
      → ((run : RunView K P) → value ≡ Some run → (s : ℕ) (y : RunView K P) → s ≢ r → found b s ≡ Some y → y.started ≤ run.started)
      → ((run : RunView K P) → value ≡ Some run → (p : ℕ) (x : RunView K P) → p ≢ r → found b p ≡ Some x → WaitsFor after p r → run.started ≤ x.started)
      → RunsKept order m inputs tb before b → RunsKept order m inputs ta after a
  one_changed value set mine others renewed same own stale early late w = record {
    claimed = by_run before after b a r value set mine others w.claimed;
    current = λ k run h e. elim (changed_run b a r value set k run h) [
      | inl c ↦ (own run c.1 e).0
      | inr c ↦ runs_kept order m inputs tb ta renewed run (w.current k run c.1 e)
    ];
    stale = λ s k held up. elim (same_or_not s r) [
      | inl e ↦ stale k (subst (λ (ks : List K). In k ks) mine (subst (λ (i : ℕ). Holds after i k) e held)) up
      | inr ne ↦
          let was : Holds before s k = subst (λ (ks : List K). In k ks) (others s ne).0 held in
          w.stale s k was (up_before m inputs.revision tb ta k (same s k ne was) up)
    ];
    waits = λ s run h e. elim (changed_run b a r value set s run h) [
      | inl c ↦ subst (λ (i : ℕ). WaitStands order m inputs ta after i run.top) (sym c.0) (own run c.1 e).1
      | inr c ↦ λ k wait. top_still run.top k (w.waits s run c.1 e k ((others s c.0).1 k wait))
    ];
    no_later = λ p q x y held h i. elim (changed_run b a r value set p x h) [
      | inl c ↦ elim (changed_run b a r value set q y i) [
        | inl d ↦ same_started x y (some_one x y (sym c.1 ∙ d.1))
        | inr d ↦ early x c.1 q y d.0 d.1
      ]
      | inr c ↦ elim (changed_run b a r value set q y i) [
        | inl d ↦ late y d.1 p x c.0 c.1 (subst (λ (j : ℕ). WaitsFor after p j) d.0 held)
        | inr d ↦ w.no_later p q x y (held.0, (others p c.0).1 held.0 held.1, subst (λ (ks : List K). In held.0 ks) (others q d.0).0 held.2) c.1 d.1
      ]
    ];
  }
    where
      top_still : (top : Top K P) (k : K) → TopAwaits order m inputs tb top k → TopAwaits order m inputs ta top k
      top_still Empty k t = tt
      top_still (At f) k t = waits_still order m inputs tb ta renewed f k t
      top_still (Away p) k t = absurd t

      same_started : (x y : RunView K P) → x ≡ y → y.started ≤ x.started
      same_started x y e = let f : x.started ≡ y.started = ap (λ (v : RunView K P). v.started) e in omega arith

  -- a run that may have taken a step has ended, and released its keys
  pub ended_runs : (middle : List (ℕ × Hold K)) → ((k : ℕ) → found a k ≡ (if k == r then None else found b k))
      → Renewed m inputs.revision tb ta → OthersUnwritten before r tb ta → OthersHold r before middle → ReleasesAll r middle after
      → RunsKept order m inputs tb before b → RunsKept order m inputs ta after a
  ended_runs middle set renewed written others ends w =
      one_changed None set (all_released r middle after ends) (others_then r before middle after others (all_others r middle after ends)) renewed written
      (λ x e s. absurd (none_some x e)) (λ k i up. i) (λ x e s y ne h. absurd (none_some x e)) (λ x e p y ne h held. absurd (none_some x e)) w

-- a run that is current is ready for a step
pub own_ready : {R K P V : Type 0} (order : K → K → Ordering) (m : Machine K P V) (inputs : Table) (memos : View R K V) (claims : List (ℕ × Hold K)) (runs : List (Place (RunView K P)))
    (r : ℕ) (run : RunView K P) → found runs r ≡ Some run → run.started ≡ inputs.revision → KeptOver order m inputs memos.places
    → RunsKept order m inputs (memo_at order memos.places) claims runs → RunReady order m inputs r (step_state memos claims run.stack run.top)
own_ready {R} {K} order m inputs memos claims runs r run here now kept w = record {
  kept = kept;
  frames_kept = w.current r run here now;
  claimed = own;
  stale = λ k i. w.stale r k (subst (λ (ks : List K). In k ks) (sym own) i);
  waits = w.waits r run here now;
}
  where
    own : (hold_of claims r).keys ≡ run_keys run.stack run.top
    own = own_claimed order m inputs (memo_at order memos.places) claims runs r run here w

-- a run that is current took a step
pub stepped_runs : {R K P V : Type 0} (order : K → K → Ordering) (machine : R → Machine K P V) (inputs : Table) (old new : View R K V) (before after : List (ℕ × Hold K))
    (b a : List (Place (RunView K P))) (r : ℕ) (was run : RunView K P) → found b r ≡ Some was → ((k : ℕ) → found a k ≡ (if k == r then Some run else found b k))
    → IsSameRun was run → was.started ≡ inputs.revision → ((s : ℕ) (y : RunView K P) → found b s ≡ Some y → y.started ≤ inputs.revision)
    → AreSound before → AreSound after → RunStepped order machine inputs r (step_state old before was.stack was.top) (step_state new after run.stack run.top)
    → RunsKept order (machine old.rules) inputs (memo_at order old.places) before b → RunsKept order (machine old.rules) inputs (memo_at order new.places) after a
stepped_runs {R} {K} {P} {V} order machine inputs old new before after b a r was run here set is now past sound sound_after stepped w =
    one_changed order (machine old.rules) inputs (memo_at order old.places) (memo_at order new.places) before after b a r (Some run) set stepped.ready.claimed stepped.others stepped.renewed
    stepped.written
    (λ x e s. (
      subst (λ (v : RunView K P). RunKept order (machine old.rules) inputs (memo_at order new.places) v) (some_one run x e) stepped.ready.frames_kept,
      subst (λ (v : RunView K P). WaitStands order (machine old.rules) inputs (memo_at order new.places) after r v.top) (some_one run x e) stepped.ready.waits,
    ))
    stepped.ready.stale
    (λ x e s y ne h.
    let first : run.started ≡ x.started = ap (λ (v : RunView K P). v.started) (some_one run x e) in
    let second : run.started ≡ was.started = is.started in
    let third : y.started ≤ inputs.revision = past s y h in
    omega (arith, first, second, now, third))
    (λ x e p y ne h held.
    let first : run.started ≡ x.started = ap (λ (v : RunView K P). v.started) (some_one run x e) in
    let second : run.started ≡ was.started = is.started in
    let third : was.started ≤ y.started = longer p y ne h held in
    omega (arith, first, second, third))
    w
  where
    -- who waits for a key of `r` waited for it before: no other run gave it to `r`
    longer : (p : ℕ) (y : RunView K P) → p ≢ r → found b p ≡ Some y → WaitsFor after p r → was.started ≤ y.started
    longer p y ne h held =
        let wait : (hold_of before p).wait ≡ Some held.0 = (stepped.others p ne).1 held.0 held.1 in
        let holder = sound.held p held.0 wait in
        elim (same_or_not holder.0 r) [
          | inl e ↦ w.no_later p r y was (held.0, wait, subst (λ (i : ℕ). Holds before i held.0) e holder.1) h here
          | inr other ↦
              absurd (other (sound_after.one_holder holder.0 r held.0 (subst (λ (ks : List K). In held.0 ks) (sym (stepped.others holder.0 other).0) holder.1) held.2))
        ]

module _ {K P V : Type 0} (order : K → K → Ordering) (m : Machine K P V) (inputs : Table) (table : K → Option (Memo K V)) (claims : List (ℕ × Hold K))
    (b a : List (Place (RunView K P))) (r : ℕ) where
  -- a run was started, which has no frames
  pub started_runs : (run : RunView K P) → ((k : ℕ) → found a k ≡ (if k == r then Some run else found b k)) → found b r ≡ None
      → run_keys run.stack run.top ≡ [] → RunKept order m inputs table run → ((k : K) → TopAwaits order m inputs table run.top k) → run.started ≡ inputs.revision
      → ((s : ℕ) (y : RunView K P) → found b s ≡ Some y → y.started ≤ inputs.revision)
      → RunsKept order m inputs table claims b → RunsKept order m inputs table claims a
  started_runs run set none empty kept idle now past w =
      one_changed order m inputs table table claims claims b a r (Some run) set (free ∙ sym empty) (others_same r claims)
      (renewed_same m inputs.revision table table (λ q. refl)) (λ s k ne held. refl)
      (λ x e s. (subst (λ (v : RunView K P). RunKept order m inputs table v) (some_one run x e) kept, λ k wait. subst (λ (v : RunView K P). TopAwaits order m inputs table v.top k) (some_one run x e) (idle k)))
      (λ k i up. subst (λ (ks : List K). In k ks) empty i)
      (λ x e s y ne h.
      let first : run.started ≡ x.started = ap (λ (v : RunView K P). v.started) (some_one run x e) in
      let second : y.started ≤ inputs.revision = past s y h in
      omega (arith, first, second, now))
      (λ x e p y ne h held. absurd (subst (λ (ks : List K). In held.0 ks) free held.2))
      w
    where
      free : (hold_of claims r).keys ≡ []
      free = w.claimed r ∙ ap (λ (o : Option (RunView K P)). claimed_keys o) none

  -- a run that was taken out has ended, and released its keys
  pub stopped_runs : (after : List (ℕ × Hold K)) → ((k : ℕ) → found a k ≡ (if k == r then None else found b k)) → ReleasesAll r claims after
      → RunsKept order m inputs table claims b → RunsKept order m inputs table after a
  stopped_runs after set ends w =
      ended_runs order m inputs table table claims after b a r claims set (renewed_same m inputs.revision table table (λ q. refl)) (λ s k ne held. refl)
      (others_same r claims) ends w

-- a ring that would close closes over the table that the step left: the key of the top is not up to
-- date, so its memo is the same
pub closes_still : {K P V : Type 0} (order : K → K → Ordering) (m : Machine K P V) (inputs : Table) (tb ta : K → Option (Memo K V)) (claims : List (ℕ × Hold K)) (r : ℕ)
    (stack : List (Frame K P)) (top : Top K P) (ring : List K) → Renewed m inputs.revision tb ta → AreStale m inputs.revision ta (run_keys stack top)
    → ClosesRing order m inputs tb claims r top ring → ClosesRing order m inputs ta claims r top ring
closes_still {K} {P} order m inputs tb ta claims r stack top ring renewed stale c = record {
  frame = c.frame;
  is_top = c.is_top;
  next = c.next;
  awaits = awaits_still order m inputs tb ta renewed c.frame.key c.frame.stage c.next same c.awaits;
  closed = c.closed;
}
  where
    last : In c.frame.key (run_keys stack top)
    last = subst (λ (t : Top K P). In c.frame.key (run_keys stack t)) (sym c.is_top) (in_back (frame_keys stack) (c.frame.key ∷ []) c.frame.key (inl refl))

    same : ta c.frame.key ≡ tb c.frame.key
    same = elim (renewed c.frame.key) [ inl e ↦ e | inr n ↦ absurd (stale c.frame.key last (inr (n.1.0, n.1.1, n.1.2))) ]
