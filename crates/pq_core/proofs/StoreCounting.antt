-- What each call of a core keeps of the counts of starts.
--
-- A key is taken if it is up to date, or if a run that was started now has begun its rule. A rule that
-- is started was not taken: its key is held by the run that starts it, no other run has a frame of it,
-- and this run has begun it with none of its frames. What is taken stays taken: written keys become up
-- to date. Only with the end of a run that was stopped or starved is a key taken no longer, and the run
-- held that key.
use Rattle.std.proofs.Common.{◌≡◌, ℕ, ◌+◌, ◌==◌, if◌then◌else◌, ◌⊎◌, List, [], ◌∷◌, Option, Some, None, refl, sym, ◌∙◌, ap, subst, inl, inr, arith}
use Rattle.std.specs.declared.cmp.Ordering.{Ordering}
use Rattle.pq_inputs.specs.Sources.{Table}
use Rattle.pq_rules.specs.Turns.{Machine}
use Rattle.pq_rules.specs.Relations.{In}
use Rattle.pq_rules.specs.aux.Lists.{in_append_right}
use Rattle.pq_rules.proofs.Weight.{Exact}
use Rattle.pq_memo.specs.declared.stepping.frame.Frame.{Frame}
use Rattle.pq_memo.specs.declared.table.look.Why.{Why}
use Rattle.pq_memo.specs.Sound.{Memo}
use Rattle.pq_memo.specs.Look.{IsUpToDate}
use Rattle.pq_memo.specs.Table.{HasIn}
use Rattle.pq_memo.specs.Frames.{frame_keys}
use Rattle.pq_claims.specs.Claims.{Hold, hold_of, Holds, AreSound}
use Rattle.pq_core.specs.Ledger.{Out}
use Rattle.pq_core.specs.Starts.{IsCounted, Log, count, log_end, log_work, no_log}
use Rattle.pq_core.specs.declared.runs.frames.Pending.{Pending}
use Rattle.pq_core.specs.declared.runs.frames.Top.{Top}
use Rattle.pq_core.specs.declared.runs.frames.Top.TheVariants.{Empty, At, Away}
use Rattle.pq_core.specs.declared.store.rising.Place.{Place}
use Rattle.pq_core.specs.aux.Rising.{found}
use Rattle.pq_core.specs.aux.Runs.{AreClaimed, AreStale, IsSameRun, OthersHold, Renewed, RunView, claimed_keys, out_at, run_keys}
use Rattle.pq_core.specs.aux.Begun.{IsBegun, IsBegunIn, IsFirst, KeepsBegun}
use Rattle.pq_core.proofs.Changing.{if_at, if_other}
use Rattle.pq_core.proofs.Counting.{edited_counts, ended_counts, same_counts, started_counts}
use Rattle.pq_core.proofs.Lists.{none_some, same_or_other, some_one}
use Rattle.pq_core.proofs.Renewed.{up_still}
use Rattle.pq_core.proofs.RingRuns.{frame_held}

-- `Taken m now table runs k` is that `k` is up to date, or that one of `runs` that was started now has
-- begun its rule
abbrev pub Taken : {K P V : Type 0} → Machine K P V → ℕ → (K → Option (Memo K V)) → List (Place (RunView K P)) → K → Type 0
Taken m now table runs k = IsUpToDate m now (HasIn table) k ⊎ IsBegunIn now runs k

module _ {K P : Type 0} where
  -- a run holds the keys whose rules it has begun
  pub begun_held : (stack : List (Frame K P)) (top : Top K P) (k : K) → IsBegun stack top k → In k (run_keys stack top)
  begun_held stack top k (inl b) = subst (λ (q : K). In q (run_keys stack top)) b.3 (frame_held stack top b.0 b.1)
  begun_held stack top k (inr b) =
      subst (λ (t : Top K P). In k (run_keys stack t)) (sym b.1) (in_append_right k (frame_keys stack) (b.0.key ∷ []) (inl (sym b.2)))

  pub claimed_begun : (claims : List (ℕ × Hold K)) (runs : List (Place (RunView K P))) → AreClaimed claims runs → (r : ℕ) (run : RunView K P) → found runs r ≡ Some run
      → (k : K) → IsBegun run.stack run.top k → Holds claims r k
  claimed_begun claims runs claimed r run here k b =
      subst (λ (ks : List K). In k ks) (sym (claimed r ∙ ap (λ (o : Option (RunView K P)). claimed_keys o) here)) (begun_held run.stack run.top k b)

  -- the work that is out
  away_of : (top : Top K P) (out : Out K) → out_at top ≡ Some out → (p : Pending K) × (top ≡ Away p) × (p.key ≡ out.key)
  away_of Empty out e = absurd (none_some out e)
  away_of (At f) out e = absurd (none_some out e)
  away_of (Away p) out e = (p, refl, ap (λ (o : Out K). o.key) (some_one _ out e))

module _ {K P V : Type 0} (m : Machine K P V) (now : ℕ) where
  -- the same runs
  pub same_taken : (table : K → Option (Memo K V)) (b a : List (Place (RunView K P))) → ((r : ℕ) → found a r ≡ found b r) → (k : K) → Taken m now table b k → Taken m now table a k
  same_taken table b a same k (inl up) = inl up
  same_taken table b a same k (inr t) = inr (t.0, t.1, same t.0 ∙ t.2, t.3, t.4)

module _ {K P V : Type 0} (order : K → K → Ordering) (m : Machine K P V) (inputs : Table) (tb ta : K → Option (Memo K V)) (b a : List (Place (RunView K P))) (r : ℕ) (was : RunView K P)
    (here : found b r ≡ Some was) (renewed : Renewed m inputs.revision tb ta) where
  -- a run took a step
  pub stepped_taken : (run : RunView K P) → ((k : ℕ) → found a k ≡ (if k == r then Some run else found b k)) → IsSameRun was run
      → KeepsBegun m inputs.revision ta was.stack was.top run.stack run.top → (k : K) → Taken m inputs.revision tb b k → Taken m inputs.revision ta a k
  stepped_taken run set is keeps k (inl up) = inl (up_still order m inputs tb ta renewed k up)
  stepped_taken run set is keeps k (inr t) = elim (same_or_other t.0 r) [
    | inl e ↦
        let one : t.1 ≡ was = some_one t.1 was (sym t.2 ∙ (ap (λ (s : ℕ). found b s) e ∙ here)) in
        elim (keeps k (subst (λ (v : RunView K P). IsBegun v.stack v.top k) one t.4)) [
          | inl g ↦ inr (r, run, set r ∙ if_at r (Some run) (found b r), is.started ∙ (sym (ap (λ (v : RunView K P). v.started) one) ∙ t.3), g)
          | inr up ↦ inl up
        ]
    | inr ne ↦ inr (t.0, t.1, set t.0 ∙ (if_other t.0 r (Some run) (found b t.0) ne ∙ t.2), t.3, t.4)
  ]

  -- a run has ended: its rules are not begun any more
  pub ended_taken : ((k : ℕ) → found a k ≡ (if k == r then None else found b k)) → (k : K) → Taken m inputs.revision tb b k
      → Taken m inputs.revision ta a k ⊎ (IsBegun was.stack was.top k × (was.started ≡ inputs.revision))
  ended_taken set k (inl up) = inl (inl (up_still order m inputs tb ta renewed k up))
  ended_taken set k (inr t) = elim (same_or_other t.0 r) [
    | inl e ↦
        let one : t.1 ≡ was = some_one t.1 was (sym t.2 ∙ (ap (λ (s : ℕ). found b s) e ∙ here)) in
        inr (subst (λ (v : RunView K P). IsBegun v.stack v.top k) one t.4, sym (ap (λ (v : RunView K P). v.started) one) ∙ t.3)
    | inr ne ↦ inl (inr (t.0, t.1, set t.0 ∙ (if_other t.0 r None (found b t.0) ne ∙ t.2), t.3, t.4))
  ]

  -- a key that the run holds after a step, which is stale, and whose rule it had not begun, was not
  -- taken
  pub was_free : (before after : List (ℕ × Hold K)) → AreSound after → AreClaimed before b → OthersHold r before after → (k : K) → Holds after r k
      → (IsUpToDate m inputs.revision (HasIn ta) k → ⊥) → (IsBegun was.stack was.top k → ⊥) → Taken m inputs.revision tb b k → ⊥
  was_free before after sound claimed others k holds stale fresh (inl up) = stale (up_still order m inputs tb ta renewed k up)
  was_free before after sound claimed others k holds stale fresh (inr t) = elim (same_or_other t.0 r) [
    | inl e ↦
        let one : t.1 ≡ was = some_one t.1 was (sym t.2 ∙ (ap (λ (s : ℕ). found b s) e ∙ here)) in
        fresh (subst (λ (v : RunView K P). IsBegun v.stack v.top k) one t.4)
    | inr ne ↦ ne (sound.one_holder t.0 r k (subst (λ (ks : List K). In k ks) (sym (others t.0 ne).0) (claimed_begun before b claimed t.0 t.1 t.2 k t.4)) holds)
  ]

-- ---- the counts

-- no rule was started
pub none_counted : {K : Type 0} (order : K → K → Ordering) (now : ℕ) (taken : K → Type 0) → IsCounted order now taken no_log
unfolding count
none_counted order now taken = record { earlier = tt; each = λ v k. omega arith; latest = λ k. inl (omega arith) }

module _ {K P V : Type 0} (order : K → K → Ordering) (exact : Exact order) (m : Machine K P V) (inputs : Table) (log : Log K) where
  -- a call that changes no run
  pub same_counted : (table : K → Option (Memo K V)) (b a : List (Place (RunView K P))) → ((r : ℕ) → found a r ≡ found b r)
      → IsCounted order inputs.revision (λ k. Taken m inputs.revision table b k) log → IsCounted order inputs.revision (λ k. Taken m inputs.revision table a k) log
  same_counted table b a same x = same_counts order exact.total exact.exact inputs.revision (λ k. Taken m inputs.revision table b k) (λ k. Taken m inputs.revision table a k) log
      (same_taken m inputs.revision table b a same) x

  -- a run was started, in a place that had none
  pub begun_counted : (table : K → Option (Memo K V)) (b a : List (Place (RunView K P))) (r : ℕ) (run : RunView K P) → ((k : ℕ) → found a k ≡ (if k == r then Some run else found b k)) → found b r ≡ None
      → IsCounted order inputs.revision (λ k. Taken m inputs.revision table b k) log → IsCounted order inputs.revision (λ k. Taken m inputs.revision table a k) log
  begun_counted table b a r run set free x =
      same_counts order exact.total exact.exact inputs.revision (λ k. Taken m inputs.revision table b k) (λ k. Taken m inputs.revision table a k) log more x
    where
      more : (k : K) → Taken m inputs.revision table b k → Taken m inputs.revision table a k
      more k (inl up) = inl up
      more k (inr t) = elim (same_or_other t.0 r) [
        | inl e ↦ absurd (none_some t.1 (sym free ∙ (ap (λ (s : ℕ). found b s) (sym e) ∙ t.2)))
        | inr ne ↦ inr (t.0, t.1, set t.0 ∙ (if_other t.0 r (Some run) (found b t.0) ne ∙ t.2), t.3, t.4)
      ]

  -- an edit
  pub edited_counted : (next : Table) (table : K → Option (Memo K V)) (b a : List (Place (RunView K P))) → next.revision ≡ inputs.revision + 1
      → IsCounted order inputs.revision (λ k. Taken m inputs.revision table b k) log → IsCounted order next.revision (λ k. Taken m next.revision table a k) log
  edited_counted next table b a later x =
      subst (λ (n : ℕ). IsCounted order n (λ k. Taken m next.revision table a k) log) (sym later)
      (edited_counts order exact.total exact.exact inputs.revision (λ k. Taken m inputs.revision table b k) (λ k. Taken m next.revision table a k) log x)

  module _ (tb ta : K → Option (Memo K V)) (b a : List (Place (RunView K P))) (r : ℕ) (was : RunView K P) (here : found b r ≡ Some was) where
    -- a run took a step, and no rule was started
    pub stepped_counted : (run : RunView K P) → Renewed m inputs.revision tb ta → ((k : ℕ) → found a k ≡ (if k == r then Some run else found b k)) → IsSameRun was run
        → KeepsBegun m inputs.revision ta was.stack was.top run.stack run.top
        → IsCounted order inputs.revision (λ k. Taken m inputs.revision tb b k) log → IsCounted order inputs.revision (λ k. Taken m inputs.revision ta a k) log
    stepped_counted run renewed set is keeps x =
        same_counts order exact.total exact.exact inputs.revision (λ k. Taken m inputs.revision tb b k) (λ k. Taken m inputs.revision ta a k) log
        (stepped_taken order m inputs tb ta b a r was here renewed run set is keeps) x

    -- a run took a step, and handed out work
    pub carried_counted : (run : RunView K P) → Renewed m inputs.revision tb ta → ((k : ℕ) → found a k ≡ (if k == r then Some run else found b k)) → IsSameRun was run
        → KeepsBegun m inputs.revision ta was.stack was.top run.stack run.top
        → (before after : List (ℕ × Hold K)) → was.started ≡ inputs.revision → AreSound after → AreClaimed before b → OthersHold r before after
        → (hold_of after r).keys ≡ run_keys run.stack run.top → AreStale m inputs.revision ta (run_keys run.stack run.top)
        → (out : Out K) (why : Option (Why K)) → out_at run.top ≡ Some out → IsFirst was.stack was.top out.key why
        → IsCounted order inputs.revision (λ k. Taken m inputs.revision tb b k) log
        → IsCounted order inputs.revision (λ k. Taken m inputs.revision ta a k) (log_work (record { run = r; key = out.key; revision = inputs.revision }) why log)
    carried_counted run renewed set is keeps before after began sound claimed others mine stale out None is_out first x = stepped_counted run renewed set is keeps x
    carried_counted run renewed set is keeps before after began sound claimed others mine stale out (Some why) is_out first x =
        started_counts order exact.total exact.exact inputs.revision (λ k. Taken m inputs.revision tb b k) (λ k. Taken m inputs.revision ta a k) log r out.key
        (was_free order m inputs tb ta b a r was here renewed before after sound claimed others out.key
        (subst (λ (ks : List K). In out.key ks) (sym mine) held) (stale out.key held) first)
        (inr (r, run, set r ∙ if_at r (Some run) (found b r), is.started ∙ began, inr away))
        (stepped_taken order m inputs tb ta b a r was here renewed run set is keeps) x
      where
        away : (p : Pending K) × (run.top ≡ Away p) × (p.key ≡ out.key)
        away = away_of run.top out is_out

        held : In out.key (run_keys run.stack run.top)
        held = begun_held run.stack run.top out.key (inr away)

    -- a run that had begun no rule has answered
    pub answered_counted : Renewed m inputs.revision tb ta → ((k : ℕ) → found a k ≡ (if k == r then None else found b k)) → ((k : K) → IsBegun was.stack was.top k → ⊥)
        → IsCounted order inputs.revision (λ k. Taken m inputs.revision tb b k) log → IsCounted order inputs.revision (λ k. Taken m inputs.revision ta a k) log
    answered_counted renewed set none x =
        same_counts order exact.total exact.exact inputs.revision (λ k. Taken m inputs.revision tb b k) (λ k. Taken m inputs.revision ta a k) log
        (λ k t. elim (ended_taken order m inputs tb ta b a r was here renewed set k t) [ inl u ↦ u | inr n ↦ absurd (none k n.0) ]) x

    -- a run was stopped or starved
    pub lost_counted : (claims : List (ℕ × Hold K)) → AreClaimed claims b → Renewed m inputs.revision tb ta → ((k : ℕ) → found a k ≡ (if k == r then None else found b k))
        → IsCounted order inputs.revision (λ k. Taken m inputs.revision tb b k) log
        → IsCounted order inputs.revision (λ k. Taken m inputs.revision ta a k) (log_end r (found b r) (hold_of claims r).keys log)
    lost_counted claims claimed renewed set x =
        subst (λ (o : Option (RunView K P)). IsCounted order inputs.revision (λ k. Taken m inputs.revision ta a k) (log_end r o (hold_of claims r).keys log)) (sym here)
        (ended_counts order exact.total exact.exact inputs.revision (λ k. Taken m inputs.revision tb b k) (λ k. Taken m inputs.revision ta a k) log r was.started (hold_of claims r).keys
        (λ k t. elim (ended_taken order m inputs tb ta b a r was here renewed set k t) [ inl u ↦ inl u | inr n ↦ inr (claimed_begun claims b claimed r was here k n.0, n.1) ]) x)

  -- a ring was published
  pub ring_on : (tb ta : K → Option (Memo K V)) (b a : List (Place (RunView K P))) → Renewed m inputs.revision tb ta
      → ((k : K) → IsBegunIn inputs.revision b k → IsBegunIn inputs.revision a k ⊎ IsUpToDate m inputs.revision (HasIn ta) k)
      → IsCounted order inputs.revision (λ k. Taken m inputs.revision tb b k) log → IsCounted order inputs.revision (λ k. Taken m inputs.revision ta a k) log
  ring_on tb ta b a renewed begun x =
      same_counts order exact.total exact.exact inputs.revision (λ k. Taken m inputs.revision tb b k) (λ k. Taken m inputs.revision ta a k) log next x
    where
      next : (k : K) → Taken m inputs.revision tb b k → Taken m inputs.revision ta a k
      next k (inl up) = inl (up_still order m inputs tb ta renewed k up)
      next k (inr t) = elim (begun k t) [ inl g ↦ inr g | inr up ↦ inl up ]
