-- What stays of a run where memos of keys are written that were not up to date: keys that are up to
-- date keep their memos, frames of other keys sit still, and written keys become up to date.
use Rattle.std.proofs.Common.{◌≡◌, ℕ, List, [], ◌∷◌, take, Option, refl, sym, ◌∙◌, subst, inl, inr}
use Rattle.std.specs.declared.cmp.Ordering.{Ordering}
use Rattle.pq_inputs.specs.Sources.{Table}
use Rattle.pq_rules.specs.declared.turn.Turn.{Turn}
use Rattle.pq_rules.specs.declared.turn.Turn.TheVariants.{Ask}
use Rattle.pq_rules.specs.Turns.{Machine}
use Rattle.pq_rules.specs.Relations.{Each, In}
use Rattle.pq_rules.proofs.Weight.{Exact}
use Rattle.pq_memo.specs.declared.stepping.frame.Frame.{Frame}
use Rattle.pq_memo.specs.declared.stepping.frame.Stage.{Stage}
use Rattle.pq_memo.specs.declared.stepping.frame.Stage.TheVariants.{Walking, Waiting}
use Rattle.pq_memo.specs.Sound.{Memo}
use Rattle.pq_memo.specs.Look.{IsUpToDate, HasChanged, IsStill}
use Rattle.pq_memo.specs.Table.{memo_at, HasIn, IsSameTable}
use Rattle.pq_memo.specs.Frames.{Came, IsFrame, Awaits}
use Rattle.pq_memo.specs.Steps.{IsFinished}
use Rattle.pq_memo.specs.Writes.{Dated}
use Rattle.pq_memo.specs.Demand.{NoneLost}
use Rattle.pq_memo.specs.aux.Demand.{Wrote, IsHandedOn}
use Rattle.pq_memo.proofs.Demanding.{none_lost}
use Rattle.pq_memo.proofs.PutAll.{decide_in}
use Rattle.pq_memo.proofs.Wrote.{wrote_finished}
use Rattle.pq_core.specs.declared.runs.frames.Pending.{Pending}
use Rattle.pq_core.specs.declared.runs.frames.Top.{Top}
use Rattle.pq_core.specs.declared.runs.frames.Top.TheVariants.{Empty, At, Away}
use Rattle.pq_core.specs.aux.Runs.{RunView, IsRenewed, Renewed, CanGoOn, WaitsFor, first_key, WaitsUp, KeptBelow, CanTake, FramesKept, RunKept}

-- a table that is the same
pub renewed_same : {K P V : Type 0} (m : Machine K P V) (now : ℕ) (before after : K → Option (Memo K V)) → IsSameTable before after → Renewed m now before after
renewed_same m now before after same k = inl (same k)

-- one renewal after another
pub renewed_then : {K P V : Type 0} (m : Machine K P V) (now : ℕ) (a b c : K → Option (Memo K V)) → Renewed m now a b → Renewed m now b c → Renewed m now a c
renewed_then {K} {P} {V} m now a b c first second k = both (first k) (second k)
  where
    old : b k ≡ a k → IsUpToDate m now (HasIn a) k → IsUpToDate m now (HasIn b) k
    old e (inl low) = inl low
    old e (inr r) = inr (r.0, e ∙ r.1, r.2)

    dated : (memo : Memo K V) → b k ≡ a k → Dated now (HasIn b) k memo → Dated now (HasIn a) k memo
    dated memo e (inl d) = inl (d.0, sym e ∙ d.1, d.2, d.3)
    dated memo e (inr d) = inr (d.0, λ o h. d.1 o (e ∙ h))

    both : IsRenewed m now a b k → IsRenewed m now b c k → IsRenewed m now a c k
    both (inl e) (inl f) = inl (f ∙ e)
    both (inl e) (inr g) = inr (λ up. g.0 (old e up), (g.1.0, g.1.1, g.1.2, dated g.1.0 e g.1.3))
    both (inr g) (inl f) = inr (g.0, (g.1.0, f ∙ g.1.1, g.1.2, g.1.3))
    both (inr g) (inr h) = absurd (h.0 (inr (g.1.0, g.1.1, g.1.2)))

-- no memo is lost
pub renewed_none_lost : {K P V : Type 0} (m : Machine K P V) (now : ℕ) (before after : K → Option (Memo K V)) → Renewed m now before after → NoneLost before after
renewed_none_lost {K} {P} {V} m now before after renewed = none_lost now before after (λ k. handed k (renewed k))
  where
    handed : (k : K) → IsRenewed m now before after k → IsHandedOn now before after k
    handed k (inl e) = inl e
    handed k (inr r) = inr r.1

-- and none where the table is the same
pub same_none_lost : {K V : Type 0} (table : K → Option (Memo K V)) → NoneLost table table
same_none_lost table k memo has = (memo, has, λ _. refl)

-- memos of these keys were written
pub renewed_wrote : {K P V : Type 0} (order : K → K → Ordering) → Exact order → (m : Machine K P V) (now : ℕ) (before after : K → Option (Memo K V)) (keys : List K)
    → Wrote now before after keys → ((k : K) → In k keys → IsUpToDate m now (HasIn before) k → ⊥) → Renewed m now before after
renewed_wrote order exact m now before after keys wrote stale k = elim (decide_in order exact keys k) [
  | inl i ↦ inr (stale k i, wrote.news k i)
  | inr out ↦ inl (wrote.others k out)
]

-- the key of a frame was finished
pub renewed_finished : {K P V : Type 0} (order : K → K → Ordering) → Exact order → (m : Machine K P V) (inputs : Table)
    (before after : List (K × Option (Memo K V))) (k : K) → (IsUpToDate m inputs.revision (HasIn (memo_at order before)) k → ⊥)
    → IsFinished order m inputs before after k → Renewed m inputs.revision (memo_at order before) (memo_at order after)
renewed_finished {K} order exact m inputs before after k stale finished =
    renewed_wrote order exact m inputs.revision (memo_at order before) (memo_at order after) (k ∷ [])
    (wrote_finished order exact m inputs before k after stale finished)
    (λ q i up. stale (subst (λ (x : K). IsUpToDate m inputs.revision (HasIn (memo_at order before)) x) (only q i) up))
  where
    only : (q : K) → In q (k ∷ []) → q ≡ k
    only q (inl e) = e
    only q (inr i) = absurd i

module _ {K P V : Type 0} (order : K → K → Ordering) (m : Machine K P V) (inputs : Table) (before after : K → Option (Memo K V))
    (renewed : Renewed m inputs.revision before after) where
  -- a key that is up to date keeps its memo
  pub kept_fresh : (k : K) → IsUpToDate m inputs.revision (HasIn before) k → after k ≡ before k
  kept_fresh k up = elim (renewed k) [ inl e ↦ e | inr r ↦ absurd (r.0 up) ]

  -- and stays up to date
  pub up_still : (k : K) → IsUpToDate m inputs.revision (HasIn before) k → IsUpToDate m inputs.revision (HasIn after) k
  up_still k (inl low) = inl low
  up_still k (inr r) = inr (r.0, kept_fresh k (inr r) ∙ r.1, r.2)

  fresh_still : (front : List K) → Each (IsUpToDate m inputs.revision (HasIn before)) front → Each (IsUpToDate m inputs.revision (HasIn after)) front
  fresh_still [] e = tt
  fresh_still (x ∷ xs) e = (up_still x e.0, fresh_still xs e.1)

  came_still : (k : K) (turn : Turn K P V) (front : List K) → after k ≡ before k
      → Came order m inputs.history inputs.revision (HasIn before) k turn front → Came order m inputs.history inputs.revision (HasIn after) k turn front
  came_still k turn front same came = record {
    ruled = came.ruled;
    lapsed = λ memo h. came.lapsed memo (sym same ∙ h);
    run = came.run;
    comes = came.comes;
    reads = came.reads;
    fresh = fresh_still front came.fresh;
  }

  is_still : (since : ℕ) (q : K) → IsStill m inputs.history inputs.revision (HasIn before) since q → IsStill m inputs.history inputs.revision (HasIn after) since q
  is_still since q s = record {
    up_to_date = up_still q s.up_to_date;
    revision = s.revision;
    changed = changed s.changed;
    not_after = s.not_after;
  }
    where
      changed : HasChanged m inputs.history (HasIn before) q s.revision → HasChanged m inputs.history (HasIn after) q s.revision
      changed (inl low) = inl low
      changed (inr c) = inr (c.0, kept_fresh q s.up_to_date ∙ c.1, c.2)

  all_still : (since : ℕ) (qs : List K) → Each (IsStill m inputs.history inputs.revision (HasIn before) since) qs → Each (IsStill m inputs.history inputs.revision (HasIn after) since) qs
  all_still since [] e = tt
  all_still since (q ∷ qs) e = (is_still since q e.0, all_still since qs e.1)

  frame_still : (k : K) (stage : Stage K P) → after k ≡ before k → IsFrame order m inputs.history inputs.revision (HasIn before) k stage
      → IsFrame order m inputs.history inputs.revision (HasIn after) k stage
  frame_still k (Walking place) same f = (f.0, λ memo h. let w = f.1 memo (sym same ∙ h) in (w.0, all_still memo.verified (take place memo.reads) w.1))
  frame_still k (Waiting part asked reads) same f = came_still k (Ask asked part) reads.items same f

  pub awaits_still : (k : K) (stage : Stage K P) (q : K) → after k ≡ before k → Awaits order m inputs.history inputs.revision (HasIn before) k stage q
      → Awaits order m inputs.history inputs.revision (HasIn after) k stage q
  awaits_still k (Walking place) q same w = record {
    memo = w.memo;
    has = same ∙ w.has;
    there = w.there;
    still = all_still w.memo.verified (take place w.memo.reads) w.still;
    part = w.part;
    sits = came_still k (Ask q w.part) (take place w.memo.reads) same w.sits;
  }
  awaits_still k (Waiting part asked reads) q same w = (w.0, came_still k (Ask asked part) reads.items same w.1)

  can_still : (f : Frame K P) → CanGoOn order m inputs before f → CanGoOn order m inputs after f
  can_still f (inl up) = inl (up_still f.key up)
  can_still f (inr frame) = elim (renewed f.key) [ inl same ↦ inr (frame_still f.key f.stage same frame) | inr r ↦ inl (inr (r.1.0, r.1.1, r.1.2)) ]

  pub waits_still : (f : Frame K P) (z : K) → WaitsFor order m inputs before f z → WaitsFor order m inputs after f z
  waits_still f z (inl up) = inl (up_still f.key up)
  waits_still f z (inr awaits) = elim (renewed f.key) [ inl same ↦ inr (awaits_still f.key f.stage z same awaits) | inr r ↦ inl (inr (r.1.0, r.1.1, r.1.2)) ]

  take_still : (p : Pending K) → CanTake order m inputs before p → CanTake order m inputs after p
  take_still p (inl up) = inl (up_still p.key up)
  take_still p (inr c) = elim (renewed p.key) [ inl same ↦ inr (c.0, came_still p.key c.0 p.reads.items same c.1) | inr r ↦ inl (inr (r.1.0, r.1.1, r.1.2)) ]

  pub up_waits : (z : K) (fs : List (Frame K P)) → WaitsUp order m inputs before z fs → WaitsUp order m inputs after z fs
  unfolding WaitsUp
  up_waits z [] w = tt
  up_waits z (f ∷ fs) w = (waits_still f (first_key z fs) w.0, up_waits z fs w.1)

  pub below_still : (stack : List (Frame K P)) (k : K) → KeptBelow order m inputs before stack k → KeptBelow order m inputs after stack k
  below_still stack k b = record { waits = up_waits k stack b.waits; differ = b.differ; apart = b.apart }

  pub frames_still : (stack : List (Frame K P)) (top : Top K P) → FramesKept order m inputs before stack top → FramesKept order m inputs after stack top
  frames_still stack Empty kept = kept
  frames_still stack (At f) kept = (below_still stack f.key kept.0, can_still f kept.1)
  frames_still stack (Away p) kept = (below_still stack p.key kept.0, take_still p kept.1)

  -- the invariant of a run outlasts what another run writes
  pub runs_kept : (run : RunView K P) → RunKept order m inputs before run → RunKept order m inputs after run
  runs_kept run kept = frames_still run.stack run.top kept
