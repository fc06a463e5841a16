-- The frames of a run, when some are pushed, popped and cut.
use Rattle.std.proofs.Common.{◌≡◌, ◌≢◌, ℕ, zero, suc, ◌≤◌, List, [], ◌∷◌, ◌++◌, length, take, Option, None, refl, sym, ◌∙◌, ap, subst, inl, inr, arith}
use Rattle.std.specs.declared.cmp.Ordering.{Ordering}
use Rattle.pq_inputs.specs.Sources.{Table}
use Rattle.pq_rules.specs.Turns.{Machine}
use Rattle.pq_rules.specs.Relations.{In}
use Rattle.pq_rules.proofs.ListLemmas.{distinct_middle}
use Rattle.pq_rules.proofs.Stack.{distinct_front, distinct_push}
use Rattle.pq_memo.specs.declared.stepping.frame.Frame.{Frame}
use Rattle.pq_memo.specs.declared.stepping.frame.Stage.{Stage}
use Rattle.pq_memo.specs.declared.stepping.frame.Stage.TheVariants.{Walking, Waiting}
use Rattle.pq_memo.specs.Sound.{Memo}
use Rattle.pq_memo.specs.Look.{IsUpToDate}
use Rattle.pq_memo.specs.Table.{HasIn}
use Rattle.pq_memo.specs.Frames.{Sits, IsFrame, IsSameStage, Awaits, frame_keys}
use Rattle.pq_memo.specs.Demand.{Differ}
use Rattle.pq_memo.specs.Steps.{HasRead}
use Rattle.pq_memo.proofs.Demanding.{differ}
use Rattle.pq_memo.proofs.DistinctRing.{distinct_of}
use Rattle.pq_memo.proofs.Stacked.{keys_append, awaits_frame}
use Rattle.pq_memo.proofs.TableCalls.{zero_or}
use Rattle.pq_core.specs.declared.runs.frames.Top.{Top}
use Rattle.pq_core.specs.declared.runs.frames.Top.TheVariants.{Empty, At, Away}
use Rattle.pq_core.specs.aux.Runs.{CanGoOn, WaitsFor, first_key, WaitsUp, KeptBelow, FramesKept, IsLowered, out_at}

not_empty : {K : Type 0} (front : List K) (k : K) → front ++ k ∷ [] ≢ []
not_empty [] k e = absurd (cc)
not_empty (f ∷ front) k e = absurd (cc)

-- a rule that goes on has read a key
pub has_read : {K P : Type 0} (stage : Stage K P) (reads : List K) → HasRead stage reads → reads ≢ []
has_read (Walking place) reads h e = absurd h
has_read (Waiting part asked front) reads h e = not_empty front.items asked (sym h ∙ e)

differ_front : {K : Type 0} (xs ys : List K) → Differ (xs ++ ys) → Differ xs
differ_front xs ys d = differ xs (distinct_front xs ys (distinct_of (xs ++ ys) d))

differ_push : {K : Type 0} (xs : List K) (y : K) → Differ xs → (In y xs → ⊥) → Differ (xs ++ y ∷ [])
differ_push xs y d out = differ (xs ++ y ∷ []) (distinct_push xs y (distinct_of xs d) out)

differ_last : {K : Type 0} (xs : List K) (y : K) → Differ (xs ++ y ∷ []) → In y xs → ⊥
differ_last xs y d i = distinct_middle xs y [] (distinct_of (xs ++ y ∷ []) d) i

pub push_keys : {K P : Type 0} (fs : List (Frame K P)) (f : Frame K P) → Differ (frame_keys fs) → (In f.key (frame_keys fs) → ⊥) → Differ (frame_keys (fs ++ f ∷ []))
push_keys {K} fs f d out = subst (λ (ks : List K). Differ ks) (sym (keys_append fs (f ∷ []))) (differ_push (frame_keys fs) f.key d out)

pub cut_keys : {K P : Type 0} (n : ℕ) (fs : List (Frame K P)) → Differ (frame_keys fs) → Differ (frame_keys (take n fs))
cut_keys zero fs d = tt
cut_keys (suc n) [] d = tt
cut_keys {K} {P} (suc n) (f ∷ fs) d = (λ i. d.0 (inside n fs i), cut_keys n fs d.1)
  where
    inside : (i : ℕ) (gs : List (Frame K P)) → In f.key (frame_keys (take i gs)) → In f.key (frame_keys gs)
    inside zero gs j = absurd j
    inside (suc i) [] j = j
    inside (suc i) (g ∷ gs) (inl e) = inl e
    inside (suc i) (g ∷ gs) (inr j) = inr (inside i gs j)

-- the key for which the last of the first `n` frames waits
abbrev key_at : {K P : Type 0} → ℕ → K → List (Frame K P) → K
key_at zero z fs = first_key z fs
key_at (suc n) z [] = z
key_at (suc n) z (f ∷ fs) = key_at n z fs

key_same : {K P : Type 0} (n : ℕ) (z : K) (fs : List (Frame K P)) → first_key z fs ≡ first_key (key_at n z fs) (take n fs)
key_same zero z fs = refl
key_same (suc n) z [] = refl
key_same (suc n) z (f ∷ fs) = refl

module _ {K P V : Type 0} (order : K → K → Ordering) (m : Machine K P V) (inputs : Table) (table : K → Option (Memo K V)) where
  abbrev Waits : K → List (Frame K P) → Type 0
  Waits z fs = WaitsUp order m inputs table z fs

  waits_push : (z : K) (fs : List (Frame K P)) (f : Frame K P) → Waits f.key fs → WaitsFor order m inputs table f z → Waits z (fs ++ f ∷ [])
  unfolding WaitsUp
  waits_push z [] f w l = (l, tt)
  waits_push z (x ∷ []) f w l = (w.0, waits_push z [] f w.1 l)
  waits_push z (x ∷ (y ∷ ys)) f w l = (w.0, waits_push z (y ∷ ys) f w.1 l)

  record Popped (z : K) (fs : List (Frame K P)) (f : Frame K P) : Type 0 where
    below : Waits f.key fs
    last : WaitsFor order m inputs table f z

  waits_pop : (z : K) (fs : List (Frame K P)) (f : Frame K P) → Waits z (fs ++ f ∷ []) → Popped z fs f
  unfolding WaitsUp
  waits_pop z [] f w = record { below = tt; last = w.0 }
  waits_pop z (x ∷ []) f w = let p = waits_pop z [] f w.1 in record { below = (w.0, tt); last = p.last }
  waits_pop z (x ∷ (y ∷ ys)) f w = let p = waits_pop z (y ∷ ys) f w.1 in record { below = (w.0, p.below); last = p.last }

  pub waits_cut : (n : ℕ) (z : K) (fs : List (Frame K P)) → Waits z fs → Waits (key_at n z fs) (take n fs)
  unfolding WaitsUp
  waits_cut zero z fs w = tt
  waits_cut (suc n) z [] w = tt
  waits_cut (suc n) z (f ∷ fs) w =
      (subst (λ (k : K). WaitsFor order m inputs table f k) (key_same n z fs) w.0, waits_cut n z fs w.1)

  waiting_frame : (f : Frame K P) (z : K) → WaitsFor order m inputs table f z → CanGoOn order m inputs table f
  waiting_frame f z (inl up) = inl up
  waiting_frame f z (inr a) = inr (awaits_frame order m inputs table f.key f.stage z a)

  -- the last frame becomes the top
  pub lowered : (z : K) (before after : List (Frame K P)) (top : Top K P) → Waits z before → Differ (frame_keys before) → IsLowered before after top
      → FramesKept order m inputs table after top
  lowered z before after Empty w d low = low.1
  lowered z before after (At f) w d low =
      let here : Waits z (after ++ f ∷ []) = subst (λ (l : List (Frame K P)). Waits z l) low w in
      let keys : Differ (frame_keys after ++ f.key ∷ []) =
      subst (λ (ks : List K). Differ ks) (ap (λ (l : List (Frame K P)). frame_keys l) low ∙ keys_append after (f ∷ [])) d in
      let p = waits_pop z after f here in (
        record { waits = p.below; differ = differ_front (frame_keys after) (f.key ∷ []) keys; apart = differ_last (frame_keys after) f.key keys },
        waiting_frame f z p.last,
      )
  lowered z before after (Away p) w d low = absurd low

  -- so it does after a cut
  pub cut_lowered : (n : ℕ) (z : K) (fs before after : List (Frame K P)) (top : Top K P) → Waits z fs → Differ (frame_keys fs) → before ≡ take n fs → IsLowered before after top
      → FramesKept order m inputs table after top
  cut_lowered n z fs before after top w d is low =
      lowered (key_at n z fs) before after top
      (subst (λ (l : List (Frame K P)). Waits (key_at n z fs) l) (sym is) (waits_cut n z fs w))
      (subst (λ (l : List (Frame K P)). Differ (frame_keys l)) (sym is) (cut_keys n fs d)) low

  -- the frames below the top, with it, where it waits
  pub pushed_waits : (stack : List (Frame K P)) (f : Frame K P) (z : K) → KeptBelow order m inputs table stack f.key
      → Awaits order m inputs.history inputs.revision (HasIn table) f.key f.stage z → Waits z (stack ++ f ∷ [])
  pushed_waits stack f z below awaits = waits_push z stack f below.waits (inr awaits)

  pub pushed_keys : (stack : List (Frame K P)) (f : Frame K P) → KeptBelow order m inputs table stack f.key → Differ (frame_keys (stack ++ f ∷ []))
  pushed_keys stack f below = push_keys stack f below.differ below.apart

  -- a key that is not up to date can be walked
  pub walked : (k : K) → (IsUpToDate m inputs.revision (HasIn table) k → ⊥) → IsFrame order m inputs.history inputs.revision (HasIn table) k (Walking 0)
  walked k stale = (elim (zero_or (m.level k)) [ inl low ↦ absurd (stale (inl low)) | inr up ↦ up ], λ memo h. ((let l : 0 ≤ length memo.reads = omega arith in l), tt))

  -- a frame that came back
  pub frame_as : (k : K) (a b : Stage K P) → IsSameStage a b → IsFrame order m inputs.history inputs.revision (HasIn table) k b
      → IsFrame order m inputs.history inputs.revision (HasIn table) k a
  frame_as k (Walking i) (Walking j) same f = subst (λ (n : ℕ). IsFrame order m inputs.history inputs.revision (HasIn table) k (Walking n)) (sym same) f
  frame_as k (Walking i) (Waiting part asked reads) same f = absurd same
  frame_as k (Waiting part asked reads) (Walking j) same f = absurd same
  frame_as k (Waiting part asked reads) (Waiting other question front) same f =
      subst (λ (p : P). Sits order m inputs.history inputs.revision (HasIn table) k asked p reads.items) (sym same.0)
      (subst (λ (q : K). Sits order m inputs.history inputs.revision (HasIn table) k q other reads.items) (sym same.1)
      (subst (λ (l : List K). Sits order m inputs.history inputs.revision (HasIn table) k question other l) (sym same.2) f))

  -- a top of another key, which is the same
  pub below_as : (stack : List (Frame K P)) (k q : K) → q ≡ k → KeptBelow order m inputs table stack k → KeptBelow order m inputs table stack q
  below_as stack k q e below = subst (λ (x : K). KeptBelow order m inputs table stack x) (sym e) below

  -- no frames below
  pub none_below : (stack : List (Frame K P)) (k : K) → stack ≡ [] → KeptBelow order m inputs table stack k
  unfolding WaitsUp
  none_below stack k is =
      subst (λ (l : List (Frame K P)). KeptBelow order m inputs table l k) (sym is) (record { waits = tt; differ = tt; apart = λ i. i })

  -- what the invariant says of a top that is known
  pub kept_as : (stack : List (Frame K P)) (top other : Top K P) → top ≡ other → FramesKept order m inputs table stack top → FramesKept order m inputs table stack other
  kept_as stack top other e kept = subst (λ (t : Top K P). FramesKept order m inputs table stack t) e kept

-- a top that was lowered has no work out
pub lowered_idle : {K P : Type 0} (before after : List (Frame K P)) (top : Top K P) → IsLowered before after top → out_at top ≡ None
lowered_idle before after Empty low = refl
lowered_idle before after (At f) low = refl
lowered_idle before after (Away p) low = absurd low
