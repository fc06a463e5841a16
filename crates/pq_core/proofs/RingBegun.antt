-- The frames of a ring leave: which rules of runs are begun still, and that the keys of the others are
-- on the ring.
--
-- A ring goes in each of its runs up to the key that the run claimed last. So if the frame of a key of
-- the ring leaves a run, with those above it, all their keys are on the ring.
use Rattle.std.proofs.Common.{◌≡◌, ℕ, zero, suc, ◌<◌, ◌⊎◌, List, [], ◌∷◌, ◌++◌, length, take, get_or, Option, Some, refl, sym, ◌∙◌, ap, subst, inl, inr, append_assoc, append-nil, arith}
use Rattle.std.specs.declared.cmp.Ordering.{Ordering}
use Rattle.pq_rules.specs.Turns.{Machine}
use Rattle.pq_rules.specs.Relations.{In, IsRing}
use Rattle.pq_rules.specs.aux.Lists.{in_append, in_append_left, in_append_right}
use Rattle.pq_memo.specs.declared.stepping.frame.Frame.{Frame}
use Rattle.pq_memo.specs.Sound.{Memo}
use Rattle.pq_memo.specs.Look.{IsUpToDate}
use Rattle.pq_memo.specs.Table.{HasIn}
use Rattle.pq_memo.specs.aux.Demand.{Wrote}
use Rattle.pq_memo.specs.Frames.{frame_keys}
use Rattle.pq_memo.specs.Steps.{IsWalking}
use Rattle.pq_claims.specs.Claims.{AreSound, ComesNext, Differ, Hold, Holds, IsLast, Precedes, awaited, hold_of}
use Rattle.pq_core.specs.declared.store.rising.Place.{Place}
use Rattle.pq_core.specs.declared.runs.frames.Pending.{Pending}
use Rattle.pq_core.specs.declared.runs.frames.Top.TheVariants.{At, Away}
use Rattle.pq_core.specs.aux.Rising.{found}
use Rattle.pq_core.specs.aux.Runs.{AreClaimed, RunView, claimed_keys, run_keys}
use Rattle.pq_core.specs.aux.Rings.{IsCut, KeyLeaves}
use Rattle.pq_core.specs.aux.Begun.{IsBegun, IsBegunIn}
use Rattle.pq_core.proofs.Lists.{some_one}
use Rattle.pq_core.proofs.Claiming.{lowered_keys}
use Rattle.pq_core.proofs.StoreCounting.{begun_held}
use Rattle.pq_core.proofs.RingRuns.{differ_front, frames_differ, in_frames, one_in, top_frames}
use Rattle.pq_core.proofs.Rounds.{last_in, one_back, precedes_in, ring_next}
use Rattle.pq_core.proofs.RulesBegun.{lowered_frame}

-- ---- a ring goes up to the last key of each run

module _ {K : Type 0} (order : K → K → Ordering) (claims : List (ℕ × Hold K)) (run : ℕ) (key : K) (ring : List K) (sound : AreSound claims)
    (round : IsRing order (ComesNext claims run key) ring) where
  first_same : (x y : K) (xs ys : List K) → x ∷ xs ≡ y ∷ ys → x ≡ y
  first_same x y xs ys e = cc

  none_more : (y : K) (ys : List K) → [] ≡ y ∷ ys → ⊥
  none_more y ys e = cc

  -- a key that a run claimed directly after one on the ring
  next_on : (r : ℕ) (front : List K) (x y : K) (back : List K) → (hold_of claims r).keys ≡ front ++ x ∷ y ∷ back → In x ring → In y ring
  next_on r front x y back e i = by_next n.2.1
    where
      n : (b : K) × In b ring × ComesNext claims run key x b
      n = ring_next order (ComesNext claims run key) ring round x i

      held : Holds claims r x
      held = subst (λ (ks : List K). In x ks) (sym e) (in_append_right x front (x ∷ y ∷ back) (inl refl))

      differ : (f : List K) (bs : List K) → (hold_of claims n.2.0).keys ≡ f ++ x ∷ bs → Differ (f ++ x ∷ bs)
      differ f bs w = subst (λ (ks : List K). Differ ks) w (sound.once n.2.0)

      as_mine : Holds claims n.2.0 x → (hold_of claims n.2.0).keys ≡ front ++ x ∷ y ∷ back
      as_mine h = ap (λ (q : ℕ). (hold_of claims q).keys) (sound.one_holder n.2.0 r x h held) ∙ e

      by_next : Precedes (hold_of claims n.2.0).keys x n.0 ⊎ (IsLast (hold_of claims n.2.0).keys x × (awaited claims run key n.2.0 ≡ Some n.0)) → In y ring
      by_next (inl p) =
          let h : Holds claims n.2.0 x = (precedes_in (hold_of claims n.2.0).keys x n.0 p).0 in
          let rest : n.0 ∷ p.1 ≡ y ∷ back = one_back p.0 front x (n.0 ∷ p.1) (y ∷ back) (differ p.0 (n.0 ∷ p.1) p.2) (sym p.2 ∙ as_mine h) in
          subst (λ (q : K). In q ring) (first_same n.0 y p.1 back rest) n.1
      by_next (inr l) =
          let h : Holds claims n.2.0 x = last_in (hold_of claims n.2.0).keys x l.0 in
          absurd (none_more y back (one_back l.0.0 front x [] (y ∷ back) (differ l.0.0 [] l.0.1) (sym l.0.1 ∙ as_mine h)))

  -- and all that it claimed after
  pub above_on : (r : ℕ) (more front : List K) (x : K) → (hold_of claims r).keys ≡ front ++ x ∷ more → In x ring → (z : K) → In z (x ∷ more) → In z ring
  above_on r more front x e i z (inl p) = subst (λ (q : K). In q ring) (sym p) i
  above_on r [] front x e i z (inr n) = absurd n
  above_on r (y ∷ more) front x e i z (inr j) =
      above_on r more (front ++ x ∷ []) y (e ∙ sym (append_assoc front (x ∷ []) (y ∷ more))) (next_on r front x y more e i) z j

-- ---- one key leaves

module _ {K P : Type 0} where
  in_take : (fs : List (Frame K P)) (n : ℕ) (f : Frame K P) → In f (take n fs) → In f fs
  in_take [] zero f i = i
  in_take [] (suc n) f i = i
  in_take (g ∷ gs) zero f i = absurd i
  in_take (g ∷ gs) (suc n) f (inl e) = inl e
  in_take (g ∷ gs) (suc n) f (inr i) = inr (in_take gs n f i)

  frame_of_key : (fs : List (Frame K P)) (k : K) → In k (frame_keys fs) → (f : Frame K P) × In f fs × (f.key ≡ k)
  frame_of_key [] k i = absurd i
  frame_of_key (f ∷ fs) k (inl e) = (f, inl refl, sym e)
  frame_of_key (f ∷ fs) k (inr i) = let r = frame_of_key fs k i in (r.0, inr r.1, r.2)

  not_away : (f : Frame K P) (p : Pending K) → At f ≡ Away p → ⊥
  not_away f p e = cc

  -- a run whose last frames left has begun the rules of the keys that it holds still
  cut_begun : (claims : List (ℕ × Hold K)) (was now : RunView K P) (r : ℕ) → IsCut claims was now r → Differ (run_keys was.stack was.top) → (k : K) → IsBegun was.stack was.top k
      → In k (run_keys now.stack now.top) → IsBegun now.stack now.top k
  cut_begun claims was now r cut differ k (inr b) held = absurd (not_away cut.frame b.0 (sym cut.is_top ∙ b.1))
  cut_begun claims was now r cut differ k (inl b) held =
      let left = frame_of_key (take cut.count was.stack) k (subst (λ (ks : List K). In k ks) (sym (lowered_keys (take cut.count was.stack) now.stack now.top cut.lowered)) held) in
      let one : b.0 ≡ left.0 = one_in (was.stack ++ top_frames was.top) b.0 left.0 (frames_differ was.stack was.top differ) (in_frames was.stack was.top b.0 b.1)
      (in_append_left left.0 was.stack (top_frames was.top) (in_take was.stack cut.count left.0 left.1)) (b.3 ∙ sym left.2) in
      inl (left.0, lowered_frame (take cut.count was.stack) now.stack now.top cut.lowered left.0 left.1, subst (λ (f : Frame K P). IsWalking f.stage → ⊥) one b.2, left.2)

-- `IsPartOf first claims` is that of the keys that runs held in `first` the last have left
abbrev pub IsPartOf : {K : Type 0} → List (ℕ × Hold K) → List (ℕ × Hold K) → Type 0
IsPartOf {K} first claims = (r : ℕ) → (rest : List K) × ((hold_of first r).keys ≡ (hold_of claims r).keys ++ rest)

-- `LeftOn now ring old runs` is that of the rules that `old` had begun now, each is begun in `runs`, or its
-- key is on the ring
abbrev pub LeftOn : {K P : Type 0} → ℕ → List K → List (Place (RunView K P)) → List (Place (RunView K P)) → Type 0
LeftOn {K} now ring old runs = (k : K) → IsBegunIn now old k → IsBegunIn now runs k ⊎ In k ring

-- nothing has left yet
pub all_part : {K : Type 0} (claims : List (ℕ × Hold K)) → IsPartOf claims claims
all_part claims r = ([], sym (append-nil (hold_of claims r).keys))

module _ {K P : Type 0} (order : K → K → Ordering) (first : List (ℕ × Hold K)) (run : ℕ) (next : K) (ring : List K) (sound : AreSound first)
    (round : IsRing order (ComesNext first run next) ring) (before after : List (ℕ × Hold K)) (old new : List (Place (RunView K P))) (key : K)
    (left : KeyLeaves key before after old new) (part : IsPartOf first before) where
  -- another key leaves
  pub next_part : IsPartOf first after
  next_part r = elim (left.split r) [
    | inl e ↦ ((part r).0, (part r).1 ∙ ap (λ (ks : List K). ks ++ (part r).0) (sym e))
    | inr s ↦ (
      key ∷ (s.0 ++ (part r).0),
      (part r).1 ∙ (ap (λ (ks : List K). ks ++ (part r).0) s.1 ∙ append_assoc (hold_of after r).keys (key ∷ s.0) (part r).0),
    )
  ]

  -- the keys that a run held are held still, or on the ring
  held_or_on : In key ring → (r : ℕ) (k : K) → Holds before r k → Holds after r k ⊎ In k ring
  held_or_on i r k holds = elim (left.split r) [
    | inl e ↦ inl (subst (λ (ks : List K). In k ks) (sym e) holds)
    | inr s ↦ elim (in_append k (hold_of after r).keys (key ∷ s.0) (subst (λ (ks : List K). In k ks) s.1 holds)) [
      | inl h ↦ inl h
      | inr j ↦ inr (above_on order first run next ring sound round r (s.0 ++ (part r).0) (hold_of after r).keys key
          ((part r).1 ∙ (ap (λ (ks : List K). ks ++ (part r).0) s.1 ∙ append_assoc (hold_of after r).keys (key ∷ s.0) (part r).0)) i k
          (in_append_left k (key ∷ s.0) (part r).0 j))
    ]
  ]

  pub still_on : (now : ℕ) → In key ring → AreClaimed before old → (start : List (Place (RunView K P))) → LeftOn now ring start old → LeftOn now ring start new
  still_on now i claimed start on k b = elim (on k b) [
    | inl t ↦ by_run t (left.each t.0)
    | inr j ↦ inr j
  ]
    where
      keys_of : (runs : List (Place (RunView K P))) (claims : List (ℕ × Hold K)) → AreClaimed claims runs → (r : ℕ) (v : RunView K P) → found runs r ≡ Some v
          → (hold_of claims r).keys ≡ run_keys v.stack v.top
      keys_of runs claims c r v here = c r ∙ ap (λ (o : Option (RunView K P)). claimed_keys o) here

      by_run : (t : IsBegunIn now old k) → (found new t.0 ≡ found old t.0)
          ⊎ ((was : RunView K P) × (is : RunView K P) × (found old t.0 ≡ Some was) × (found new t.0 ≡ Some is) × IsCut after was is t.0)
          → IsBegunIn now new k ⊎ In k ring
      by_run t (inl e) = inl (t.0, t.1, e ∙ t.2, t.3, t.4)
      by_run t (inr c) =
          let one : t.1 ≡ c.0 = some_one t.1 c.0 (sym t.2 ∙ c.2) in
          let begun : IsBegun c.0.stack c.0.top k = subst (λ (v : RunView K P). IsBegun v.stack v.top k) one t.4 in
          let was_keys : (hold_of before t.0).keys ≡ run_keys c.0.stack c.0.top = keys_of old before claimed t.0 c.0 c.2 in
          let differ : Differ (run_keys c.0.stack c.0.top) =
          subst (λ (ks : List K). Differ ks) was_keys
          (differ_front (hold_of before t.0).keys (part t.0).0 (subst (λ (ks : List K). Differ ks) (part t.0).1 (sound.once t.0))) in
          elim (held_or_on i t.0 k (subst (λ (ks : List K). In k ks) (sym was_keys) (begun_held c.0.stack c.0.top k begun))) [
            | inl h ↦ inl (
              t.0,
              c.1,
              c.3,
              c.4.same.started ∙ (sym (ap (λ (v : RunView K P). v.started) one) ∙ t.3),
              cut_begun after c.0 c.1 t.0 c.4 differ k begun (subst (λ (ks : List K). In k ks) (keys_of new after left.claimed t.0 c.1 c.3) h),
            )
            | inr j ↦ inr j
          ]

-- the key at a place of the ring
pub at_in : {K : Type 0} (xs : List K) (i : ℕ) (x : K) → i < length xs → x ≡ get_or xs i x → In x xs
at_in [] i x l e = absurd (omega arith)
at_in (y ∷ xs) zero x l e = inl e
at_in (y ∷ xs) (suc i) x l e = inr (at_in xs i x (omega arith) e)

-- all keys of the ring have left: they are up to date
pub on_up : {K P V : Type 0} (m : Machine K P V) (now : ℕ) (before after : K → Option (Memo K V)) (ring : List K) (old runs : List (Place (RunView K P))) → Wrote now before after ring
    → LeftOn now ring old runs → (k : K) → IsBegunIn now old k → IsBegunIn now runs k ⊎ IsUpToDate m now (HasIn after) k
on_up m now before after ring old runs wrote on k b = elim (on k b) [
  | inl t ↦ inl t
  | inr i ↦ (let n = wrote.news k i in inr (inr (n.0, n.1, n.2)))
]
