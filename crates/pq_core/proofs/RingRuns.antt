-- The frames of runs, and the runs that hold the keys of a ring.
--
-- The key of each frame is held by its run, so two frames of one key are one. The runs on a ring were
-- started now, their tops are frames, and these frames wait for each other in a round.
use Rattle.std.proofs.Common.{◌≡◌, ◌≢◌, ℕ, zero, suc, ◌≤◌, ◌<◌, List, [], ◌∷◌, ◌++◌, length, take, get_or, Option, Some, None, refl, sym, ◌∙◌, ap, subst, inl, inr, arith}
use Rattle.std.specs.List.{HoldsAt}
use Rattle.std.specs.declared.cmp.Ordering.{Ordering}
use Rattle.pq_inputs.specs.Sources.{Table}
use Rattle.pq_rules.specs.Turns.{Machine}
use Rattle.pq_rules.specs.Relations.{In, Each}
use Rattle.pq_rules.specs.aux.Lists.{in_append, in_append_left, in_append_right}
use Rattle.pq_memo.specs.declared.stepping.frame.Frame.{Frame}
use Rattle.pq_memo.specs.Sound.{Memo}
use Rattle.pq_memo.specs.Look.{IsUpToDate}
use Rattle.pq_memo.specs.Table.{HasIn}
use Rattle.pq_memo.specs.Frames.{Awaits, IsRound, frame_keys}
use Rattle.pq_memo.proofs.Stacked.{keys_append}
use Rattle.pq_claims.specs.Claims.{Hold, hold_of, Holds, WaitsFor, AreSound, Differ, awaited}
use Rattle.pq_core.specs.declared.store.rising.Place.{Place}
use Rattle.pq_core.specs.declared.runs.frames.Top.{Top}
use Rattle.pq_core.specs.declared.runs.frames.Top.TheVariants.{Empty, At, Away}
use Rattle.pq_core.specs.aux.Rising.{found}
use Rattle.pq_core.specs.aux.Runs.{RunView, RunsKept, AreClaimed, ClosesRing, FramesKept, HoldsBelow, KeptBelow, TopAwaits, WaitsFor as FrameWaitsFor, WaitsUp, claimed_keys, run_keys, top_keys}
use Rattle.pq_core.specs.aux.Rings.{HasFrame, IsFrameOf}
use Rattle.pq_core.proofs.Lists.{some_one, same_or_other}
use Rattle.pq_core.proofs.Changing.{if_at, if_other}
use Rattle.pq_core.proofs.Claiming.{holder_there}
use Rattle.pq_core.proofs.Rounds.{Climbs, ring_held, ring_round, ring_started, ring_waits}

-- ---- frames of runs

-- `top_frames top` is `top`, if it is a frame
abbrev pub top_frames : {K P : Type 0} → Top K P → List (Frame K P)
top_frames Empty = []
top_frames (At f) = f ∷ []
top_frames (Away p) = []

-- `frames_of run` is the frames of `run`, the top the last, if it exists
abbrev pub frames_of : {K P : Type 0} → Option (RunView K P) → List (Frame K P)
frames_of None = []
frames_of (Some run) = run.stack ++ top_frames run.top

module _ {K : Type 0} where
  differ_none : (xs ys : List K) → Differ (xs ++ ys) → Differ (xs ++ [])
  differ_none [] ys d = tt
  differ_none (x ∷ xs) ys d = (λ i. d.0 (elim (in_append x xs [] i) [ inl j ↦ in_append_left x xs ys j | inr n ↦ absurd n ]), differ_none xs ys d.1)

  pub differ_front : (xs ys : List K) → Differ (xs ++ ys) → Differ xs
  differ_front [] ys d = tt
  differ_front (x ∷ xs) ys d = (λ i. d.0 (in_append_left x xs ys i), differ_front xs ys d.1)

module _ {K P : Type 0} where
  pub in_key : (fs : List (Frame K P)) (f : Frame K P) → In f fs → In f.key (frame_keys fs)
  in_key [] f i = absurd i
  in_key (g ∷ gs) f (inl e) = inl (ap (λ (x : Frame K P). x.key) e)
  in_key (g ∷ gs) f (inr i) = inr (in_key gs f i)

  pub one_in : (fs : List (Frame K P)) (f g : Frame K P) → Differ (frame_keys fs) → In f fs → In g fs → f.key ≡ g.key → f ≡ g
  one_in [] f g d i j e = absurd i
  one_in (h ∷ hs) f g d (inl p) (inl q) e = p ∙ sym q
  one_in (h ∷ hs) f g d (inl p) (inr j) e =
      absurd (d.0 (subst (λ (k : K). In k (frame_keys hs)) (sym e ∙ ap (λ (x : Frame K P). x.key) p) (in_key hs g j)))
  one_in (h ∷ hs) f g d (inr i) (inl q) e =
      absurd (d.0 (subst (λ (k : K). In k (frame_keys hs)) (e ∙ ap (λ (x : Frame K P). x.key) q) (in_key hs f i)))
  one_in (h ∷ hs) f g d (inr i) (inr j) e = one_in hs f g d.1 i j e

  -- the keys of the frames of a run differ
  pub frames_differ : (stack : List (Frame K P)) (top : Top K P) → Differ (run_keys stack top) → Differ (frame_keys (stack ++ top_frames top))
  frames_differ stack Empty d = subst (λ (ks : List K). Differ ks) (sym (keys_append stack [])) d
  frames_differ stack (At f) d = subst (λ (ks : List K). Differ ks) (sym (keys_append stack (f ∷ []))) d
  frames_differ stack (Away p) d = subst (λ (ks : List K). Differ ks) (sym (keys_append stack [])) (differ_none (frame_keys stack) (p.key ∷ []) d)

  pub in_frames : (stack : List (Frame K P)) (top : Top K P) (f : Frame K P) → IsFrameOf stack top f → In f (stack ++ top_frames top)
  in_frames stack top f (inl i) = in_append_left f stack (top_frames top) i
  in_frames stack top f (inr e) = subst (λ (t : Top K P). In f (stack ++ top_frames t)) (sym e) (in_append_right f stack (f ∷ []) (inl refl))

  is_frame : (stack : List (Frame K P)) (top : Top K P) (f : Frame K P) → In f (stack ++ top_frames top) → IsFrameOf stack top f
  is_frame stack top f i = elim (in_append f stack (top_frames top) i) [ inl j ↦ inl j | inr j ↦ inr (of_top top j) ]
    where
      of_top : (t : Top K P) → In f (top_frames t) → t ≡ At f
      of_top Empty j = absurd j
      of_top (At g) (inl e) = ap (λ (x : Frame K P). At x) (sym e)
      of_top (At g) (inr n) = absurd n
      of_top (Away p) j = absurd j

  -- the key of a frame is a key of its run
  pub frame_held : (stack : List (Frame K P)) (top : Top K P) (f : Frame K P) → IsFrameOf stack top f → In f.key (run_keys stack top)
  frame_held stack top f (inl i) = in_append_left f.key (frame_keys stack) _ (in_key stack f i)
  frame_held stack top f (inr e) = subst (λ (t : Top K P). In f.key (run_keys stack t)) (sym e) (in_append_right f.key (frame_keys stack) (f.key ∷ []) (inl refl))

  -- the key of the top
  pub top_key : (top : Top K P) (f g : Frame K P) (k : K) → top ≡ At f → top ≡ At g → f.key ≡ k → g.key ≡ k
  top_key top f g k e d is = ap (λ (x : Frame K P). x.key) (one f g (sym d ∙ e)) ∙ is
    where
      one : (x y : Frame K P) → At y ≡ At x → y ≡ x
      one x y w = cc

  -- the frame at a place of the stack
  pub frame_found : (xs stack : List (Frame K P)) (i : ℕ) (f : Frame K P) (k : K) → xs ≡ stack → f ≡ get_or xs i f → (i < length stack) × HoldsAt (λ g. g.key ≡ k) stack i
      → (f.key ≡ k) × In f stack
  frame_found xs stack i f k same is found =
      let at : f ≡ get_or stack i f = is ∙ ap (λ (l : List (Frame K P)). get_or l i f) same in
      (ap (λ (g : Frame K P). g.key) at ∙ found.1 f, frame_at stack i f found.0 at)
    where
      frame_at : (l : List (Frame K P)) (n : ℕ) (g : Frame K P) → n < length l → g ≡ get_or l n g → In g l
      frame_at [] n g h e = absurd (omega arith)
      frame_at (x ∷ l) zero g h e = inl e
      frame_at (x ∷ l) (suc n) g h e = inr (frame_at l n g (omega arith) e)

  pub key_at : (stack : List (Frame K P)) (i : ℕ) (k : K) → i < length stack → HoldsAt (λ g. g.key ≡ k) stack i → In k (frame_keys stack)
  key_at [] i k l h = absurd (omega arith)
  key_at (g ∷ gs) zero k l h = inl (sym (h g))
  key_at (g ∷ gs) (suc i) k l h = inr (key_at gs i k (omega arith) h)

  -- below the frame of a key, no frame has that key
  pub apart_below : (stack : List (Frame K P)) (i : ℕ) (k : K) → Differ (frame_keys stack) → (i < length stack) × HoldsAt (λ g. g.key ≡ k) stack i → In k (frame_keys (take i stack)) → ⊥
  apart_below [] i k d f j = absurd (let l : i < 0 = f.0 in omega arith)
  apart_below (g ∷ gs) zero k d f j = j
  apart_below (g ∷ gs) (suc i) k d f (inl e) = d.0 (subst (λ (q : K). In q (frame_keys gs)) e (key_at gs i k (let l : suc i < length (g ∷ gs) = f.0 in omega arith) f.1))
  apart_below (g ∷ gs) (suc i) k d f (inr j) = apart_below gs i k d.1 ((let l : suc i < length (g ∷ gs) = f.0 in omega arith), f.1) j

  -- the keys below a frame, its key, and the keys above
  pub place_split : (stack : List (Frame K P)) (i : ℕ) (k : K) → (i < length stack) × HoldsAt (λ g. g.key ≡ k) stack i
      → (more : List K) × (frame_keys stack ≡ frame_keys (take i stack) ++ k ∷ more)
  place_split [] i k f = absurd (let l : i < 0 = f.0 in omega arith)
  place_split (g ∷ gs) zero k f = (frame_keys gs, ap (λ (q : K). q ∷ frame_keys gs) (f.1 g))
  place_split (g ∷ gs) (suc i) k f =
      let r = place_split gs i k ((let l : suc i < length (g ∷ gs) = f.0 in omega arith), f.1) in
      (r.0, ap (λ (l : List K). g.key ∷ l) r.1)

  -- a run that holds the keys of its frames and one more
  pub below_differ : (claims : List (ℕ × Hold K)) (run : ℕ) (stack : List (Frame K P)) → AreSound claims → HoldsBelow claims run stack → Differ (frame_keys stack)
  below_differ claims run stack sound h = differ_front (frame_keys stack) (h.0 ∷ []) (subst (λ (ks : List K). Differ ks) h.1 (sound.once run))

  module _ (runs : List (Place (RunView K P))) where
    pub has_frame : (r : ℕ) (f : Frame K P) → In f (frames_of (found runs r)) → HasFrame runs f
    has_frame r f i = there (found runs r) refl i
      where
        there : (o : Option (RunView K P)) → found runs r ≡ o → In f (frames_of o) → HasFrame runs f
        there None e j = absurd j
        there (Some run) e j = (r, run, e, is_frame run.stack run.top f j)

    pub each_frame : (fs : List (Frame K P)) → Each (λ (f : Frame K P). (r : ℕ) × In f (frames_of (found runs r))) fs → Each (HasFrame runs) fs
    each_frame [] e = tt
    each_frame (f ∷ fs) e = (has_frame e.0.0 f e.0.1, each_frame fs e.1)

    module _ (claims : List (ℕ × Hold K)) (claimed : AreClaimed claims runs) where
      -- the run of a frame holds its key
      pub frame_holds : (f : Frame K P) → (h : HasFrame runs f) → Holds claims h.0 f.key
      frame_holds f h =
          subst (λ (ks : List K). In f.key ks) (sym (claimed h.0 ∙ ap (λ (o : Option (RunView K P)). claimed_keys o) h.2)) (frame_held h.1.stack h.1.top f h.3)

      -- two frames of one key are one
      pub one_frame : AreSound claims → (f g : Frame K P) → HasFrame runs f → HasFrame runs g → f.key ≡ g.key → f ≡ g
      one_frame sound f g a b e =
          let same : b.0 ≡ a.0 = sound.one_holder b.0 a.0 f.key (subst (λ (k : K). Holds claims b.0 k) (sym e) (frame_holds g b)) (frame_holds f a) in
          let is : b.1 ≡ a.1 = some_one b.1 a.1 (sym b.2 ∙ (ap (λ (r : ℕ). found runs r) same ∙ a.2)) in
          let keys : Differ (run_keys a.1.stack a.1.top) =
          subst (λ (ks : List K). Differ ks) (claimed a.0 ∙ ap (λ (o : Option (RunView K P)). claimed_keys o) a.2) (sound.once a.0) in
          one_in (a.1.stack ++ top_frames a.1.top) f g (frames_differ a.1.stack a.1.top keys) (in_frames a.1.stack a.1.top f a.3)
          (in_frames a.1.stack a.1.top g (subst (λ (v : RunView K P). IsFrameOf v.stack v.top g) is b.3)) e

      -- no run has a frame of a key that none holds
      pub none_has : (k : K) → ((r : ℕ) → Holds claims r k → ⊥) → (f : Frame K P) → HasFrame runs f → f.key ≡ k → ⊥
      none_has k free f h e = free h.0 (subst (λ (q : K). Holds claims h.0 q) e (frame_holds f h))

      -- the frame of a key is one of the run that holds it
      pub own_frame : AreSound claims → (r : ℕ) (run : RunView K P) (k : K) → found runs r ≡ Some run → Holds claims r k → (f : Frame K P) → HasFrame runs f → f.key ≡ k
          → IsFrameOf run.stack run.top f
      own_frame sound r run k here holds f h e =
          let same : h.0 ≡ r = sound.one_holder h.0 r k (subst (λ (q : K). Holds claims h.0 q) e (frame_holds f h)) holds in
          let is : h.1 ≡ run = some_one h.1 run (sym h.2 ∙ (ap (λ (i : ℕ). found runs i) same ∙ here)) in
          subst (λ (v : RunView K P). IsFrameOf v.stack v.top f) is h.3

-- ---- the runs on a ring

-- `started_of run` is the start of `run`, if it exists
abbrev started_of : {K P : Type 0} → Option (RunView K P) → ℕ
started_of None = 0
started_of (Some run) = run.started

module _ {K P V : Type 0} (order : K → K → Ordering) (m : Machine K P V) (inputs : Table) (table : K → Option (Memo K V)) where
  -- the frames of a run whose keys are not up to date climb
  climbs : (wait : Option K) (stack : List (Frame K P)) (f : Frame K P) → WaitsUp order m inputs table f.key stack
      → ((k : K) → In k (frame_keys stack) → IsUpToDate m inputs.revision (HasIn table) k → ⊥)
      → ((k : K) → wait ≡ Some k → Awaits order m inputs.history inputs.revision (HasIn table) f.key f.stage k)
      → Climbs order m inputs table wait (stack ++ f ∷ [])
  unfolding WaitsUp Climbs
  climbs wait [] f w stale last = last
  climbs wait (g ∷ []) f w stale last = (elim w.0 [ inl up ↦ absurd (stale g.key (inl refl) up) | inr a ↦ a ], climbs wait [] f w.1 (λ k i. absurd i) last)
  climbs wait (g ∷ (h ∷ gs)) f w stale last =
      (elim w.0 [ inl up ↦ absurd (stale g.key (inl refl) up) | inr a ↦ a ], climbs wait (h ∷ gs) f w.1 (λ k i. stale k (inr i)) last)

  module _ (claims : List (ℕ × Hold K)) (runs : List (Place (RunView K P))) (sound : AreSound claims) (kept : RunsKept order m inputs table claims runs) where
    -- a run on the ring: it is current, and its top is a frame, which waits for the key that the run
    -- would wait for
    pub record OnRing (id : ℕ) (key : K) (r : ℕ) : Type 0 where
      pub run : RunView K P
      pub there : found runs r ≡ Some run
      pub current : run.started ≡ inputs.revision
      pub frame : Frame K P
      pub is_top : run.top ≡ At frame
      pub below : KeptBelow order m inputs table run.stack frame.key
      pub awaits : (k : K) → awaited claims id key r ≡ Some k → Awaits order m inputs.history inputs.revision (HasIn table) frame.key frame.stage k

    holds_run : (r : ℕ) (run : RunView K P) → found runs r ≡ Some run → (hold_of claims r).keys ≡ run_keys run.stack run.top
    holds_run r run e = kept.claimed r ∙ ap (λ (o : Option (RunView K P)). claimed_keys o) e

    holds_top : (r : ℕ) (run : RunView K P) (f : Frame K P) → found runs r ≡ Some run → run.top ≡ At f → Holds claims r f.key
    holds_top r run f e is = subst (λ (ks : List K). In f.key ks) (sym (holds_run r run e)) (frame_held run.stack run.top f (inr is))

    module _ (id : ℕ) (me : RunView K P) (ring : List K) (within : (r : ℕ) (run : RunView K P) → found runs r ≡ Some run → run.started ≤ inputs.revision)
        (here : found runs id ≡ Some me) (now : me.started ≡ inputs.revision) (closes : ClosesRing order m inputs table claims id me.top ring) where
      older : (r s : ℕ) (a : K) → Holds claims r a → WaitsFor claims r s → started_of (found runs s) ≤ started_of (found runs r)
      older r s a h w =
          let x = holder_there claims runs r a kept.claimed h in
          let y = holder_there claims runs s w.0 kept.claimed w.2 in
          let l : y.0.started ≤ x.0.started = kept.no_later r s x.0 y.0 w x.1 y.1 in
          subst (λ (o : Option (RunView K P)). started_of o ≤ started_of (found runs r)) (sym y.1)
          (subst (λ (o : Option (RunView K P)). y.0.started ≤ started_of o) (sym x.1) l)

      all_within : (r : ℕ) (x : K) → Holds claims r x → started_of (found runs r) ≤ started_of (found runs id)
      all_within r x h =
          let w = holder_there claims runs r x kept.claimed h in
          let l : w.0.started ≤ inputs.revision = within r w.0 w.1 in
          let a : started_of (found runs r) ≡ w.0.started = ap (λ (o : Option (RunView K P)). started_of o) w.1 in
          let b : started_of (found runs id) ≡ me.started = ap (λ (o : Option (RunView K P)). started_of o) here in
          omega (arith, l, a, b, now)

      -- a run on the ring is current
      current_on : (r : ℕ) (x : K) → In x ring → Holds claims r x → (run : RunView K P) → found runs r ≡ Some run → run.started ≡ inputs.revision
      current_on r x i h run e =
          let s : started_of (found runs r) ≡ started_of (found runs id) =
          ring_started claims id closes.next sound (λ q. started_of (found runs q)) older all_within order ring closes.closed.last closes.closed.round closes.closed.is_last closes.closed.has_last r x i h in
          let a : started_of (found runs r) ≡ run.started = ap (λ (o : Option (RunView K P)). started_of o) e in
          let b : started_of (found runs id) ≡ me.started = ap (λ (o : Option (RunView K P)). started_of o) here in
          omega (arith, s, a, b, now)

      frames_at_top : (r : ℕ) (run : RunView K P) (f : Frame K P) → found runs r ≡ Some run → run.started ≡ inputs.revision → run.top ≡ At f
          → KeptBelow order m inputs table run.stack f.key
      frames_at_top r run f e s is = (subst (λ (t : Top K P). FramesKept order m inputs table run.stack t) is (kept.current r run e s)).0

      -- the run that claims
      own_on : OnRing id closes.next id
      own_on = record {
        run = me;
        there = here;
        current = now;
        frame = closes.frame;
        is_top = closes.is_top;
        below = frames_at_top id me closes.frame here now closes.is_top;
        awaits = λ k w. subst (λ (q : K). Awaits order m inputs.history inputs.revision (HasIn table) closes.frame.key closes.frame.stage q)
            (some_one closes.next k (sym (if_at id (Some closes.next) (hold_of claims id).wait) ∙ w)) closes.awaits;
      }

      -- another run waits, so its top is a frame
      other_top : (r : ℕ) (x b : K) (run : RunView K P) (top : Top K P) → r ≢ id → Holds claims r x → found runs r ≡ Some run → run.started ≡ inputs.revision
          → (hold_of claims r).wait ≡ Some b → run.top ≡ top → OnRing id closes.next r
      other_top r x b run Empty ne h e s w is = absurd (subst (λ (ks : List K). In x ks) none h)
        where
          bare : run.stack ≡ []
          bare = subst (λ (t : Top K P). FramesKept order m inputs table run.stack t) is (kept.current r run e s)

          none : (hold_of claims r).keys ≡ []
          none = holds_run r run e ∙ (ap (λ (t : Top K P). run_keys run.stack t) is ∙ ap (λ (l : List (Frame K P)). run_keys l Empty) bare)
      other_top r x b run (At f) ne h e s w is = record {
        run = run;
        there = e;
        current = s;
        frame = f;
        is_top = is;
        below = frames_at_top r run f e s is;
        awaits = λ k a. waiting k (subst (λ (t : Top K P). TopAwaits order m inputs table t k) is
            (kept.waits r run e s k (sym (if_other r id (Some closes.next) (hold_of claims r).wait ne) ∙ a)));
      }
        where
          waiting : (k : K) → FrameWaitsFor order m inputs table f k → Awaits order m inputs.history inputs.revision (HasIn table) f.key f.stage k
          waiting k (inl up) = absurd (kept.stale r f.key (holds_top r run f e is) up)
          waiting k (inr a) = a
      other_top r x b run (Away p) ne h e s w is = absurd (subst (λ (t : Top K P). TopAwaits order m inputs table t b) is (kept.waits r run e s b w))

      other_on : (r : ℕ) (x : K) → r ≢ id → In x ring → Holds claims r x → OnRing id closes.next r
      other_on r x ne i h =
          let w = holder_there claims runs r x kept.claimed h in
          let b = ring_waits claims id closes.next sound order ring closes.closed.round r ne x i h in
          other_top r x b.0 w.0 w.0.top ne h w.1 (current_on r x i h w.0 w.1) b.1 refl

      pub on_ring : (r : ℕ) (x : K) → In x ring → Holds claims r x → OnRing id closes.next r
      on_ring r x i h = elim (same_or_other r id) [ inl e ↦ subst (λ (q : ℕ). OnRing id closes.next q) (sym e) own_on | inr ne ↦ other_on r x ne i h ]

      -- its frames climb, and it holds their keys
      climbs_on : (r : ℕ) → OnRing id closes.next r
          → ((hold_of claims r).keys ≡ frame_keys (frames_of (found runs r))) × Climbs order m inputs table (awaited claims id closes.next r) (frames_of (found runs r))
      climbs_on r o = (
        holds_run r o.run o.there ∙ (ap (λ (t : Top K P). run_keys o.run.stack t) o.is_top
            ∙ (sym (keys_append o.run.stack (o.frame ∷ [])) ∙ ap (λ (l : List (Frame K P)). frame_keys l) (sym frames))),
        subst (λ (l : List (Frame K P)). Climbs order m inputs table (awaited claims id closes.next r) l) (sym frames)
            (climbs (awaited claims id closes.next r) o.run.stack o.frame o.below.waits stale o.awaits),
      )
        where
          frames : frames_of (found runs r) ≡ o.run.stack ++ o.frame ∷ []
          frames = ap (λ (x : Option (RunView K P)). frames_of x) o.there ∙ ap (λ (t : Top K P). o.run.stack ++ top_frames t) o.is_top

          stale : (k : K) → In k (frame_keys o.run.stack) → IsUpToDate m inputs.revision (HasIn table) k → ⊥
          stale k i = kept.stale r k (subst (λ (ks : List K). In k ks) (sym (holds_run r o.run o.there)) (in_append_left k (frame_keys o.run.stack) (top_keys o.run.top) i))

      -- the frames of the ring's keys are a round
      pub ring_frames : (fs : List (Frame K P)) × IsRound order m inputs.history inputs.revision table fs × (frame_keys fs ≡ ring) × Each (HasFrame runs) fs
      ring_frames =
          let w = ring_round order m inputs table claims (λ r. frames_of (found runs r)) id closes.next ring (λ r x i h. climbs_on r (on_ring r x i h)) closes.closed.round in
          (w.0, w.1, w.2, each_frame runs w.0 w.3)

      -- the top of a run that holds a key of the ring is a frame
      pub ring_top : (r : ℕ) (run : RunView K P) (x : K) → found runs r ≡ Some run → Holds claims r x → In x ring → (f : Frame K P) × (run.top ≡ At f)
      ring_top r run x e h i =
          let o = on_ring r x i h in
          (o.frame, subst (λ (v : RunView K P). v.top ≡ At o.frame) (some_one o.run run (sym o.there ∙ e)) o.is_top)

      -- no key of the ring is up to date
      pub ring_stale : (x : K) → In x ring → IsUpToDate m inputs.revision (HasIn table) x → ⊥
      ring_stale x i = let h = ring_held claims id closes.next sound order ring closes.closed.round x i in kept.stale h.0 x h.1
