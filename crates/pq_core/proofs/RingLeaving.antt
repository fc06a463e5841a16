-- The frames of a ring leave: what each run keeps while they go, and after.
--
-- The ring was published, so its keys are up to date, and no other key became so. Key by key, the last
-- frames of the run that holds it leave, that of the key among them. A run that holds a key of the ring
-- has a frame on top all the while, since a frame comes up where frames leave.
use Rattle.std.proofs.Common.{◌≡◌, ℕ, zero, suc, ◌+◌, ◌-◌, ◌<◌, ◌≤◌, ◌==◌, if◌then◌else◌, List, [], ◌∷◌, ◌++◌, length, take, drop, get_or, ◌⊎◌, Option, Some, None, refl, sym, ◌∙◌, ap, subst, inl, inr, arith, append_assoc}
use Rattle.std.specs.Option.{option_map}
use Rattle.std.proofs.Math.Seq.{take-length}
use Rattle.std.specs.declared.cmp.Ordering.{Ordering}
use Rattle.pq_inputs.specs.Sources.{Table}
use Rattle.pq_rules.specs.Turns.{Machine}
use Rattle.pq_rules.specs.Relations.{In}
use Rattle.pq_rules.specs.aux.Lists.{in_append, in_append_left}
use Rattle.pq_rules.proofs.Weight.{Exact}
use Rattle.pq_memo.specs.declared.stepping.frame.Frame.{Frame}
use Rattle.pq_memo.specs.Sound.{Memo}
use Rattle.pq_memo.specs.Look.{IsUpToDate}
use Rattle.pq_memo.specs.Table.{HasIn}
use Rattle.pq_memo.specs.Frames.{frame_keys}
use Rattle.pq_memo.specs.aux.Demand.{Wrote}
use Rattle.pq_memo.proofs.PutAll.{decide_in}
use Rattle.pq_claims.specs.Claims.{Hold, hold_of, Holds, IsSet, WaitsFor, AreSound}
use Rattle.pq_core.specs.declared.store.rising.Place.{Place}
use Rattle.pq_core.specs.declared.runs.frames.Top.{Top}
use Rattle.pq_core.specs.declared.runs.frames.Top.TheVariants.{Empty, At, Away}
use Rattle.pq_core.specs.Stores.{run_seen}
use Rattle.pq_core.specs.aux.Rising.{found}
use Rattle.pq_core.specs.aux.Runs.{RunView, RunKept, RunsKept, AreClaimed, FramesKept, HoldsBelow, IsLowered, IsSameRun, OthersHold, Renewed, TopAwaits, WaitStands, claimed_keys, out_at, run_keys}
use Rattle.pq_core.specs.aux.Rings.{IsCut, KeyLeaves, LeavesRun}
use Rattle.pq_core.proofs.Lists.{none_some, some_one, same_or_other}
use Rattle.pq_core.proofs.Changing.{if_at, if_other}
use Rattle.pq_core.proofs.Claiming.{by_run, lowered_keys, others_then, set_others, set_own}
use Rattle.pq_core.proofs.Framed.{cut_lowered, lowered_idle}
use Rattle.pq_core.proofs.Renewed.{renewed_wrote, runs_kept, waits_still}

-- ---- the last frames leave

none_one : {A : Type 0} (ys : List A) (y : A) → [] ≡ ys ++ y ∷ [] → ⊥
none_one [] y e = cc
none_one (x ∷ ys) y e = cc

one_of : {A : Type 0} (x y : A) (xs ys : List A) → x ∷ xs ≡ y ∷ ys → x ≡ y
one_of x y xs ys e = cc

rest_of : {A : Type 0} (x y : A) (xs ys : List A) → x ∷ xs ≡ y ∷ ys → xs ≡ ys
rest_of x y xs ys e = cc

module _ {K P : Type 0} where
  -- some frames were taken
  taken : (xs : List (Frame K P)) (n : ℕ) → 0 < n → n ≤ length xs → take n xs ≡ [] → ⊥
  taken [] n h l e = absurd (omega (arith, h, l))
  taken (x ∷ xs) zero h l e = absurd (omega (arith, h))
  taken (x ∷ xs) (suc n) h l e = cc

  -- one frame less
  one_less : (xs ys : List (Frame K P)) (n : ℕ) (f : Frame K P) → n < length xs → take (suc n) xs ≡ ys ++ f ∷ [] → ys ≡ take n xs
  one_less [] ys n f l e = absurd (omega (arith, l))
  one_less (x ∷ xs) [] zero f l e = refl
  one_less (x ∷ xs) (y ∷ ys) zero f l e = absurd (none_one ys f (rest_of x y [] (ys ++ f ∷ []) e))
  one_less (x ∷ xs) [] (suc n) f l e = absurd (taken xs (suc n) (omega arith) (omega (arith, l)) (rest_of x f (take (suc n) xs) [] e))
  one_less (x ∷ xs) (y ∷ ys) (suc n) f l e =
      let r = one_less xs ys n f (omega (arith, l)) (rest_of x y (take (suc n) xs) (ys ++ f ∷ []) e) in
      ap (λ (z : Frame K P). z ∷ ys) (sym (one_of x y (take (suc n) xs) (ys ++ f ∷ []) e)) ∙ ap (λ (zs : List (Frame K P)). x ∷ zs) r

  in_taken : (xs : List (Frame K P)) (n : ℕ) (k : K) → In k (frame_keys (take n xs)) → In k (frame_keys xs)
  in_taken [] zero k i = i
  in_taken [] (suc n) k i = i
  in_taken (x ∷ xs) zero k i = absurd i
  in_taken (x ∷ xs) (suc n) k (inl e) = inl e
  in_taken (x ∷ xs) (suc n) k (inr i) = inr (in_taken xs n k i)

  in_more : (xs : List (Frame K P)) (m n : ℕ) (k : K) → m ≤ n → In k (frame_keys (take m xs)) → In k (frame_keys (take n xs))
  in_more xs zero n k l i = absurd i
  in_more [] (suc m) n k l i = absurd i
  in_more (x ∷ xs) (suc m) zero k l i = absurd (omega (arith, l))
  in_more (x ∷ xs) (suc m) (suc n) k l (inl e) = inl e
  in_more (x ∷ xs) (suc m) (suc n) k l (inr i) = inr (in_more xs m n k (omega (arith, l)) i)

  -- the top left
  pub first_left : (stack left : List (Frame K P)) (top : Top K P) → IsLowered stack left top → (count : ℕ) × (count + 0 ≡ length stack) × IsLowered (take count stack) left top
  first_left stack left top low = (length stack, omega arith, subst (λ (l : List (Frame K P)). IsLowered l left top) (sym (take-length stack)) low)

  -- those that are to leave are above `below`
  pub start_over : (stack : List (Frame K P)) (count below : ℕ) → count + 0 ≡ length stack → below ≤ length stack → below ≤ count
  start_over stack count below sum within = omega (arith, sum, within)

  pub still_over : (stack fs : List (Frame K P)) (count below step : ℕ) → fs ≡ stack → count + (step + 1) ≡ length stack → below ≤ length stack → step < length fs - below → below ≤ count
  still_over stack fs count below step same sum within more = let s : length fs ≡ length stack = ap (λ (l : List (Frame K P)). length l) same in omega (arith, s, sum, within, more)

  module _ (stack fs left : List (Frame K P)) (top : Top K P) (below step : ℕ) (same : fs ≡ stack) (more : step < length fs - below) where
    -- a frame is on top
    pub still_below : (count : ℕ) → count + step ≡ length stack → IsLowered (take count stack) left top → (keys : List K) → keys ≡ run_keys left top
        → (k : K) × (keys ≡ frame_keys left ++ k ∷ [])
    still_below count sum low keys e = by_top top low e
      where
        some : 0 < count
        some = let s : length fs ≡ length stack = ap (λ (l : List (Frame K P)). length l) same in omega (arith, sum, more, s)

        by_top : (t : Top K P) → IsLowered (take count stack) left t → keys ≡ run_keys left t → (k : K) × (keys ≡ frame_keys left ++ k ∷ [])
        by_top Empty l d = absurd (taken stack count some (omega (arith, sum)) l.0)
        by_top (At f) l d = (f.key, d)
        by_top (Away p) l d = absurd l

    -- and left
    pub next_left : (count : ℕ) → count + step ≡ length stack → IsLowered (take count stack) left top → (rest : List (Frame K P)) (now : Top K P) → IsLowered left rest now
        → (c : ℕ) × (c + (step + 1) ≡ length stack) × IsLowered (take c stack) rest now
    next_left zero sum low rest now again = absurd (let s : length fs ≡ length stack = ap (λ (l : List (Frame K P)). length l) same in omega (arith, sum, more, s))
    next_left (suc c) sum low rest now again = by_top top low
      where
        within : c < length stack
        within = omega (arith, sum)

        by_top : (t : Top K P) → IsLowered (take (suc c) stack) left t → (n : ℕ) × (n + (step + 1) ≡ length stack) × IsLowered (take n stack) rest now
        by_top Empty l = absurd (taken stack (suc c) (omega arith) (omega (arith, sum)) l.0)
        by_top (At f) l = (c, omega (arith, sum), subst (λ (x : List (Frame K P)). IsLowered x rest now) (one_less stack left c f within l) again)
        by_top (Away p) l = absurd l

  -- all of them left, and the run waits for no key
  pub run_left : (run : ℕ) (key : K) (stack fs rest : List (Frame K P)) (top : Top K P) (below step count : ℕ) (before after last : List (ℕ × Hold K)) → fs ≡ stack
      → below ≤ length stack → (In key (frame_keys (take below stack)) → ⊥)
      → ((more : List K) × (frame_keys stack ≡ frame_keys (take below stack) ++ key ∷ more)) ⊎ ((below ≡ length stack) × (In key (frame_keys stack) → ⊥))
      → length fs - below ≤ step → below ≤ count → count + step ≡ length stack → IsLowered (take count stack) rest top
      → (hold_of after run).keys ≡ run_keys rest top → OthersHold run before after → HoldsBelow before run stack
      → IsSet after last run (record { keys = (hold_of after run).keys; wait = None }) → LeavesRun run key stack rest top before last
  run_left run key stack fs rest top below step count before after last same within apart split all least sum low keys others holds ended = record {
    count = count;
    lowered = low;
    keys = keys_are;
    gone = λ i. apart (in_more stack count below key less (left key i));
    fewer = λ k i. subst (λ (ks : List K). In k ks) (sym holds.1) (in_append_left k (frame_keys stack) (holds.0 ∷ []) (in_taken stack count k (left k i)));
    awake = ap (λ (h : Hold K). h.wait) (set_own run after last _ ended);
    others = others_then run before after last others (set_others run after last _ ended);
    split = λ i. parts split i;
  }
    where
      keys_are : (hold_of last run).keys ≡ run_keys rest top
      keys_are = ap (λ (h : Hold K). h.keys) (set_own run after last _ ended) ∙ keys

      left : (k : K) → In k (hold_of last run).keys → In k (frame_keys (take count stack))
      left k i = subst (λ (ks : List K). In k ks) (keys_are ∙ sym (lowered_keys (take count stack) rest top low)) i

      less : count ≤ below
      less = let s : length fs ≡ length stack = ap (λ (l : List (Frame K P)). length l) same in omega (arith, within, all, sum, s)

      -- the keys that are left are those below the frame of `key`
      rest_keys : (hold_of last run).keys ≡ frame_keys (take below stack)
      rest_keys = keys_are ∙ (sym (lowered_keys (take count stack) rest top low) ∙ ap (λ (n : ℕ). frame_keys (take n stack)) (let e : count ≡ below = omega (arith, less, least) in e))

      parts : ((more : List K) × (frame_keys stack ≡ frame_keys (take below stack) ++ key ∷ more)) ⊎ ((below ≡ length stack) × (In key (frame_keys stack) → ⊥)) → In key (hold_of before run).keys
          → (more : List K) × ((hold_of before run).keys ≡ (hold_of last run).keys ++ key ∷ more)
      parts (inl s) i = (
        s.0 ++ holds.0 ∷ [],
        holds.1 ∙ (ap (λ (l : List K). l ++ holds.0 ∷ []) s.1 ∙ (append_assoc (frame_keys (take below stack)) (key ∷ s.0) (holds.0 ∷ [])
            ∙ ap (λ (l : List K). l ++ key ∷ (s.0 ++ holds.0 ∷ [])) (sym rest_keys))),
      )
      parts (inr o) i =
          let all_of : frame_keys (take below stack) ≡ frame_keys stack = ap (λ (n : ℕ). frame_keys (take n stack)) o.0 ∙ ap (λ (l : List (Frame K P)). frame_keys l) (take-length stack) in
          ([], holds.1 ∙ (ap (λ (l : List K). l ++ holds.0 ∷ []) (sym (rest_keys ∙ all_of)) ∙ ap (λ (q : K). (hold_of last run).keys ++ q ∷ []) (sym (last_key i))))
        where
          last_key : In key (hold_of before run).keys → key ≡ holds.0
          last_key j = elim (in_append key (frame_keys stack) (holds.0 ∷ []) (subst (λ (ks : List K). In key ks) holds.1 j)) [
            | inl n ↦ absurd (o.1 n)
            | inr (inl e) ↦ e
            | inr (inr n) ↦ absurd n
          ]

-- ---- a key leaves

module _ {K P : Type 0} (key : K) (before : List (ℕ × Hold K)) (old : List (Place (RunView K P))) (claimed : AreClaimed before old) where
  -- a run whose top is a frame holds the keys below, and one more
  pub top_below : (r : ℕ) (run : RunView K P) → found old r ≡ Some run → (f : Frame K P) × (run.top ≡ At f) → HoldsBelow before r run.stack
  top_below r run here top = (
    top.0.key,
    claimed r ∙ (ap (λ (o : Option (RunView K P)). claimed_keys o) here ∙ ap (λ (t : Top K P). run_keys run.stack t) top.1),
  )

  -- one run holds it
  pub key_leaves : (after : List (ℕ × Hold K)) (new : List (Place (RunView K P))) (id : ℕ) (was now : RunView K P) → AreSound before → found old id ≡ Some was → Holds before id key
      → (f : Frame K P) × (was.top ≡ At f) → ((k : ℕ) → found new k ≡ (if k == id then Some now else found old k)) → IsSameRun was now
      → LeavesRun id key was.stack now.stack now.top before after → KeyLeaves key before after old new
  key_leaves after new id was now sound here holds top set same left = record {
    claimed = by_run before after old new id (Some now) set left.keys left.others claimed;
    gone = λ r h. elim (same_or_other r id) [
      | inl e ↦ left.gone (subst (λ (q : ℕ). Holds after q key) e h)
      | inr ne ↦ ne (sound.one_holder r id key (subst (λ (ks : List K). In key ks) (left.others r ne).0 h) holds)
    ];
    fewer = λ r k h. elim (same_or_other r id) [
      | inl e ↦ subst (λ (q : ℕ). Holds before q k) (sym e) (left.fewer k (subst (λ (q : ℕ). Holds after q k) e h))
      | inr ne ↦ subst (λ (ks : List K). In k ks) (left.others r ne).0 h
    ];
    waits = λ r k w. elim (same_or_other r id) [
      | inl e ↦ absurd (none_some k (sym left.awake ∙ (ap (λ (q : ℕ). (hold_of after q).wait) (sym e) ∙ w)))
      | inr ne ↦ (left.others r ne).1 k w
    ];
    each = λ r. elim (same_or_other r id) [
      | inl e ↦ inr (
        was,
        now,
        ap (λ (q : ℕ). found old q) e ∙ here,
        ap (λ (q : ℕ). found new q) e ∙ (set id ∙ if_at id (Some now) (found old id)),
        record {
          same = same;
          frame = top.0;
          is_top = top.1;
          count = left.count;
          lowered = left.lowered;
          awake = ap (λ (q : ℕ). (hold_of after q).wait) e ∙ left.awake;
        },
      )
      | inr ne ↦ inl (set r ∙ if_other r id (Some now) (found old r) ne)
    ];
    split = λ r. elim (same_or_other r id) [
      | inl e ↦ inr (subst (λ (q : ℕ). (more : List K) × ((hold_of before q).keys ≡ (hold_of after q).keys ++ key ∷ more)) (sym e) (left.split holds))
      | inr ne ↦ inl (left.others r ne).0
    ];
  }

-- ---- the runs, while the keys leave

-- `IsLeaving order m inputs table claims runs rest` is what holds of runs and their claims while the
-- frames of a ring that was published leave, and those of `rest` are left
pub record IsLeaving {K P V : Type 0} (order : K → K → Ordering) (m : Machine K P V) (inputs : Table) (table : K → Option (Memo K V)) (claims : List (ℕ × Hold K))
    (runs : List (Place (RunView K P))) (rest : List K) : Type 0 where
  pub claimed : AreClaimed claims runs
  pub current : (r : ℕ) (run : RunView K P) → found runs r ≡ Some run → run.started ≡ inputs.revision → RunKept order m inputs table run
  pub waits : (r : ℕ) (run : RunView K P) → found runs r ≡ Some run → run.started ≡ inputs.revision → WaitStands order m inputs table claims r run.top
  pub no_later : (r s : ℕ) (a b : RunView K P) → WaitsFor claims r s → found runs r ≡ Some a → found runs s ≡ Some b → b.started ≤ a.started
  -- of the keys that runs hold, those that are up to date are left
  pub fresh : (r : ℕ) (k : K) → Holds claims r k → IsUpToDate m inputs.revision (HasIn table) k → In k rest
  -- the top of a run that holds a key that is left is a frame
  pub tops : (r : ℕ) (run : RunView K P) (k : K) → found runs r ≡ Some run → Holds claims r k → In k rest → (f : Frame K P) × (run.top ≡ At f)

-- ---- the first

module _ {K P V : Type 0} (order : K → K → Ordering) (exact : Exact order) (m : Machine K P V) (inputs : Table) (tb ta : K → Option (Memo K V)) (ring : List K)
    (wrote : Wrote inputs.revision tb ta ring) (stale : (x : K) → In x ring → IsUpToDate m inputs.revision (HasIn tb) x → ⊥) where
  -- the ring was published
  pub ring_renewed : Renewed m inputs.revision tb ta
  ring_renewed = renewed_wrote order exact m inputs.revision tb ta ring wrote stale

  older : (k : K) → ta k ≡ tb k → IsUpToDate m inputs.revision (HasIn ta) k → IsUpToDate m inputs.revision (HasIn tb) k
  older k e (inl low) = inl low
  older k e (inr r) = inr (r.0, sym e ∙ r.1, r.2)

  top_still : (top : Top K P) (k : K) → TopAwaits order m inputs tb top k → TopAwaits order m inputs ta top k
  top_still Empty k t = tt
  top_still (At f) k t = waits_still order m inputs tb ta ring_renewed f k t
  top_still (Away p) k t = absurd t

  pub leaving_first : (claims : List (ℕ × Hold K)) (runs : List (Place (RunView K P))) → RunsKept order m inputs tb claims runs
      → ((r : ℕ) (run : RunView K P) (k : K) → found runs r ≡ Some run → Holds claims r k → In k ring → (f : Frame K P) × (run.top ≡ At f))
      → IsLeaving order m inputs ta claims runs ring
  leaving_first claims runs kept tops = record {
    claimed = kept.claimed;
    current = λ r run h e. runs_kept order m inputs tb ta ring_renewed run (kept.current r run h e);
    waits = λ r run h e k w. top_still run.top k (kept.waits r run h e k w);
    no_later = kept.no_later;
    fresh = λ r k h up. elim (decide_in order exact ring k) [
      | inl i ↦ i
      | inr out ↦ absurd (kept.stale r k h (older k (wrote.others k out) up))
    ];
    tops = tops;
  }

-- ---- the next, and the last

module _ {K P V : Type 0} (order : K → K → Ordering) (m : Machine K P V) (inputs : Table) (table : K → Option (Memo K V)) where
  -- a run whose last frames left is in order
  cut_kept : (claims : List (ℕ × Hold K)) (was now : RunView K P) (r : ℕ) → IsCut claims was now r → RunKept order m inputs table was → RunKept order m inputs table now
  cut_kept claims was now r cut kept =
      let below = (subst (λ (t : Top K P). FramesKept order m inputs table was.stack t) cut.is_top kept).0 in
      cut_lowered order m inputs table cut.count cut.frame.key was.stack (take cut.count was.stack) now.stack now.top below.waits below.differ refl cut.lowered

  module _ (before after : List (ℕ × Hold K)) (old new : List (Place (RunView K P))) (key : K) (left : KeyLeaves key before after old new) where
    -- a run was there, with the same start
    was_there : (r : ℕ) (run : RunView K P) → found new r ≡ Some run → (o : RunView K P) × (found old r ≡ Some o) × (run.started ≡ o.started)
    was_there r run h = elim (left.each r) [
      | inl e ↦ (run, sym e ∙ h, refl)
      | inr c ↦ (c.0, c.2, ap (λ (v : RunView K P). v.started) (sym (some_one c.1 run (sym c.3 ∙ h))) ∙ c.4.same.started)
    ]

    -- the same is seen of each run
    pub seen_left : (r : ℕ) → option_map run_seen (found new r) ≡ option_map run_seen (found old r)
    seen_left r = elim (left.each r) [
      | inl e ↦ ap (λ (o : Option (RunView K P)). option_map run_seen o) e
      | inr c ↦ ap (λ (o : Option (RunView K P)). option_map run_seen o) c.3 ∙ (ap Some (same_seen c.0 c.1 c.4) ∙ sym (ap (λ (o : Option (RunView K P)). option_map run_seen o) c.2))
    ]
      where
        same_seen : (was now : RunView K P) → IsCut after was now r → run_seen now ≡ run_seen was
        same_seen was now cut =
            let a = cut.same.client in
            let b = cut.same.number in
            let d = cut.same.request in
            let e = cut.same.started in
            let f : out_at now.top ≡ out_at was.top = lowered_idle (take cut.count was.stack) now.stack now.top cut.lowered ∙ sym (ap (λ (t : Top K P). out_at t) cut.is_top) in
            cc

    pub leaving_next : (rest : List K) → IsLeaving order m inputs table before old (key ∷ rest) → IsLeaving order m inputs table after new rest
    leaving_next rest w = record {
      claimed = left.claimed;
      current = λ r run h e. elim (left.each r) [
        | inl s ↦ w.current r run (sym s ∙ h) e
        | inr c ↦
            let is : c.1 ≡ run = some_one c.1 run (sym c.3 ∙ h) in
            let began : c.0.started ≡ inputs.revision = sym c.4.same.started ∙ (ap (λ (v : RunView K P). v.started) is ∙ e) in
            subst (λ (v : RunView K P). RunKept order m inputs table v) is (cut_kept after c.0 c.1 r c.4 (w.current r c.0 c.2 began))
      ];
      waits = λ r run h e k wait. elim (left.each r) [
        | inl s ↦ w.waits r run (sym s ∙ h) e k (left.waits r k wait)
        | inr c ↦ absurd (none_some k (sym c.4.awake ∙ wait))
      ];
      no_later = λ r s a b held h i.
          let x = was_there r a h in
          let y = was_there s b i in
          let l : y.0.started ≤ x.0.started = w.no_later r s x.0 y.0 (held.0, left.waits r held.0 held.1, left.fewer s held.0 held.2) x.1 y.1 in
          let p : a.started ≡ x.0.started = x.2 in
          let q : b.started ≡ y.0.started = y.2 in
          omega (arith, l, p, q);
      fresh = λ r k h up. elim (w.fresh r k (left.fewer r k h) up) [
        | inl e ↦ absurd (left.gone r (subst (λ (q : K). Holds after r q) e h))
        | inr i ↦ i
      ];
      tops = λ r run k h holds i. elim (left.each r) [
        | inl s ↦ w.tops r run k (sym s ∙ h) (left.fewer r k holds) (inr i)
        | inr c ↦
            let is : c.1 ≡ run = some_one c.1 run (sym c.3 ∙ h) in
            subst (λ (v : RunView K P). (f : Frame K P) × (v.top ≡ At f)) is
            (top_now k c.1.stack c.1.top (take c.4.count c.0.stack) c.4.lowered
            (subst (λ (ks : List K). In k ks) (left.claimed r ∙ ap (λ (o : Option (RunView K P)). claimed_keys o) c.3) holds))
      ];
    }
      where
        top_now : (k : K) (stack : List (Frame K P)) (top : Top K P) (all : List (Frame K P)) → IsLowered all stack top → In k (run_keys stack top) → (f : Frame K P) × (top ≡ At f)
        top_now k stack Empty all low i = absurd (subst (λ (l : List (Frame K P)). In k (run_keys l Empty)) low.1 i)
        top_now k stack (At f) all low i = (f, refl)
        top_now k stack (Away p) all low i = absurd low

  -- no key is left
  pub leaving_last : (claims : List (ℕ × Hold K)) (runs : List (Place (RunView K P))) (rest : List K) → rest ≡ [] → IsLeaving order m inputs table claims runs rest
      → RunsKept order m inputs table claims runs
  leaving_last claims runs rest none w = record {
    claimed = w.claimed;
    current = w.current;
    stale = λ r k h up. subst (λ (ks : List K). In k ks) none (w.fresh r k h up);
    waits = w.waits;
    no_later = w.no_later;
  }

-- the keys from a place on
drop_one : {K : Type 0} (xs : List K) (i : ℕ) (x : K) → i < length xs → x ≡ get_or xs i x → drop i xs ≡ x ∷ drop (suc i) xs
drop_one [] i x l e = absurd (omega (arith, l))
drop_one {K} (y ∷ xs) zero x l e = ap (λ (z : K). z ∷ xs) (sym e)
drop_one (y ∷ xs) (suc i) x l e = drop_one xs i x (omega (arith, l)) e

pub drop_next : {K : Type 0} (xs : List K) (i : ℕ) (x : K) → i < length xs → x ≡ get_or xs i x → drop i xs ≡ x ∷ drop (i + 1) xs
drop_next {K} xs i x l e = drop_one xs i x l e ∙ ap (λ (n : ℕ). x ∷ drop n xs) (let s : suc i ≡ i + 1 = omega arith in s)

pub drop_none : {K : Type 0} (xs : List K) (i : ℕ) → length xs ≤ i → drop i xs ≡ []
drop_none [] zero l = refl
drop_none [] (suc i) l = refl
drop_none (x ∷ xs) zero l = absurd (omega (arith, l))
drop_none (x ∷ xs) (suc i) l = drop_none xs i (omega (arith, l))
