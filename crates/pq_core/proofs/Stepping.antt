-- A step of a run: the run holds keys that are not up to date, it waits for a key for which its top
-- waits, and of the keys that other runs hold it writes none.
use Rattle.std.proofs.Common.{◌≡◌, ℕ, ◌==◌, if◌then◌else◌, ◌⊎◌, Bool, true, false, List, [], ◌∷◌, ◌++◌, Option, Some, None, Result, Ok, Err, IfOk, refl, sym, ◌∙◌, ap, subst, inl, inr}
use Rattle.std.proofs.lemmas.Bool.{eqb-true}
use Rattle.std.specs.declared.cmp.Ordering.{Ordering}
use Rattle.pq_inputs.specs.Sources.{Table}
use Rattle.pq_rules.specs.Turns.{Machine}
use Rattle.pq_rules.specs.Relations.{In, Chain, IsRing}
use Rattle.pq_rules.specs.aux.Lists.{in_append, in_append_left, in_append_right}
use Rattle.pq_memo.specs.declared.stepping.frame.Frame.{Frame}
use Rattle.pq_memo.specs.declared.stepping.frame.Stage.TheVariants.{Walking}
use Rattle.pq_memo.specs.Sound.{Memo}
use Rattle.pq_memo.specs.Look.{IsUpToDate}
use Rattle.pq_memo.specs.Table.{View, HasIn, memo_at}
use Rattle.pq_memo.specs.Frames.{Awaits, IsFrame, frame_keys}
use Rattle.pq_memo.specs.aux.Demand.{Wrote}
use Rattle.pq_memo.proofs.Stacked.{keys_append}
use Rattle.pq_claims.specs.declared.claim.Claim.TheVariants.{Got, HeldBy}
use Rattle.pq_claims.specs.Claims.{AreSame, AreSound, Claimed, ComesNext, Hold, Holds, IsClosed, IsLast, IsSet, Precedes, hold_of}
use Rattle.pq_core.specs.Works.{WorkView}
use Rattle.pq_core.specs.declared.runs.frames.Top.{Top}
use Rattle.pq_core.specs.declared.runs.frames.Top.TheVariants.{Empty, At, Away}
use Rattle.pq_core.specs.declared.runs.frames.Looked.{Looked}
use Rattle.pq_core.specs.declared.runs.frames.Looked.TheVariants.{Carry, Stepped, Blocked, Ring}
use Rattle.pq_core.specs.aux.Runs.{AreStale, CanGoOn, Enters, FramesKept, HasLooked, IsLowered, KeptBelow, OthersUnwritten, WaitStands, out_at, run_keys}
use Rattle.pq_core.proofs.Claiming.{lowered_keys, set_own}
use Rattle.pq_core.proofs.Framed.{kept_as, lowered, lowered_idle, pushed_keys, pushed_waits, walked}
use Rattle.pq_core.proofs.Lists.{none_some}

some_last : {A : Type 0} (xs : List A) (x : A) → xs ++ x ∷ [] ≡ [] → ⊥
some_last [] x e = cc
some_last (a ∷ xs) x e = cc

-- ---- the ring that a claim would close

abbrev waiting : {K : Type 0} → Hold K → Option K → Hold K
waiting hold w = record { keys = hold.keys; wait = w }

chain_more : {K : Type 0} (N M : K → K → Type 0) → ((a b : K) → N a b → M a b) → (k : K) (xs : List K) (z : K) → Chain N k xs z → Chain M k xs z
unfolding Chain
chain_more N M f k [] z c = f k z c
chain_more N M f k (x ∷ xs) z c = (f k x c.0, chain_more N M f x xs z c.1)

ring_more : {K : Type 0} (order : K → K → Ordering) (N M : K → K → Type 0) → ((a b : K) → N a b → M a b) → (ring : List K) → IsRing order N ring → IsRing order M ring
unfolding IsRing
ring_more order N M f [] r = r
ring_more order N M f (z ∷ zs) r = (chain_more N M f z zs z r.0, r.1)

module _ {K : Type 0} (order : K → K → Ordering) (run : ℕ) (before after : List (ℕ × Hold K)) where
  next_same : AreSame before after → (key a b : K) → ComesNext before run key a b → ComesNext after run key a b
  next_same same key a b n = (
    n.0,
    subst (λ (h : Hold K). Precedes h.keys a b ⊎ (IsLast h.keys a × ((if n.0 == run then Some key else h.wait) ≡ Some b))) (sym (same n.0)) n.1,
  )

  -- it is that of claims that are the same
  pub closed_same : AreSame before after → (key : K) (ring : List K) → IsClosed order before run key ring → IsClosed order after run key ring
  closed_same same key ring w = record {
    round = ring_more order (ComesNext before run key) (ComesNext after run key) (next_same same key) ring w.round;
    has_key = w.has_key;
    last = w.last;
    is_last = subst (λ (h : Hold K). IsLast h.keys w.last) (sym (same run)) w.is_last;
    has_last = w.has_last;
  }

  -- the wait of a run that waits for no key ends
  pub ended_same : (hold_of before run).wait ≡ None → IsSet before after run (record { keys = (hold_of before run).keys; wait = None }) → AreSame before after
  ended_same awake s r = s r ∙ by_test (r == run) refl
    where
      is : waiting (hold_of before run) None ≡ hold_of before run
      is = ap (λ (w : Option K). waiting (hold_of before run) w) (sym awake)

      by_test : (t : Bool) → (r == run) ≡ t → (if r == run then waiting (hold_of before run) None else hold_of before r) ≡ hold_of before r
      by_test true e =
          ap (λ (b : Bool). if b then waiting (hold_of before run) None else hold_of before r) e ∙ (is ∙ ap (λ (i : ℕ). hold_of before i) (sym (eqb-true r run e)))
      by_test false e = ap (λ (b : Bool). if b then waiting (hold_of before run) None else hold_of before r) e

module _ {K : Type 0} (order : K → K → Ordering) (run : ℕ) (key : K) (before after : List (ℕ × Hold K)) where
  -- after a claim
  pub got_wait : Claimed order run key (Ok Got) before after → (hold_of after run).wait ≡ None
  got_wait told = ap (λ (h : Hold K). h.wait) (set_own run before after _ told.1)

  pub got_apart : (ks : List K) → (hold_of before run).keys ≡ ks → Claimed order run key (Ok Got) before after → In key ks → ⊥
  got_apart ks e told i = told.0 run (subst (λ (l : List K). In key l) (sym e) i)

  pub held_wait : (other : ℕ) → Claimed order run key (Ok (HeldBy other)) before after → (hold_of after run).wait ≡ Some key
  held_wait other told = ap (λ (h : Hold K). h.wait) (set_own run before after _ told.2)

-- a run without keys closes no ring
pub none_closed : {K : Type 0} (order : K → K → Ordering) (claims : List (ℕ × Hold K)) (run : ℕ) (key : K) (ring : List K)
    → (hold_of claims run).keys ≡ [] → IsClosed order claims run key ring → ⊥
none_closed order claims run key ring e w = some_last w.is_last.0 w.last (sym w.is_last.1 ∙ e)

-- ---- the wait of a run

some_same : {A : Type 0} (o : Option A) (x y : A) → o ≡ Some x → o ≡ Some y → y ≡ x
some_same o x y e f = cc

module _ {K P V : Type 0} (order : K → K → Ordering) (m : Machine K P V) (inputs : Table) (table : K → Option (Memo K V)) (claims : List (ℕ × Hold K)) (run : ℕ) where
  -- a run that waits for no key
  pub awake_stands : (top : Top K P) → (hold_of claims run).wait ≡ None → WaitStands order m inputs table claims run top
  awake_stands top awake k w = absurd (none_some k (sym awake ∙ w))

  -- a run that waited for no key, and waits for none that it did not wait for
  pub woken_stands : (before : List (ℕ × Hold K)) (top : Top K P) → (hold_of before run).wait ≡ None
      → ((k : K) → (hold_of claims run).wait ≡ Some k → (hold_of before run).wait ≡ Some k) → WaitStands order m inputs table claims run top
  woken_stands before top awake less k w = absurd (none_some k (sym awake ∙ less k w))

  -- a run without frames may wait for any key
  pub empty_stands : (top : Top K P) → top ≡ Empty → WaitStands order m inputs table claims run top
  empty_stands top is = subst (λ (t : Top K P). WaitStands order m inputs table claims run t) (sym is) (λ k w. tt)

-- ---- the keys of a run

in_one : {K : Type 0} (q k : K) → In q (k ∷ []) → q ≡ k
in_one q k (inl e) = e
in_one q k (inr n) = absurd n

module _ {K P V : Type 0} (m : Machine K P V) (now : ℕ) where
  -- of keys whose memos are the same none becomes up to date
  pub stale_as : (before after : K → Option (Memo K V)) (ks : List K) → ((k : K) → In k ks → after k ≡ before k) → AreStale m now before ks → AreStale m now after ks
  stale_as before after ks same stale k i up = stale k i (older up)
    where
      older : IsUpToDate m now (HasIn after) k → IsUpToDate m now (HasIn before) k
      older (inl low) = inl low
      older (inr r) = inr (r.0, sym (same k i) ∙ r.1, r.2)

  module _ (table : K → Option (Memo K V)) where
    -- the keys of the frames below the last
    pub stale_below : (ks : List K) (k : K) → AreStale m now table (ks ++ k ∷ []) → AreStale m now table ks
    stale_below ks k stale q i = stale q (in_append_left q ks (k ∷ []) i)

    pub stale_last : (ks : List K) (k : K) → AreStale m now table (ks ++ k ∷ []) → IsUpToDate m now (HasIn table) k → ⊥
    stale_last ks k stale = stale k (in_append_right k ks (k ∷ []) (inl refl))

    -- one key more
    pub stale_more : (ks : List K) (k : K) → AreStale m now table ks → (IsUpToDate m now (HasIn table) k → ⊥) → AreStale m now table (ks ++ k ∷ [])
    stale_more ks k stale out q i = elim (in_append q ks (k ∷ []) i) [
      | inl j ↦ stale q j
      | inr j ↦ subst (λ (x : K). IsUpToDate m now (HasIn table) x → ⊥) (sym (in_one q k j)) out
    ]

    -- the last frame became the top
    pub stale_lowered : (before after : List (Frame K P)) (top : Top K P) → IsLowered before after top → AreStale m now table (frame_keys before) → AreStale m now table (run_keys after top)
    stale_lowered before after top low stale = subst (λ (ks : List K). AreStale m now table ks) (lowered_keys before after top low) stale

-- a frame whose key is not up to date can go on from its stage
pub goes_on : {K P V : Type 0} (order : K → K → Ordering) (m : Machine K P V) (inputs : Table) (table : K → Option (Memo K V)) (stack : List (Frame K P)) (f : Frame K P)
    → AreStale m inputs.revision table (frame_keys stack ++ f.key ∷ []) → CanGoOn order m inputs table f → IsFrame order m inputs.history inputs.revision (HasIn table) f.key f.stage
goes_on order m inputs table stack f stale (inl up) = absurd (stale_last m inputs.revision table (frame_keys stack) f.key stale up)
goes_on order m inputs table stack f stale (inr frame) = frame

-- the memo of the top was written, and the top left
pub left_stale : {K P V : Type 0} (m : Machine K P V) (now : ℕ) (before after : K → Option (Memo K V)) (k : K) (stack rest : List (Frame K P)) (top : Top K P)
    → AreStale m now before (frame_keys stack ++ k ∷ []) → (In k (frame_keys stack) → ⊥) → Wrote now before after (k ∷ []) → IsLowered stack rest top
    → AreStale m now after (run_keys rest top)
left_stale {K} {P} {V} m now before after k stack rest top stale apart wrote low =
    stale_lowered m now after stack rest top low
    (stale_as m now before after (frame_keys stack) (λ q i. wrote.others q (λ j. apart (subst (λ (x : K). In x (frame_keys stack)) (in_one q k j) i)))
    (stale_below m now before (frame_keys stack) k stale))

-- the memo of a key that the run holds was written
pub wrote_own : {K V : Type 0} (now : ℕ) (before after : K → Option (Memo K V)) (claims : List (ℕ × Hold K)) (run : ℕ) (k : K)
    → AreSound claims → Holds claims run k → Wrote now before after (k ∷ []) → OthersUnwritten claims run before after
wrote_own {K} now before after claims run k sound own wrote r q ne holds =
    wrote.others q (λ j. ne (sound.one_holder r run q holds (subst (λ (x : K). Holds claims run x) (sym (in_one q k j)) own)))

-- a key that is the last of those that a run holds
pub holds_last : {K : Type 0} (claims : List (ℕ × Hold K)) (run : ℕ) (ks : List K) (k : K) → (hold_of claims run).keys ≡ ks ++ k ∷ [] → Holds claims run k
holds_last {K} claims run ks k e = subst (λ (l : List K). In k l) (sym e) (in_append_right k ks (k ∷ []) (inl refl))

-- no memo was written
pub same_unwritten : {K V : Type 0} (claims : List (ℕ × Hold K)) (run : ℕ) (before after : K → Option (Memo K V)) → ((k : K) → after k ≡ before k)
    → OthersUnwritten claims run before after
same_unwritten claims run before after same r k ne holds = same k

-- ---- a key is entered

last_same : {A : Type 0} (xs ys : List A) (x y : A) → xs ++ x ∷ [] ≡ ys ++ y ∷ [] → (ys ≡ xs) × (y ≡ x)
last_same [] [] x y e = (refl, cc)
last_same [] (b ∷ []) x y e = absurd (cc)
last_same [] (b ∷ (c ∷ ys)) x y e = absurd (cc)
last_same (a ∷ []) [] x y e = absurd (cc)
last_same (a ∷ (c ∷ xs)) [] x y e = absurd (cc)
last_same {A} (a ∷ xs) (b ∷ ys) x y e = let r = last_same xs ys x y (rest e) in (both (first e) r.0, r.1)
  where
    first : a ∷ (xs ++ x ∷ []) ≡ b ∷ (ys ++ y ∷ []) → a ≡ b
    first w = cc

    rest : a ∷ (xs ++ x ∷ []) ≡ b ∷ (ys ++ y ∷ []) → xs ++ x ∷ [] ≡ ys ++ y ∷ []
    rest w = cc

    both : a ≡ b → ys ≡ xs → b ∷ ys ≡ a ∷ xs
    both p q = cc

-- the frame that was pushed is the top again
pub top_again : {K P : Type 0} (stack after : List (Frame K P)) (f : Frame K P) (top : Top K P) → IsLowered (stack ++ f ∷ []) after top → top ≡ At f
top_again stack after f Empty low = absurd (some_last stack f low.0)
top_again {K} {P} stack after f (At g) low = ap (λ (x : Frame K P). At x) (last_same stack after f g low).1
top_again stack after f (Away p) low = absurd low

module _ {K P V : Type 0} (order : K → K → Ordering) (m : Machine K P V) (inputs : Table) (table : K → Option (Memo K V)) (stack : List (Frame K P)) (f : Frame K P) (next : K)
    (below : KeptBelow order m inputs table stack f.key) (awaits : Awaits order m inputs.history inputs.revision (HasIn table) f.key f.stage next)
    (needed : IsUpToDate m inputs.revision (HasIn table) next → ⊥) (claims : List (ℕ × Hold K)) (run : ℕ) (after : List (Frame K P)) (top : Top K P) where
  pub entered_kept : {W E : Type 0} (answer : Result (Looked W K) E) → Enters order claims run next answer (stack ++ f ∷ []) after top → FramesKept order m inputs table after top
  entered_kept (Ok (Carry work)) e = absurd e
  entered_kept (Ok Stepped) e =
      kept_as order m inputs table after (At (record { key = next; stage = Walking 0 })) top (sym e.1) (
        subst (λ (l : List (Frame K P)). KeptBelow order m inputs table l next) (sym e.0)
            (record { waits = pushed_waits order m inputs table stack f next below awaits; differ = pushed_keys order m inputs table stack f below; apart = e.3 }),
        inr (walked order m inputs table next needed),
      )
  entered_kept (Ok (Blocked other)) e =
      lowered order m inputs table next (stack ++ f ∷ []) after top (pushed_waits order m inputs table stack f next below awaits) (pushed_keys order m inputs table stack f below) e.0
  entered_kept (Ok (Ring ring)) e =
      lowered order m inputs table next (stack ++ f ∷ []) after top (pushed_waits order m inputs table stack f next below awaits) (pushed_keys order m inputs table stack f below) e.0
  entered_kept (Err failure) e =
      lowered order m inputs table next (stack ++ f ∷ []) after top (pushed_waits order m inputs table stack f next below awaits) (pushed_keys order m inputs table stack f below) e.0

  pushed_stale : AreStale m inputs.revision table (frame_keys stack ++ f.key ∷ []) → AreStale m inputs.revision table (frame_keys (stack ++ f ∷ []))
  pushed_stale stale = subst (λ (ks : List K). AreStale m inputs.revision table ks) (sym (keys_append stack (f ∷ []))) stale

  pub entered_stale : {W E : Type 0} (answer : Result (Looked W K) E) → Enters order claims run next answer (stack ++ f ∷ []) after top
      → AreStale m inputs.revision table (frame_keys stack ++ f.key ∷ []) → AreStale m inputs.revision table (run_keys after top)
  entered_stale (Ok (Carry work)) e stale = absurd e
  entered_stale (Ok Stepped) e stale =
      subst (λ (t : Top K P). AreStale m inputs.revision table (run_keys after t)) (sym e.1)
      (subst (λ (l : List (Frame K P)). AreStale m inputs.revision table (frame_keys l ++ next ∷ [])) (sym e.0)
      (stale_more m inputs.revision table (frame_keys (stack ++ f ∷ [])) next (pushed_stale stale) needed))
  entered_stale (Ok (Blocked other)) e stale = stale_lowered m inputs.revision table (stack ++ f ∷ []) after top e.0 (pushed_stale stale)
  entered_stale (Ok (Ring ring)) e stale = stale_lowered m inputs.revision table (stack ++ f ∷ []) after top e.0 (pushed_stale stale)
  entered_stale (Err failure) e stale = stale_lowered m inputs.revision table (stack ++ f ∷ []) after top e.0 (pushed_stale stale)

  -- the run waits for the key for which its top waits, or for none
  pub entered_stands : {W E : Type 0} (answer : Result (Looked W K) E) → Enters order claims run next answer (stack ++ f ∷ []) after top
      → WaitStands order m inputs table claims run top
  entered_stands (Ok (Carry work)) e = absurd e
  entered_stands (Ok Stepped) e = awake_stands order m inputs table claims run top e.2
  entered_stands (Ok (Blocked other)) e =
      subst (λ (t : Top K P). WaitStands order m inputs table claims run t) (sym (top_again stack after f top e.0))
      (λ k w. inr (subst (λ (q : K). Awaits order m inputs.history inputs.revision (HasIn table) f.key f.stage q) (sym (some_same (hold_of claims run).wait next k e.2 w)) awaits))
  entered_stands (Ok (Ring ring)) e = awake_stands order m inputs table claims run top e.2
  entered_stands (Err failure) e = awake_stands order m inputs table claims run top e.1

-- what it came to
pub entered_looked : {R K P V E : Type 0} (order : K → K → Ordering) (machine : R → Machine K P V) (inputs : Table) (memos : View R K V) (stack : List (Frame K P)) (f : Frame K P) (next : K)
    → Awaits order (machine memos.rules) inputs.history inputs.revision (HasIn (memo_at order memos.places)) f.key f.stage next → (claims : List (ℕ × Hold K)) (run : ℕ)
    (after : List (Frame K P)) (top : Top K P) (answer : Result (Looked (WorkView R K P V) K) E)
    → Enters order claims run next answer (stack ++ f ∷ []) after top → IfOk answer (λ l. HasLooked order machine inputs memos claims run top l)
entered_looked order machine inputs memos stack f next awaits claims run after top (Ok (Carry work)) e = absurd e
entered_looked {R} {K} {P} order machine inputs memos stack f next awaits claims run after top (Ok Stepped) e = ap (λ (t : Top K P). out_at t) e.1
entered_looked order machine inputs memos stack f next awaits claims run after top (Ok (Blocked other)) e = (lowered_idle (stack ++ f ∷ []) after top e.0, e.1)
entered_looked order machine inputs memos stack f next awaits claims run after top (Ok (Ring ring)) e = (
  lowered_idle (stack ++ f ∷ []) after top e.0,
  record { frame = f; is_top = top_again stack after f top e.0; next = next; awaits = awaits; closed = e.1 },
)
entered_looked order machine inputs memos stack f next awaits claims run after top (Err failure) e = tt

-- no work is out
pub entered_idle : {W E K P : Type 0} (order : K → K → Ordering) (claims : List (ℕ × Hold K)) (run : ℕ) (next : K) (answer : Result (Looked W K) E) (before after : List (Frame K P)) (top : Top K P)
    → Enters order claims run next answer before after top → out_at top ≡ None
entered_idle order claims run next (Ok (Carry work)) before after top e = absurd e
entered_idle {W} {E} {K} {P} order claims run next (Ok Stepped) before after top e = ap (λ (t : Top K P). out_at t) e.1
entered_idle order claims run next (Ok (Blocked other)) before after top e = lowered_idle before after top e.0
entered_idle order claims run next (Ok (Ring ring)) before after top e = lowered_idle before after top e.0
entered_idle order claims run next (Err failure) before after top e = lowered_idle before after top e.0
