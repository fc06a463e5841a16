-- A step of a run as a whole: what each kind of step keeps, and one step after another.
use Rattle.std.proofs.Common.{◌≡◌, ℕ, ◌⊎◌, List, [], ◌∷◌, ◌++◌, Option, Some, None, Result, Ok, Err, IfOk, refl, sym, ◌∙◌, ap, subst, inl, inr}
use Rattle.std.specs.declared.cmp.Ordering.{Ordering}
use Rattle.pq_inputs.specs.Sources.{Table}
use Rattle.pq_rules.specs.Turns.{Machine}
use Rattle.pq_rules.specs.Relations.{In}
use Rattle.pq_rules.proofs.Weight.{Exact}
use Rattle.pq_memo.specs.declared.stepping.frame.Frame.{Frame}
use Rattle.pq_memo.specs.declared.stepping.frame.Stage.TheVariants.{Walking}
use Rattle.pq_memo.specs.Sound.{Memo}
use Rattle.pq_memo.specs.Look.{IsUpToDate}
use Rattle.pq_memo.specs.Table.{View, memo_at, HasIn, IsSameTable, KeptOver}
use Rattle.pq_memo.specs.Frames.{Awaits, IsFrame, frame_keys}
use Rattle.pq_memo.specs.Steps.{IsFinished, StaysAt}
use Rattle.pq_memo.specs.aux.Demand.{Wrote}
use Rattle.pq_memo.proofs.Advancing.{moved_to, one_table}
use Rattle.pq_memo.proofs.Stacked.{awaits_frame}
use Rattle.pq_memo.proofs.Wrote.{wrote_finished}
use Rattle.pq_claims.specs.declared.claim.Claim.TheVariants.{Got}
use Rattle.pq_claims.specs.Claims.{AreSound, Claimed, Hold, IsSet, hold_of}
use Rattle.pq_core.specs.Works.{WorkView}
use Rattle.pq_core.specs.Moves.{out_of}
use Rattle.pq_core.specs.declared.runs.frames.Pending.{Pending}
use Rattle.pq_core.specs.declared.runs.frames.Top.{Top}
use Rattle.pq_core.specs.declared.runs.frames.Top.TheVariants.{Empty, At, Away}
use Rattle.pq_core.specs.declared.runs.frames.Looked.{Looked}
use Rattle.pq_core.specs.declared.runs.frames.Looked.TheVariants.{Carry, Stepped, Blocked, Ring}
use Rattle.pq_core.specs.declared.values.request.Request.{Request}
use Rattle.pq_core.specs.declared.values.request.Want.TheVariants.{Demand}
use Rattle.pq_core.specs.aux.Runs.{AreStale, ClosesRing, Enters, FramesKept, HandedOut, HasLooked, HasMarked, IsLowered, IsStale, KeptBelow, OthersHold, Renewed, WaitStands, out_at, run_keys, top_keys}
use Rattle.pq_core.specs.aux.Begun.{IsBegun, LooksFirst}
use Rattle.pq_core.specs.aux.RunSteps.{RunReady, StepState, RunStepped, step_state}
use Rattle.pq_core.proofs.Beginning.{first_held, first_kept, first_stale, none_held}
use Rattle.pq_core.proofs.Claiming.{got_keys, others_same, others_then, set_others, set_own}
use Rattle.pq_core.proofs.Confirmed.{held_stale}
use Rattle.pq_core.proofs.Framed.{below_as, lowered}
use Rattle.pq_core.proofs.Lists.{none_some}
use Rattle.pq_core.proofs.Renewed.{frames_still, renewed_finished, renewed_same, renewed_then, up_still, up_waits}
use Rattle.pq_core.proofs.RulesBegun.{away_begun, entered_begun, left_begun, needs_begun, none_begun}
use Rattle.pq_core.proofs.Stepping.{awake_stands, entered_kept, entered_stale, entered_stands, got_wait, holds_last, left_stale, same_unwritten, stale_as, stale_last, woken_stands, wrote_own}

none_of : {A : Type 0} (o : Option A) → ((x : A) → o ≡ Some x → ⊥) → o ≡ None
none_of None f = refl
none_of (Some x) f = absurd (f x refl)

module _ {R K P V : Type 0} (order : K → K → Ordering) (machine : R → Machine K P V) (inputs : Table) (run : ℕ) where
  -- what is ready by the rules of its memos
  abbrev Ready : StepState R K P V → Type 0
  Ready a = RunReady order (machine a.memos.rules) inputs run a

  -- after a step the run is ready
  pub ready_next : (a b : StepState R K P V) → RunStepped order machine inputs run a b → Ready b
  ready_next a b w = subst (λ (r : R). RunReady order (machine r) inputs run b) (sym w.rules) w.ready

  -- a run whose work is out waits for no key
  pub away_awake : (memos : View R K V) (claims : List (ℕ × Hold K)) (stack : List (Frame K P)) (p : Pending K) → Ready (step_state memos claims stack (Away p)) → (hold_of claims run).wait ≡ None
  away_awake memos claims stack p w = none_of (hold_of claims run).wait w.waits

  -- a step after another
  pub stepped_then : (a b c : StepState R K P V) → RunStepped order machine inputs run a b → RunStepped order machine inputs run b c → RunStepped order machine inputs run a c
  stepped_then a b c first second = record {
    rules = second.rules ∙ first.rules;
    ready = subst (λ (r : R). RunReady order (machine r) inputs run c) first.rules second.ready;
    renewed = renewed_then (machine a.memos.rules) inputs.revision (memo_at order a.memos.places) (memo_at order b.memos.places) (memo_at order c.memos.places) first.renewed renewed;
    written = λ r k ne holds. second.written r k ne (subst (λ (ks : List K). In k ks) (sym (first.others r ne).0) holds) ∙ first.written r k ne holds;
    others = others_then run a.claims b.claims c.claims first.others second.others;
    begun = λ k had. elim (first.begun k had) [
      | inl has ↦ subst (λ (r : R). IsBegun c.stack c.top k ⊎ IsUpToDate (machine r) inputs.revision (HasIn (memo_at order c.memos.places)) k) first.rules (second.begun k has)
      | inr up ↦ inr (up_still order (machine a.memos.rules) inputs (memo_at order b.memos.places) (memo_at order c.memos.places) renewed k up)
    ];
  }
    where
      renewed : Renewed (machine a.memos.rules) inputs.revision (memo_at order b.memos.places) (memo_at order c.memos.places)
      renewed = subst (λ (r : R). Renewed (machine r) inputs.revision (memo_at order b.memos.places) (memo_at order c.memos.places)) first.rules second.renewed

  -- only claims changed
  pub claims_stepped : (a : StepState R K P V) (claims : List (ℕ × Hold K)) → (hold_of claims run).keys ≡ (hold_of a.claims run).keys
      → WaitStands order (machine a.memos.rules) inputs (memo_at order a.memos.places) claims run a.top → OthersHold run a.claims claims → Ready a
      → RunStepped order machine inputs run a (step_state a.memos claims a.stack a.top)
  claims_stepped a claims keys waits others w = record {
    rules = refl;
    ready = record { kept = w.kept; frames_kept = w.frames_kept; claimed = keys ∙ w.claimed; stale = w.stale; waits = waits };
    renewed = renewed_same (machine a.memos.rules) inputs.revision (memo_at order a.memos.places) (memo_at order a.memos.places) (λ k. refl);
    written = same_unwritten a.claims run (memo_at order a.memos.places) (memo_at order a.memos.places) (λ k. refl);
    others = others;
    begun = λ k had. inl had;
  }

  -- nothing changed
  pub still_stepped : (a : StepState R K P V) → Ready a → RunStepped order machine inputs run a a
  still_stepped a w = claims_stepped a a.claims refl w.waits (others_same run a.claims) w

  -- the wait of the run ended
  pub ended_stepped : (a : StepState R K P V) (claims : List (ℕ × Hold K)) → IsSet a.claims claims run (record { keys = (hold_of a.claims run).keys; wait = None }) → Ready a
      → RunStepped order machine inputs run a (step_state a.memos claims a.stack a.top)
  ended_stepped a claims set w =
      claims_stepped a claims (ap (λ (h : Hold K). h.keys) own)
      (awake_stands order (machine a.memos.rules) inputs (memo_at order a.memos.places) claims run a.top (ap (λ (h : Hold K). h.wait) own))
      (set_others run a.claims claims _ set) w
    where
      own : hold_of claims run ≡ record { keys = (hold_of a.claims run).keys; wait = None }
      own = set_own run a.claims claims _ set

  -- memos of keys that no run holds were marked
  pub marked_stepped : (a : StepState R K P V) (memos : View R K V) → (hold_of a.claims run).wait ≡ None → HasMarked order machine inputs a.claims a.memos memos → Ready a
      → RunStepped order machine inputs run a (step_state memos a.claims a.stack a.top)
  marked_stepped a memos awake marked w = record {
    rules = marked.rules;
    ready = record {
      kept = marked.kept;
      frames_kept = frames_still order (machine a.memos.rules) inputs (memo_at order a.memos.places) (memo_at order memos.places) marked.renewed a.stack a.top w.frames_kept;
      claimed = w.claimed;
      stale = held_stale (machine a.memos.rules) inputs.revision (memo_at order a.memos.places) (memo_at order memos.places) a.claims run (run_keys a.stack a.top) w.claimed marked.unwritten w.stale;
      waits = awake_stands order (machine a.memos.rules) inputs (memo_at order memos.places) a.claims run a.top awake;
    };
    renewed = marked.renewed;
    written = λ r k ne holds. marked.unwritten r k holds;
    others = others_same run a.claims;
    begun = λ k had. inl had;
  }

  -- no memo was written, and the frames are of the same keys
  pub same_stepped : (a : StepState R K P V) (memos : View R K V) (stack : List (Frame K P)) (top : Top K P) → memos.rules ≡ a.memos.rules
      → KeptOver order (machine a.memos.rules) inputs memos.places → IsSameTable (memo_at order a.memos.places) (memo_at order memos.places) → run_keys stack top ≡ run_keys a.stack a.top
      → FramesKept order (machine a.memos.rules) inputs (memo_at order a.memos.places) stack top → ((k : K) → IsBegun a.stack a.top k → IsBegun stack top k)
      → (hold_of a.claims run).wait ≡ None → Ready a → RunStepped order machine inputs run a (step_state memos a.claims stack top)
  same_stepped a memos stack top rules kept same keys frames begun awake w = record {
    rules = rules;
    ready = record {
      kept = kept;
      frames_kept = frames_still order (machine a.memos.rules) inputs (memo_at order a.memos.places) (memo_at order memos.places) renewed stack top frames;
      claimed = w.claimed ∙ sym keys;
      stale = stale_as (machine a.memos.rules) inputs.revision (memo_at order a.memos.places) (memo_at order memos.places) (run_keys stack top) (λ k i. same k)
          (subst (λ (ks : List K). AreStale (machine a.memos.rules) inputs.revision (memo_at order a.memos.places) ks) (sym keys) w.stale);
      waits = awake_stands order (machine a.memos.rules) inputs (memo_at order memos.places) a.claims run top awake;
    };
    renewed = renewed;
    written = same_unwritten a.claims run (memo_at order a.memos.places) (memo_at order memos.places) same;
    others = others_same run a.claims;
    begun = λ k had. inl (begun k had);
  }
    where
      renewed : Renewed (machine a.memos.rules) inputs.revision (memo_at order a.memos.places) (memo_at order memos.places)
      renewed = renewed_same (machine a.memos.rules) inputs.revision (memo_at order a.memos.places) (memo_at order memos.places) same

  -- no memo was written, and the top frame needs a key
  pub needs_stepped : (before memos : View R K V) (claims : List (ℕ × Hold K)) (stack : List (Frame K P)) (f g : Frame K P) (next : K) → memos.rules ≡ before.rules
      → KeptOver order (machine before.rules) inputs memos.places → IsSameTable (memo_at order before.places) (memo_at order memos.places) → g.key ≡ f.key → StaysAt f.stage g.stage
      → Awaits order (machine before.rules) inputs.history inputs.revision (HasIn (memo_at order before.places)) f.key g.stage next → (hold_of claims run).wait ≡ None
      → Ready (step_state before claims stack (At f)) → RunStepped order machine inputs run (step_state before claims stack (At f)) (step_state memos claims stack (At g))
  needs_stepped before memos claims stack f g next rules kept same key stays awaits awake w =
      same_stepped (step_state before claims stack (At f)) memos stack (At g) rules kept same (ap (λ (k : K). frame_keys stack ++ k ∷ []) key) (
        below_as order (machine before.rules) inputs (memo_at order before.places) stack f.key g.key key w.frames_kept.0,
        inr (subst (λ (k : K). IsFrame order (machine before.rules) inputs.history inputs.revision (HasIn (memo_at order before.places)) k g.stage) (sym key)
            (awaits_frame order (machine before.rules) inputs (memo_at order before.places) f.key g.stage next awaits)),
      )
      (λ k had. needs_begun stack f g key stays k had) awake w

  -- a run is ready where no memo was written
  pub read_ready : (a : StepState R K P V) (memos : View R K V) → memos.rules ≡ a.memos.rules → KeptOver order (machine a.memos.rules) inputs memos.places
      → IsSameTable (memo_at order a.memos.places) (memo_at order memos.places) → (hold_of a.claims run).wait ≡ None → Ready a → Ready (step_state memos a.claims a.stack a.top)
  read_ready a memos rules kept same awake w =
      ready_next a (step_state memos a.claims a.stack a.top) (same_stepped a memos a.stack a.top rules kept same refl w.frames_kept (λ k had. had) awake w)

  -- work for the key of the top frame was handed out
  pub handed_stepped : (before memos : View R K V) (claims : List (ℕ × Hold K)) (stack left : List (Frame K P)) (f : Frame K P) (top : Top K P) (key : K) → memos.rules ≡ before.rules
      → KeptOver order (machine before.rules) inputs memos.places → IsSameTable (memo_at order before.places) (memo_at order memos.places) → key ≡ f.key
      → run_keys left top ≡ frame_keys stack ++ key ∷ [] → FramesKept order (machine memos.rules) inputs (memo_at order memos.places) left top
      → left ≡ stack → (p : Pending K) × (top ≡ Away p) × (p.key ≡ key)
      → (hold_of claims run).wait ≡ None → Ready (step_state before claims stack (At f))
      → RunStepped order machine inputs run (step_state before claims stack (At f)) (step_state memos claims left top)
  handed_stepped before memos claims stack left f top key rules kept same is keys frames stays away awake w =
      same_stepped (step_state before claims stack (At f)) memos left top rules kept same (keys ∙ ap (λ (k : K). frame_keys stack ++ k ∷ []) is)
      (moved_to (λ (r : R) (t : K → Option (Memo K V)). FramesKept order (machine r) inputs t left top) memos.rules before.rules (memo_at order memos.places) (memo_at order before.places)
      (sym rules) (sym (one_table (memo_at order before.places) (memo_at order memos.places) same)) frames)
      (λ k had. away_begun stack left f top key stays away is k had) awake w

  -- a key was entered over the top frame, or could not be
  pub entered_stepped : {W E : Type 0} (memos : View R K V) (before after : List (ℕ × Hold K)) (stack left : List (Frame K P)) (f : Frame K P) (top : Top K P) (next : K)
      (answer : Result (Looked W K) E) → Awaits order (machine memos.rules) inputs.history inputs.revision (HasIn (memo_at order memos.places)) f.key f.stage next
      → (IsUpToDate (machine memos.rules) inputs.revision (HasIn (memo_at order memos.places)) next → ⊥) → Enters order after run next answer (stack ++ f ∷ []) left top
      → (hold_of after run).keys ≡ run_keys left top → OthersHold run before after → Ready (step_state memos before stack (At f))
      → RunStepped order machine inputs run (step_state memos before stack (At f)) (step_state memos after left top)
  entered_stepped memos before after stack left f top next answer awaits needed e claimed others w = record {
    rules = refl;
    ready = record {
      kept = w.kept;
      frames_kept = entered_kept order (machine memos.rules) inputs (memo_at order memos.places) stack f next w.frames_kept.0 awaits needed after run left top answer e;
      claimed = claimed;
      stale = entered_stale order (machine memos.rules) inputs (memo_at order memos.places) stack f next w.frames_kept.0 awaits needed after run left top answer e w.stale;
      waits = entered_stands order (machine memos.rules) inputs (memo_at order memos.places) stack f next w.frames_kept.0 awaits needed after run left top answer e;
    };
    renewed = renewed_same (machine memos.rules) inputs.revision (memo_at order memos.places) (memo_at order memos.places) (λ k. refl);
    written = same_unwritten before run (memo_at order memos.places) (memo_at order memos.places) (λ k. refl);
    others = others;
    begun = λ k had. inl (entered_begun order after run next answer stack f left top e k had);
  }

  -- the memo of the key of the top was written, and the top left
  pub left_stepped : Exact order → (a b : StepState R K P V) (key : K) → top_keys a.top ≡ key ∷ [] → KeptBelow order (machine a.memos.rules) inputs (memo_at order a.memos.places) a.stack key
      → b.memos.rules ≡ a.memos.rules → KeptOver order (machine a.memos.rules) inputs b.memos.places
      → IsFinished order (machine a.memos.rules) inputs a.memos.places b.memos.places key
      → IsLowered a.stack b.stack b.top → (hold_of b.claims run).keys ≡ run_keys b.stack b.top
      → ((k : K) → (hold_of b.claims run).wait ≡ Some k → (hold_of a.claims run).wait ≡ Some k) → OthersHold run a.claims b.claims
      → AreSound a.claims → (hold_of a.claims run).wait ≡ None → Ready a → RunStepped order machine inputs run a b
  left_stepped exact a b key mine below rules kept finished low claimed wait others sound awake w = record {
    rules = rules;
    ready = record {
      kept = kept;
      frames_kept = lowered order (machine a.memos.rules) inputs (memo_at order b.memos.places) key a.stack b.stack b.top
          (up_waits order (machine a.memos.rules) inputs (memo_at order a.memos.places) (memo_at order b.memos.places) renewed key a.stack below.waits) below.differ low;
      claimed = claimed;
      stale = left_stale (machine a.memos.rules) inputs.revision (memo_at order a.memos.places) (memo_at order b.memos.places) key a.stack b.stack b.top stale below.apart wrote low;
      waits = woken_stands order (machine a.memos.rules) inputs (memo_at order b.memos.places) b.claims run a.claims b.top awake wait;
    };
    renewed = renewed;
    written = wrote_own inputs.revision (memo_at order a.memos.places) (memo_at order b.memos.places) a.claims run key sound
        (holds_last a.claims run (frame_keys a.stack) key (w.claimed ∙ keys)) wrote;
    others = others;
    begun = left_begun (machine a.memos.rules) inputs.revision (memo_at order a.memos.places) (memo_at order b.memos.places) a.stack b.stack a.top b.top key mine low wrote;
  }
    where
      keys : run_keys a.stack a.top ≡ frame_keys a.stack ++ key ∷ []
      keys = ap (λ (ks : List K). frame_keys a.stack ++ ks) mine

      stale : AreStale (machine a.memos.rules) inputs.revision (memo_at order a.memos.places) (frame_keys a.stack ++ key ∷ [])
      stale = subst (λ (ks : List K). AreStale (machine a.memos.rules) inputs.revision (memo_at order a.memos.places) ks) keys w.stale

      out : IsUpToDate (machine a.memos.rules) inputs.revision (HasIn (memo_at order a.memos.places)) key → ⊥
      out = stale_last (machine a.memos.rules) inputs.revision (memo_at order a.memos.places) (frame_keys a.stack) key stale

      renewed : Renewed (machine a.memos.rules) inputs.revision (memo_at order a.memos.places) (memo_at order b.memos.places)
      renewed = renewed_finished order exact (machine a.memos.rules) inputs a.memos.places b.memos.places key out finished

      wrote : Wrote inputs.revision (memo_at order a.memos.places) (memo_at order b.memos.places) (key ∷ [])
      wrote = wrote_finished order exact (machine a.memos.rules) inputs a.memos.places key b.memos.places out finished

  -- a run without frames claimed the key of its request, which is the first frame
  pub first_stepped : (a : StepState R K P V) (claims : List (ℕ × Hold K)) (request : Request K) (key : K) → a.stack ≡ [] → a.top ≡ Empty
      → request.want ≡ Demand key → IsStale (machine a.memos.rules) inputs.revision (HasIn (memo_at order a.memos.places)) request → Claimed order run key (Ok Got) a.claims claims → Ready a
      → RunStepped order machine inputs run a (step_state a.memos claims a.stack (At (record { key = key; stage = Walking 0 })))
  first_stepped a claims request key bare empty wants stale got w = record {
    rules = refl;
    ready = record {
      kept = w.kept;
      frames_kept = first_kept order (machine a.memos.rules) inputs (memo_at order a.memos.places) a.stack request key bare wants stale;
      claimed = first_held (hold_of a.claims run).keys (hold_of claims run).keys a.stack key bare
          (none_held (hold_of a.claims run).keys a.stack a.top bare empty w.claimed) (got_keys run a.claims claims order key got);
      stale = first_stale (machine a.memos.rules) inputs.revision (memo_at order a.memos.places) a.stack request key bare wants stale;
      waits = awake_stands order (machine a.memos.rules) inputs (memo_at order a.memos.places) claims run (At (record { key = key; stage = Walking 0 })) (got_wait order run key a.claims claims got);
    };
    renewed = renewed_same (machine a.memos.rules) inputs.revision (memo_at order a.memos.places) (memo_at order a.memos.places) (λ k. refl);
    written = same_unwritten a.claims run (memo_at order a.memos.places) (memo_at order a.memos.places) (λ k. refl);
    others = set_others run a.claims claims _ got.1;
    begun = λ k had. absurd (none_begun a.stack a.top bare empty k had);
  }

module _ {R K P V : Type 0} (order : K → K → Ordering) (machine : R → Machine K P V) (inputs : Table) where
  -- work that was handed out is the same by the memos before, which are the same
  pub handed_over : (a b : View R K V) (run : ℕ) (top : Top K P) (work : WorkView R K P V) → b.rules ≡ a.rules → IsSameTable (memo_at order a.places) (memo_at order b.places)
      → HandedOut (machine b.rules) b.rules inputs (memo_at order b.places) run top work → HandedOut (machine a.rules) a.rules inputs (memo_at order a.places) run top work
  handed_over a b run top work rules same w =
      moved_to (λ (r : R) (t : K → Option (Memo K V)). HandedOut (machine r) r inputs t run top work) b.rules a.rules (memo_at order b.places) (memo_at order a.places)
      (sym rules) (sym (one_table (memo_at order a.places) (memo_at order b.places) same)) w

  -- so is what a look came to, and an answer that is right in one way may be so in another
  pub looked_over : {E : Type 0} (a b : View R K V) (claims : List (ℕ × Hold K)) (run : ℕ) (top : Top K P) → b.rules ≡ a.rules
      → IsSameTable (memo_at order a.places) (memo_at order b.places) → (answer : Result (Looked (WorkView R K P V) K) E)
      → IfOk answer (λ l. HasLooked order machine inputs b claims run top l) → IfOk answer (λ l. HasLooked order machine inputs a claims run top l)
  looked_over a b claims run top rules same (Ok (Carry work)) w = handed_over a b run top work rules same w
  looked_over a b claims run top rules same (Ok Stepped) w = w
  looked_over a b claims run top rules same (Ok (Blocked other)) w = w
  looked_over a b claims run top rules same (Ok (Ring ring)) w = (
    w.0,
    moved_to (λ (r : R) (t : K → Option (Memo K V)). ClosesRing order (machine r) inputs t claims run top ring.items) b.rules a.rules (memo_at order b.places) (memo_at order a.places)
        (sym rules) (sym (one_table (memo_at order a.places) (memo_at order b.places) same)) w.1,
  )
  looked_over a b claims run top rules same (Err failure) w = tt

  -- a look after which no work is out, and that came to no answer, handed out none
  pub idle_first : {E : Type 0} (memos : View R K V) (claims : List (ℕ × Hold K)) (run : ℕ) (stack : List (Frame K P)) (old top : Top K P)
      (answer : Result (Looked (WorkView R K P V) K) E) → IfOk answer (λ l. HasLooked order machine inputs memos claims run top l) → out_at top ≡ None
      → IfOk answer (λ l. LooksFirst stack old l)
  idle_first memos claims run stack old top (Ok (Carry work)) w idle = absurd (none_some (out_of work.done) (sym idle ∙ w.out))
  idle_first memos claims run stack old top (Ok Stepped) w idle = tt
  idle_first memos claims run stack old top (Ok (Blocked other)) w idle = tt
  idle_first memos claims run stack old top (Ok (Ring ring)) w idle = tt
  idle_first memos claims run stack old top (Err failure) w idle = tt
