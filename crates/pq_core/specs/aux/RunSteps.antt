-- Auxiliary: one step of a run. `RunReady` is what a step needs, and `RunStepped` what it keeps.
--
-- `order` is the order of the keys, `m` the rule set, `machine` that of any rules, and `inputs` the
-- inputs.
use Rattle.std.specs.Prelude.{ℕ, ◌≡◌, List}
use Rattle.std.specs.declared.cmp.Ordering.{Ordering}
use Rattle.pq_inputs.specs.Sources.{Table}
use Rattle.pq_rules.specs.Turns.{Machine}
use Rattle.pq_memo.specs.declared.stepping.frame.Frame.{Frame}
use Rattle.pq_memo.specs.Table.{View, memo_at, KeptOver}
use Rattle.pq_claims.specs.Claims.{Hold, hold_of}
use Rattle.pq_core.specs.declared.runs.frames.Top.{Top}
use Rattle.pq_core.specs.aux.Runs.{AreStale, FramesKept, OthersHold, OthersUnwritten, Renewed, WaitStands, run_keys}
use Rattle.pq_core.specs.aux.Begun.{KeepsBegun}

-- `StepState R K P V` is what a step of a run changes: the memos, the claims of all runs, the frames
-- of the run below its top, and the top
pub record StepState (R K P V : Type 0) : Type 0 where
  pub memos : View R K V
  pub claims : List (ℕ × Hold K)
  pub stack : List (Frame K P)
  pub top : Top K P

-- `step_state memos claims stack top` is the state of these
abbrev pub step_state : {R K P V : Type 0} → View R K V → List (ℕ × Hold K) → List (Frame K P) → Top K P → StepState R K P V
step_state memos claims stack top = record { memos = memos; claims = claims; stack = stack; top = top }

-- `RunReady order m inputs run state` is what holds at `state` before a step of `run`
pub record RunReady {R K P V : Type 0} (order : K → K → Ordering) (m : Machine K P V) (inputs : Table) (run : ℕ) (state : StepState R K P V) : Type 0 where
  -- the memos are sound
  pub kept : KeptOver order m inputs state.memos.places
  -- the frames are in order
  pub frames_kept : FramesKept order m inputs (memo_at order state.memos.places) state.stack state.top
  -- the run holds the keys of its frames
  pub claimed : (hold_of state.claims run).keys ≡ run_keys state.stack state.top
  -- none of these keys is up to date
  pub stale : AreStale m inputs.revision (memo_at order state.memos.places) (run_keys state.stack state.top)
  -- the top waits for the key for which the run waits
  pub waits : WaitStands order m inputs (memo_at order state.memos.places) state.claims run state.top

-- `RunStepped order machine inputs run old new` is what holds of a step of `run` from the state `old`
-- to the state `new`
pub record RunStepped {R K P V : Type 0} (order : K → K → Ordering) (machine : R → Machine K P V) (inputs : Table) (run : ℕ) (old new : StepState R K P V) : Type 0 where
  pub rules : new.memos.rules ≡ old.memos.rules
  -- the run can take another step
  pub ready : RunReady order (machine old.memos.rules) inputs run new
  -- only memos of keys that were not up to date were written
  pub renewed : Renewed (machine old.memos.rules) inputs.revision (memo_at order old.memos.places) (memo_at order new.memos.places)
  -- none of these is of a key that another run holds
  pub written : OthersUnwritten old.claims run (memo_at order old.memos.places) (memo_at order new.memos.places)
  -- the other runs hold the same keys
  pub others : OthersHold run old.claims new.claims
  -- each rule that was begun is begun, or its key is up to date
  pub begun : KeepsBegun (machine old.memos.rules) inputs.revision (memo_at order new.memos.places) old.stack old.top new.stack new.top
