use Rattle.std.proofs.Common.{[], ◌∷◌, ◌++◌, Option, refl, sym, ◌∙◌, ap, subst, inr}
use Rattle.pq_rules.proofs.Weight.{Exact}
use Rattle.pq_memo.specs.Sound.{Memo}
use Rattle.pq_memo.specs.Table.{memo_at, HasIn}
use Rattle.pq_memo.specs.Frames.{Came, IsFrame, frame_keys}
use Rattle.pq_memo.specs.Steps.{IsWhy}
use Rattle.pq_memo.proofs.Advancing.{one_table, moved_to}
use Rattle.pq_core.specs.declared.runs.frames.Top.TheVariants.{At}
use Rattle.pq_core.specs.aux.RunSteps.{step_state}
use Rattle.pq_core.proofs.Framed.{below_as, frame_as, has_read}
use Rattle.pq_core.proofs.Stepping.{goes_on}
use Rattle.pq_core.proofs.Stepped.{handed_over, handed_stepped, idle_first, left_stepped, looked_over, needs_stepped, read_ready, ready_next, same_stepped, stepped_then}
use Rattle.pq_core.proofs.RulesBegun.{back_begun, going_first, out_key, walked_first}
use Rattle.pq_core.proofs.runs.frames.Frames.step.Goals as goal

pub step-requires-clause-frame : goal.step-requires-clause-frame
step-requires-clause-frame g c =
    goes_on g.R.Key.Ord.cmp (g.R.Rules.machine c.args.memos.now.rules) c.args.inputs.now (memo_at g.R.Key.Ord.cmp c.args.memos.now.places) c.args.self.now.stack c.args.frame c.requires.ready.stale c.requires.ready.frames_kept.1

pub start-requires-clause-below : goal.start-requires-clause-below
start-requires-clause-below g c =
    let s = rw c.in-Ok-Starts.field-0-is at c.in-Ok-Starts.ensures.step in
    let ready = read_ready g.R.Key.Ord.cmp g.R.Rules.machine c.args.inputs.now c.args.id (step_state c.args.memos.now c.args.claims.now c.args.self.now.stack (At c.args.frame)) c.step.new.self c.step.ensures.rules c.step.ensures.kept s.0 c.requires.awake c.requires.ready in
    below_as g.R.Key.Ord.cmp (g.R.Rules.machine c.step.new.self.rules) c.args.inputs.now (memo_at g.R.Key.Ord.cmp c.step.new.self.places) c.args.self.now.stack c.args.frame.key c.in-Ok-Starts.key s.1
    ready.frames_kept.0

pub go_on-requires-clause-below : goal.go_on-requires-clause-below
go_on-requires-clause-below g c =
    let s = rw c.in-Ok-GoesOn.field-0-is at c.in-Ok-GoesOn.ensures.step in
    let ready = read_ready g.R.Key.Ord.cmp g.R.Rules.machine c.args.inputs.now c.args.id (step_state c.args.memos.now c.args.claims.now c.args.self.now.stack (At c.args.frame)) c.step.new.self c.step.ensures.rules c.step.ensures.kept s.0 c.requires.awake c.requires.ready in
    below_as g.R.Key.Ord.cmp (g.R.Rules.machine c.step.new.self.rules) c.args.inputs.now (memo_at g.R.Key.Ord.cmp c.step.new.self.places) c.args.self.now.stack c.args.frame.key c.in-Ok-GoesOn.key s.1
    ready.frames_kept.0

pub start-requires-clause-because : goal.start-requires-clause-because
start-requires-clause-because g c =
    let s = rw c.in-Ok-Starts.field-0-is at c.in-Ok-Starts.ensures.step in
    moved_to (λ (r : g.row.R.Denot) (t : g.row.R-Key.Denot → Option (Memo g.row.R-Key.Denot g.row.R-Value.Denot)).
    IsWhy (g.R.Rules.machine r) c.args.inputs.now.history c.args.inputs.now.revision (HasIn t) c.in-Ok-Starts.key c.in-Ok-Starts.why)
    c.args.memos.now.rules c.step.new.self.rules (memo_at g.R.Key.Ord.cmp c.args.memos.now.places) (memo_at g.R.Key.Ord.cmp c.step.new.self.places)
    c.step.ensures.rules (one_table (memo_at g.R.Key.Ord.cmp c.args.memos.now.places) (memo_at g.R.Key.Ord.cmp c.step.new.self.places) s.0)
    (subst (λ (k : g.row.R-Key.Denot). IsWhy (g.R.Rules.machine c.args.memos.now.rules) c.args.inputs.now.history c.args.inputs.now.revision (HasIn (memo_at g.R.Key.Ord.cmp c.args.memos.now.places)) k c.in-Ok-Starts.why) (sym s.1) s.3)

pub go_on-requires-clause-came : goal.go_on-requires-clause-came
go_on-requires-clause-came g c =
    let s = rw c.in-Ok-GoesOn.field-0-is at c.in-Ok-GoesOn.ensures.step in
    moved_to (λ (r : g.row.R.Denot) (t : g.row.R-Key.Denot → Option (Memo g.row.R-Key.Denot g.row.R-Value.Denot)).
    Came g.R.Key.Ord.cmp (g.R.Rules.machine r) c.args.inputs.now.history c.args.inputs.now.revision (HasIn t) c.in-Ok-GoesOn.key
    ((g.R.Rules.machine r).advance c.in-Ok-GoesOn.part c.in-Ok-GoesOn.answer) c.in-Ok-GoesOn.reads.items)
    c.args.memos.now.rules c.step.new.self.rules (memo_at g.R.Key.Ord.cmp c.args.memos.now.places) (memo_at g.R.Key.Ord.cmp c.step.new.self.places)
    c.step.ensures.rules (one_table (memo_at g.R.Key.Ord.cmp c.args.memos.now.places) (memo_at g.R.Key.Ord.cmp c.step.new.self.places) s.0)
    (subst (λ (k : g.row.R-Key.Denot). Came g.R.Key.Ord.cmp (g.R.Rules.machine c.args.memos.now.rules) c.args.inputs.now.history c.args.inputs.now.revision (HasIn (memo_at g.R.Key.Ord.cmp c.args.memos.now.places)) k
    ((g.R.Rules.machine c.args.memos.now.rules).advance c.in-Ok-GoesOn.part c.in-Ok-GoesOn.answer) c.in-Ok-GoesOn.reads.items) (sym s.1) s.3)

pub go_on-requires-clause-read : goal.go_on-requires-clause-read
go_on-requires-clause-read g c =
    let s = rw c.in-Ok-GoesOn.field-0-is at c.in-Ok-GoesOn.ensures.step in
    has_read c.args.frame.stage c.in-Ok-GoesOn.reads.items s.4

pub returns-in-Ok-Finished-clause-stepped : goal.returns-in-Ok-Finished-clause-stepped
returns-in-Ok-Finished-clause-stepped g c =
    let exact : Exact g.R.Key.Ord.cmp = record { total = g.met.R.Key.Ord.total; exact = (g.met.R.Rules.lawful c.args.memos.now.rules []).exact } in
    let s = rw c.in-Ok-Finished.field-0-is at c.in-Ok-Finished.ensures.step in
    left_stepped g.R.Key.Ord.cmp g.R.Rules.machine c.args.inputs.now c.args.id exact (step_state c.args.memos.now c.args.claims.now c.args.self.now.stack (At c.args.frame))
    (step_state c.step.new.self c.leave.new.claims c.leave.new.self.stack c.leave.new.self.top) c.args.frame.key refl c.requires.ready.frames_kept.0 c.step.ensures.rules c.step.ensures.kept s
    c.leave.ensures.lowered c.leave.ensures.claimed c.leave.ensures.wait c.leave.ensures.others c.claims_are_sound.ensures.sound c.requires.awake c.requires.ready

pub wait-requires-clause-ready : goal.wait-requires-clause-ready
wait-requires-clause-ready g c =
    let s = rw c.in-Ok-Needs.field-0-is at c.in-Ok-Needs.ensures.step in
    let first = needs_stepped g.R.Key.Ord.cmp g.R.Rules.machine c.args.inputs.now c.args.id c.args.memos.now c.step.new.self c.args.claims.now c.args.self.now.stack c.args.frame c.in-Ok-Needs.frame
    c.in-Ok-Needs.next c.step.ensures.rules c.step.ensures.kept s.0 s.1 s.2 s.3 c.requires.awake c.requires.ready in
    ready_next _ _ _ _ _ _ first

pub returns-in-Ok-Needs-clause-stepped : goal.returns-in-Ok-Needs-clause-stepped
returns-in-Ok-Needs-clause-stepped g c =
    let s = rw c.in-Ok-Needs.field-0-is at c.in-Ok-Needs.ensures.step in
    let first = needs_stepped g.R.Key.Ord.cmp g.R.Rules.machine c.args.inputs.now c.args.id c.args.memos.now c.step.new.self c.args.claims.now c.args.self.now.stack c.args.frame c.in-Ok-Needs.frame
    c.in-Ok-Needs.next c.step.ensures.rules c.step.ensures.kept s.0 s.1 s.2 s.3 c.requires.awake c.requires.ready in
    stepped_then _ _ _ _ _ _ (step_state c.step.new.self c.wait.new.claims c.wait.new.self.stack c.wait.new.self.top) first c.wait.ensures.stepped

pub returns-in-Ok-Needs-clause-looked : goal.returns-in-Ok-Needs-clause-looked
returns-in-Ok-Needs-clause-looked g c =
    let s = rw c.in-Ok-Needs.field-0-is at c.in-Ok-Needs.ensures.step in
    looked_over g.R.Key.Ord.cmp g.R.Rules.machine c.args.inputs.now c.args.memos.now c.step.new.self c.wait.new.claims c.args.id c.wait.new.self.top c.step.ensures.rules s.0
    c.wait.result c.wait.ensures.looked

pub returns-in-Ok-Needs-clause-first : goal.returns-in-Ok-Needs-clause-first
returns-in-Ok-Needs-clause-first g c =
    idle_first g.R.Key.Ord.cmp g.R.Rules.machine c.args.inputs.now c.step.new.self c.wait.new.claims c.args.id c.args.self.now.stack (At c.args.frame) c.wait.new.self.top c.wait.result
    c.wait.ensures.looked c.wait.ensures.idle

pub returns-in-Ok-Starts-clause-stepped : goal.returns-in-Ok-Starts-clause-stepped
returns-in-Ok-Starts-clause-stepped g c =
    let s = rw c.in-Ok-Starts.field-0-is at c.in-Ok-Starts.ensures.step in
    handed_stepped g.R.Key.Ord.cmp g.R.Rules.machine c.args.inputs.now c.args.id c.args.memos.now c.step.new.self c.args.claims.now c.args.self.now.stack c.start.new.self.stack c.args.frame
    c.start.new.self.top c.in-Ok-Starts.key c.step.ensures.rules c.step.ensures.kept s.0 s.1 c.start.ensures.keys c.start.ensures.frames_kept c.start.ensures.stack c.start.ensures.away c.requires.awake
    c.requires.ready

pub returns-in-Ok-Starts-clause-looked : goal.returns-in-Ok-Starts-clause-looked
returns-in-Ok-Starts-clause-looked g c =
    let s = rw c.in-Ok-Starts.field-0-is at c.in-Ok-Starts.ensures.step in
    handed_over g.R.Key.Ord.cmp g.R.Rules.machine c.args.inputs.now c.args.memos.now c.step.new.self c.args.id c.start.new.self.top c.start.result c.step.ensures.rules s.0 c.start.ensures.handed

pub returns-in-Ok-Starts-clause-first : goal.returns-in-Ok-Starts-clause-first
returns-in-Ok-Starts-clause-first g c =
    let s = rw c.in-Ok-Starts.field-0-is at c.in-Ok-Starts.ensures.step in
    walked_first c.args.self.now.stack c.args.frame c.start.result.done.key c.start.result.why s.2 c.requires.ready.frames_kept.0.apart
    (out_key c.start.new.self.top c.in-Ok-Starts.key _ c.start.ensures.away c.start.ensures.handed.out ∙ s.1)

pub returns-in-Ok-GoesOn-clause-stepped : goal.returns-in-Ok-GoesOn-clause-stepped
returns-in-Ok-GoesOn-clause-stepped g c =
    let s = rw c.in-Ok-GoesOn.field-0-is at c.in-Ok-GoesOn.ensures.step in
    handed_stepped g.R.Key.Ord.cmp g.R.Rules.machine c.args.inputs.now c.args.id c.args.memos.now c.step.new.self c.args.claims.now c.args.self.now.stack c.go_on.new.self.stack c.args.frame
    c.go_on.new.self.top c.in-Ok-GoesOn.key c.step.ensures.rules c.step.ensures.kept s.0 s.1 c.go_on.ensures.keys c.go_on.ensures.frames_kept c.go_on.ensures.stack c.go_on.ensures.away c.requires.awake
    c.requires.ready

pub returns-in-Ok-GoesOn-clause-looked : goal.returns-in-Ok-GoesOn-clause-looked
returns-in-Ok-GoesOn-clause-looked g c =
    let s = rw c.in-Ok-GoesOn.field-0-is at c.in-Ok-GoesOn.ensures.step in
    handed_over g.R.Key.Ord.cmp g.R.Rules.machine c.args.inputs.now c.args.memos.now c.step.new.self c.args.id c.go_on.new.self.top c.go_on.result c.step.ensures.rules s.0 c.go_on.ensures.handed

pub returns-in-Ok-GoesOn-clause-first : goal.returns-in-Ok-GoesOn-clause-first
returns-in-Ok-GoesOn-clause-first g c = going_first c.args.self.now.stack (At c.args.frame) c.go_on.result.done.key c.go_on.result.why c.go_on.ensures.going

pub returns-in-Err-clause-stepped : goal.returns-in-Err-clause-stepped
returns-in-Err-clause-stepped g c =
    let back = c.in-Err.ensures.returned in
    same_stepped g.R.Key.Ord.cmp g.R.Rules.machine c.args.inputs.now c.args.id (step_state c.args.memos.now c.args.claims.now c.args.self.now.stack (At c.args.frame)) c.step.new.self c.args.self.now.stack (At c.in-Err.frame) c.step.ensures.rules c.step.ensures.kept
    c.in-Err.ensures.refused (ap (λ (k : g.row.R-Key.Denot). frame_keys c.args.self.now.stack ++ k ∷ []) back.0) (
      below_as g.R.Key.Ord.cmp (g.R.Rules.machine c.args.memos.now.rules) c.args.inputs.now (memo_at g.R.Key.Ord.cmp c.args.memos.now.places) c.args.self.now.stack c.args.frame.key c.in-Err.frame.key back.0 c.requires.ready.frames_kept.0,
      inr (subst (λ (k : g.row.R-Key.Denot). IsFrame g.R.Key.Ord.cmp (g.R.Rules.machine c.args.memos.now.rules) c.args.inputs.now.history c.args.inputs.now.revision (HasIn (memo_at g.R.Key.Ord.cmp c.args.memos.now.places)) k c.in-Err.frame.stage) (sym back.0)
          (frame_as g.R.Key.Ord.cmp (g.R.Rules.machine c.args.memos.now.rules) c.args.inputs.now (memo_at g.R.Key.Ord.cmp c.args.memos.now.places) c.args.frame.key c.in-Err.frame.stage c.args.frame.stage back.1
          (goes_on g.R.Key.Ord.cmp (g.R.Rules.machine c.args.memos.now.rules) c.args.inputs.now (memo_at g.R.Key.Ord.cmp c.args.memos.now.places) c.args.self.now.stack c.args.frame c.requires.ready.stale c.requires.ready.frames_kept.1))),
    )
    (λ k b. back_begun c.args.self.now.stack c.args.frame c.in-Err.frame back.0 back.1 k b) c.requires.awake c.requires.ready
