use Rattle.std.proofs.Common.{[], ◌∷◌, ◌++◌, List, refl, sym, ap, subst, inr}
use Rattle.pq_rules.specs.declared.turn.Answer.TheVariants.{Value}
use Rattle.pq_rules.proofs.Order.{strict}
use Rattle.pq_rules.proofs.Weight.{Exact}
use Rattle.pq_memo.specs.Table.{memo_at, HasIn}
use Rattle.pq_memo.specs.Frames.{Came, frame_keys}
use Rattle.pq_core.specs.Works.{DoneView}
use Rattle.pq_core.specs.declared.runs.frames.Top.TheVariants.{Away}
use Rattle.pq_core.specs.aux.RunSteps.{step_state}
use Rattle.pq_core.proofs.Framed.{below_as}
use Rattle.pq_core.proofs.OneTurn.{took}
use Rattle.pq_core.proofs.Stepping.{stale_last}
use Rattle.pq_core.proofs.Stepped.{away_awake, left_stepped, same_stepped}
use Rattle.pq_core.proofs.RulesBegun.{asked_begun, refused_begun}
use Rattle.pq_core.proofs.runs.frames.Frames.take.Goals as goal

pub publish_value-requires-clause-came : goal.publish_value-requires-clause-came
publish_value-requires-clause-came g c =
    took g.R.Key.Ord.cmp (strict g.R.Key.Ord.cmp g.met.R.Key.Ord.total) g.R.Rules.machine c.args.inputs.now c.now-latest.ensures.last (memo_at g.R.Key.Ord.cmp c.args.memos.now.places)
    c.args.memos.now.rules c.args.pending _ c.args.done _ c.done.view_is c.in-Done.is c.done.invariant.0 c.requires.rules c.requires.files c.requires.key c.requires.counted
    (stale_last (g.R.Rules.machine c.args.memos.now.rules) c.args.inputs.now.revision (memo_at g.R.Key.Ord.cmp c.args.memos.now.places) (frame_keys c.args.self.now.stack) c.args.pending.key
    c.requires.ready.stale) c.requires.ready.frames_kept.1

pub returns-in-Ask-clause-stepped : goal.returns-in-Ask-clause-stepped
returns-in-Ask-clause-stepped g c =
    let came = took g.R.Key.Ord.cmp (strict g.R.Key.Ord.cmp g.met.R.Key.Ord.total) g.R.Rules.machine c.args.inputs.now c.now-latest.ensures.last (memo_at g.R.Key.Ord.cmp c.args.memos.now.places)
    c.args.memos.now.rules c.args.pending _ c.args.done _ c.done.view_is c.in-Ask.is c.done.invariant.0 c.requires.rules c.requires.files c.requires.key c.requires.counted
    (stale_last (g.R.Rules.machine c.args.memos.now.rules) c.args.inputs.now.revision (memo_at g.R.Key.Ord.cmp c.args.memos.now.places) (frame_keys c.args.self.now.stack) c.args.pending.key
    c.requires.ready.stale) c.requires.ready.frames_kept.1 in
    same_stepped g.R.Key.Ord.cmp g.R.Rules.machine c.args.inputs.now c.args.id (step_state c.args.memos.now c.args.claims.now c.args.self.now.stack (Away c.args.pending)) c.args.memos.now
    c.args.self.now.stack _ refl c.requires.ready.kept (λ k. refl) refl (c.requires.ready.frames_kept.0, inr came) (λ k b. asked_begun c.args.self.now.stack c.args.pending _ (λ w. w) refl k b)
    (away_awake g.R.Key.Ord.cmp g.R.Rules.machine c.args.inputs.now c.args.id _ _ _ _ c.requires.ready) c.requires.ready

pub returns-in-Ok-clause-stepped : goal.returns-in-Ok-clause-stepped
returns-in-Ok-clause-stepped g c =
    let exact : Exact g.R.Key.Ord.cmp = record { total = g.met.R.Key.Ord.total; exact = (g.met.R.Rules.lawful c.args.memos.now.rules []).exact } in
    left_stepped g.R.Key.Ord.cmp g.R.Rules.machine c.args.inputs.now c.args.id exact (step_state c.args.memos.now c.args.claims.now c.args.self.now.stack (Away c.args.pending))
    (step_state c.publish_value.new.memos c.leave.new.claims c.leave.new.self.stack c.leave.new.self.top) c.args.pending.key refl c.requires.ready.frames_kept.0
    c.publish_value.ensures.rules c.publish_value.ensures.kept (inr (inr (Value c.in-Done.value, c.args.pending.reads.items, c.in-Ok.ensures.published)))
    c.leave.ensures.lowered c.leave.ensures.claimed c.leave.ensures.wait c.leave.ensures.others c.claims_are_sound.ensures.sound
    (away_awake g.R.Key.Ord.cmp g.R.Rules.machine c.args.inputs.now c.args.id _ _ _ _ c.requires.ready) c.requires.ready

pub returns-in-Err-clause-stepped : goal.returns-in-Err-clause-stepped
returns-in-Err-clause-stepped g c =
    let came = took g.R.Key.Ord.cmp (strict g.R.Key.Ord.cmp g.met.R.Key.Ord.total) g.R.Rules.machine c.args.inputs.now c.now-latest.ensures.last (memo_at g.R.Key.Ord.cmp c.args.memos.now.places)
    c.args.memos.now.rules c.args.pending _ c.args.done c.args.done.turn c.done.view_is (ap (λ (v : DoneView g.row.R.Denot g.row.R-Key.Denot g.row.R-Part.Denot g.row.R-Value.Denot). v.turn) c.done.view_is) c.done.invariant.0 c.requires.rules c.requires.files c.requires.key c.requires.counted
    (stale_last (g.R.Rules.machine c.args.memos.now.rules) c.args.inputs.now.revision (memo_at g.R.Key.Ord.cmp c.args.memos.now.places) (frame_keys c.args.self.now.stack) c.args.pending.key
    c.requires.ready.stale) c.requires.ready.frames_kept.1 in
    let back = c.in-Err.ensures.returned in
    same_stepped g.R.Key.Ord.cmp g.R.Rules.machine c.args.inputs.now c.args.id (step_state c.args.memos.now c.args.claims.now c.args.self.now.stack (Away c.args.pending)) c.publish_value.new.memos
    c.args.self.now.stack (Away c.in-Err.pending) c.publish_value.ensures.rules c.publish_value.ensures.kept c.in-Err.ensures.refused
    (ap (λ (k : g.row.R-Key.Denot). frame_keys c.args.self.now.stack ++ k ∷ []) back.0) (
      below_as g.R.Key.Ord.cmp (g.R.Rules.machine c.args.memos.now.rules) c.args.inputs.now (memo_at g.R.Key.Ord.cmp c.args.memos.now.places) c.args.self.now.stack c.args.pending.key c.in-Err.pending.key back.0 c.requires.ready.frames_kept.0,
      inr (
        c.args.done.turn,
        subst (λ (k : g.row.R-Key.Denot). Came g.R.Key.Ord.cmp (g.R.Rules.machine c.args.memos.now.rules) c.args.inputs.now.history c.args.inputs.now.revision (HasIn (memo_at g.R.Key.Ord.cmp c.args.memos.now.places)) k c.args.done.turn c.in-Err.pending.reads.items) (sym back.0)
            (subst (λ (l : List g.row.R-Key.Denot). Came g.R.Key.Ord.cmp (g.R.Rules.machine c.args.memos.now.rules) c.args.inputs.now.history c.args.inputs.now.revision (HasIn (memo_at g.R.Key.Ord.cmp c.args.memos.now.places)) c.args.pending.key c.args.done.turn l) (sym back.1) came),
      ),
    )
    (λ k b. refused_begun c.args.self.now.stack c.args.pending c.in-Err.pending back.0 k b)
    (away_awake g.R.Key.Ord.cmp g.R.Rules.machine c.args.inputs.now c.args.id _ _ _ _ c.requires.ready) c.requires.ready
