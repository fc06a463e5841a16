use Rattle.std.proofs.Common.{ap}
use Rattle.pq_memo.specs.Table.{memo_at}
use Rattle.pq_claims.specs.Claims.{Hold, hold_of}
use Rattle.pq_core.specs.declared.runs.frames.Top.{Top}
use Rattle.pq_core.specs.aux.Runs.{out_at}
use Rattle.pq_core.specs.aux.RunSteps.{step_state}
use Rattle.pq_core.proofs.Claiming.{claimed_others, held_keys, held_up}
use Rattle.pq_core.proofs.Stepping.{empty_stands, none_closed}
use Rattle.pq_core.proofs.Stepped.{claims_stepped, first_stepped, ready_next, still_stepped, stepped_then}
use Rattle.pq_core.proofs.Beginning.{none_held}
use Rattle.pq_core.proofs.RulesBegun.{none_looks}
use Rattle.pq_core.proofs.runs.run.Run.begin.Goals as goal

pub returns-in_err-key-clause-stepped : goal.returns-in_err-key-clause-stepped
returns-in_err-key-clause-stepped g c = still_stepped g.R.Key.Ord.cmp g.R.Rules.machine c.args.inputs.now c.args.id _ c.requires.ready

pub returns-in_err-claim-clause-stepped : goal.returns-in_err-claim-clause-stepped
returns-in_err-claim-clause-stepped g c =
    claims_stepped g.R.Key.Ord.cmp g.R.Rules.machine c.args.inputs.now c.args.id _ c.claim.new.self
    (ap (λ (h : Hold g.row.R-Key.Denot). h.keys) ((c.in_err-claim.ensures {u = tt}).claimed c.args.id))
    (empty_stands g.R.Key.Ord.cmp (g.R.Rules.machine c.args.memos.now.rules) c.args.inputs.now (memo_at g.R.Key.Ord.cmp c.args.memos.now.places) c.claim.new.self c.args.id c.args.self.now.top
    c.requires.empty.1)
    (claimed_others c.args.id c.args.claims.now c.claim.new.self g.R.Key.Ord.cmp c.in_ok-key.key c.claim.result c.claim.ensures.claimed) c.requires.ready

pub advance-requires : goal.advance-requires
advance-requires g c =
    let first = first_stepped g.R.Key.Ord.cmp g.R.Rules.machine c.args.inputs.now c.args.id (step_state c.args.memos.now c.args.claims.now c.args.self.now.stack c.args.self.now.top) c.claim.new.self
    c.args.self.now.request c.in_ok-key.key c.requires.empty.0 c.requires.empty.1 (c.in_ok-key.ensures {u = tt}) c.requires.stale
    (rw c.in-Got.is at (c.in_ok-claim.ensures {u = tt}).claimed) c.requires.ready in
    record { ready = rw (← c.self.view_is) at (ready_next _ _ _ _ _ _ first) }

pub returns-in-Got-clause-stepped : goal.returns-in-Got-clause-stepped
returns-in-Got-clause-stepped g c =
    let first = first_stepped g.R.Key.Ord.cmp g.R.Rules.machine c.args.inputs.now c.args.id (step_state c.args.memos.now c.args.claims.now c.args.self.now.stack c.args.self.now.top) c.claim.new.self
    c.args.self.now.request c.in_ok-key.key c.requires.empty.0 c.requires.empty.1 (c.in_ok-key.ensures {u = tt}) c.requires.stale
    (rw c.in-Got.is at (c.in_ok-claim.ensures {u = tt}).claimed) c.requires.ready in
    rw (← c.self.view_is)
    (stepped_then _ _ _ _ _ _ (step_state c.advance.new.memos c.advance.new.claims c.advance.new.self.stack c.advance.new.self.top) (rw (← c.self.view_is) at first) c.advance.ensures.stepped)

pub returns-in-Got-clause-first : goal.returns-in-Got-clause-first
returns-in-Got-clause-first g c = none_looks c.args.self.now.stack c.args.self.now.top c.requires.empty.0 c.requires.empty.1 c.advance.result

pub returns-in-HeldBy-clause-stepped : goal.returns-in-HeldBy-clause-stepped
returns-in-HeldBy-clause-stepped g c =
    let told = rw c.in-HeldBy.is at (c.in_ok-claim.ensures {u = tt}).claimed in
    claims_stepped g.R.Key.Ord.cmp g.R.Rules.machine c.args.inputs.now c.args.id _ c.claim.new.self
    (held_keys c.args.id c.args.claims.now c.claim.new.self g.R.Key.Ord.cmp c.in_ok-key.key c.in-HeldBy.other told)
    (empty_stands g.R.Key.Ord.cmp (g.R.Rules.machine c.args.memos.now.rules) c.args.inputs.now (memo_at g.R.Key.Ord.cmp c.args.memos.now.places) c.claim.new.self c.args.id c.args.self.now.top
    c.requires.empty.1)
    (claimed_others c.args.id c.args.claims.now c.claim.new.self g.R.Key.Ord.cmp c.in_ok-key.key c.claim.result c.claim.ensures.claimed) c.requires.ready

pub returns-in-HeldBy-clause-looked : goal.returns-in-HeldBy-clause-looked
returns-in-HeldBy-clause-looked g c =
    let told = rw c.in-HeldBy.is at (c.in_ok-claim.ensures {u = tt}).claimed in (
      ap (λ (t : Top g.row.R-Key.Denot g.row.R-Part.Denot). out_at t) c.requires.empty.1,
      held_up c.args.id c.args.claims.now c.claim.new.self g.R.Key.Ord.cmp c.in_ok-key.key c.in-HeldBy.other told,
    )

pub unreachable-requires : goal.unreachable-requires
unreachable-requires g c =
    let told = rw c.in-Ring.is at (c.in_ok-claim.ensures {u = tt}).claimed in
    none_closed g.R.Key.Ord.cmp c.args.claims.now c.args.id c.in_ok-key.key c.in-Ring.field-0.items
    (none_held (hold_of c.args.claims.now c.args.id).keys c.args.self.now.stack c.args.self.now.top c.requires.empty.0 c.requires.empty.1 c.requires.ready.claimed) told.0
