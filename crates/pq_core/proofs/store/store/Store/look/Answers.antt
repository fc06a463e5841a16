use Rattle.std.proofs.Common.{ℕ, refl, sym, inl, inr, ap, ◌∙◌}
use Rattle.pq_inputs.specs.Sources.{Sources}
use Rattle.pq_memo.specs.Table.{memo_at}
use Rattle.pq_core.proofs.Renewed.{renewed_none_lost, same_none_lost}
use Rattle.pq_core.proofs.StepOfRun.{carry_goes, closes_here, ready_goes_on, ring_goes, ring_renewed, stays_goes, step_goes, was_idle}
use Rattle.pq_core.proofs.StoreRunning.{goes_on, look_blocked, look_held, no_run}
use Rattle.pq_core.specs.Stores.{held}
use Rattle.pq_core.specs.Told.{told_puts}
use Rattle.pq_core.proofs.store.store.Store.look.Goals as goal

pub returns-in-Err-clause-moved : goal.returns-in-Err-clause-moved
returns-in-Err-clause-moved g c =
    let idle = (c.in-Err.ensures {u = tt}).refused in
    stays_goes g.R.Key.Ord.cmp (g.R.Rules.machine c.args.self.now.rules) g.M.Stamp.point c.args.self.now _
    (λ l x. let at = goes_on g.R.Key.Ord.cmp (g.R.Rules.machine c.args.self.now.rules) g.M.Stamp.point told_puts c.args.self.now.rules (held c.args.self.now) l c.args.run idle.0 x idle.1.here idle.1.early idle.2 in (at.0, at.1, refl))

pub returns-in-Gone-clause-moved : goal.returns-in-Gone-clause-moved
returns-in-Gone-clause-moved g c =
    let none = rw c.in-Gone.is at (c.in-Ok.ensures {u = tt}).at in
    stays_goes g.R.Key.Ord.cmp (g.R.Rules.machine c.args.self.now.rules) g.M.Stamp.point c.args.self.now _ (λ l x. (no_run g.R.Key.Ord.cmp (g.R.Rules.machine c.args.self.now.rules) g.M.Stamp.point told_puts (held c.args.self.now) l c.args.run x none, refl))

pub end_by-requires : goal.end_by-requires
end_by-requires g c =
    let late = rw c.in-Overtaken.is at (c.in-Ok.ensures {u = tt}).at in
    record { may = (late.0, late.1, late.2) }

pub returns-in-Overtaken-clause-none_lost : goal.returns-in-Overtaken-clause-none_lost
returns-in-Overtaken-clause-none_lost g c =
    rw c.end_by.ensures.places (same_none_lost (memo_at g.R.Key.Ord.cmp c.args.self.now.places))

pub returns-in-Away-clause-moved : goal.returns-in-Away-clause-moved
returns-in-Away-clause-moved g c =
    let away = rw c.in-Away.is at (c.in-Ok.ensures {u = tt}).at in
    stays_goes g.R.Key.Ord.cmp (g.R.Rules.machine c.args.self.now.rules) g.M.Stamp.point c.args.self.now _
    (λ l x. let at = look_blocked g.R.Key.Ord.cmp (g.R.Rules.machine c.args.self.now.rules) g.M.Stamp.point told_puts c.args.self.now.rules (held c.args.self.now) l c.args.run away.0 x away.1.here away.1.early away.2 in (at.0, at.1, at.2, inl (at.3, refl), refl))

pub end_by-requires-in-Answered : goal.end_by-requires-in-Answered
end_by-requires-in-Answered g c =
    let said = rw c.in-Answered.is at (c.in-Ok.ensures {u = tt}).at in
    record { may = (said.0, said.1.here, (said.1.early, said.2, said.3, said.4)) }

pub returns-in-Answered-clause-none_lost : goal.returns-in-Answered-clause-none_lost
returns-in-Answered-clause-none_lost g c =
    rw c.end_by-in-Answered.ensures.places (same_none_lost (memo_at g.R.Key.Ord.cmp c.args.self.now.places))

pub returns-in-Err-step-clause-moved : goal.returns-in-Err-step-clause-moved
returns-in-Err-step-clause-moved g c =
    let ready = rw c.in-Ready.is at (c.in-Ok.ensures {u = tt}).at in
    let looked = (c.in-Err-step.ensures {u = tt}).refused in
    step_goes g.R.Key.Ord.cmp (g.R.Rules.machine c.args.self.now.rules) g.M.Stamp.point c.args.self.now c.step.new.self c.args.run _ looked.0 (looked.1 ∙ sym (was_idle g.R.Key.Ord.cmp (g.R.Rules.machine c.args.self.now.rules) c.args.self.now c.step.new.self c.args.run ready.0 ready.1 looked.0))
    (λ l x. let at = ready_goes_on g.R.Key.Ord.cmp (g.R.Rules.machine c.args.self.now.rules) g.M.Stamp.point c.args.self.now c.args.self.now.rules c.args.run ready.0 ready.1 l x in (at.0, at.1, refl))

pub new-requires : goal.new-requires
new-requires g c =
    let ready = rw c.in-Ready.is at (c.in-Ok.ensures {u = tt}).at in
    let looked = rw c.in-Carry.is at (c.in-Ok-step.ensures {u = tt}).looked in
    ready.2
    ∙ (ap (λ (r : ℕ). record { revision = r; files = c.args.self.now.inputs.files }) (sym looked.1.started)
    ∙ ap (λ (x : Sources). record { revision = c.in-Carry.job.done.started; files = x }) (sym looked.1.files))

pub returns-in-Carry-clause-moved : goal.returns-in-Carry-clause-moved
returns-in-Carry-clause-moved g c =
    let ready = rw c.in-Ready.is at (c.in-Ok.ensures {u = tt}).at in
    let looked = rw c.in-Carry.is at (c.in-Ok-step.ensures {u = tt}).looked in
    rw c.new.ensures (carry_goes g.R.Key.Ord.cmp (g.R.Rules.machine c.args.self.now.rules) g.M.Stamp.point c.args.self.now c.step.new.self c.args.run c.in-Carry.job looked.0 (was_idle g.R.Key.Ord.cmp (g.R.Rules.machine c.args.self.now.rules) c.args.self.now c.step.new.self c.args.run ready.0 ready.1 looked.0) looked.1)

pub returns-in-Carry-clause-cause : goal.returns-in-Carry-clause-cause
returns-in-Carry-clause-cause g c =
    let looked = rw c.in-Carry.is at (c.in-Ok-step.ensures {u = tt}).looked in
    rw c.new.ensures looked.2

pub returns-in-Carry-clause-counted : goal.returns-in-Carry-clause-counted
returns-in-Carry-clause-counted g c =
    rw c.new.ensures (rw c.in-Carry.is at (rw c.in-Ok-step.is at c.step.ensures.counted))

pub returns-in-Stepped-clause-moved : goal.returns-in-Stepped-clause-moved
returns-in-Stepped-clause-moved g c =
    let ready = rw c.in-Ready.is at (c.in-Ok.ensures {u = tt}).at in
    let looked = rw c.in-Stepped.is at (c.in-Ok-step.ensures {u = tt}).looked in
    step_goes g.R.Key.Ord.cmp (g.R.Rules.machine c.args.self.now.rules) g.M.Stamp.point c.args.self.now c.step.new.self c.args.run _ looked.0 (looked.1 ∙ sym (was_idle g.R.Key.Ord.cmp (g.R.Rules.machine c.args.self.now.rules) c.args.self.now c.step.new.self c.args.run ready.0 ready.1 looked.0))
    (λ l x. let at = ready_goes_on g.R.Key.Ord.cmp (g.R.Rules.machine c.args.self.now.rules) g.M.Stamp.point c.args.self.now c.args.self.now.rules c.args.run ready.0 ready.1 l x in (at.0, at.1, refl))

pub returns-in-Stepped-clause-counted : goal.returns-in-Stepped-clause-counted
returns-in-Stepped-clause-counted g c =
    rw c.in-Stepped.is at (rw c.in-Ok-step.is at c.step.ensures.counted)

pub returns-in-Blocked-clause-moved : goal.returns-in-Blocked-clause-moved
returns-in-Blocked-clause-moved g c =
    let ready = rw c.in-Ready.is at (c.in-Ok.ensures {u = tt}).at in
    let looked = rw c.in-Blocked.is at (c.in-Ok-step.ensures {u = tt}).looked in
    let idle = was_idle g.R.Key.Ord.cmp (g.R.Rules.machine c.args.self.now.rules) c.args.self.now c.step.new.self c.args.run ready.0 ready.1 looked.0 in
    step_goes g.R.Key.Ord.cmp (g.R.Rules.machine c.args.self.now.rules) g.M.Stamp.point c.args.self.now c.step.new.self c.args.run _ looked.0 (looked.1 ∙ sym idle)
    (λ l x.
    let at = look_held g.R.Key.Ord.cmp (g.R.Rules.machine c.args.self.now.rules) g.M.Stamp.point told_puts c.args.self.now.rules (held c.args.self.now) l c.args.run looked.0.was c.in-Blocked.other looked.3.0 x looked.0.current.here looked.0.current.early idle looked.2.0 looked.3.1 in
    (at.0, at.1, at.2, at.3, refl))

pub returns-in-Blocked-clause-holder : goal.returns-in-Blocked-clause-holder
returns-in-Blocked-clause-holder g c =
    let looked = rw c.in-Blocked.is at (c.in-Ok-step.ensures {u = tt}).looked in
    inr looked.2

pub returns-in-Away-clause-holder : goal.returns-in-Away-clause-holder
returns-in-Away-clause-holder g c =
    inl refl

pub returns-in-Blocked-clause-counted : goal.returns-in-Blocked-clause-counted
returns-in-Blocked-clause-counted g c =
    rw c.in-Blocked.is at (rw c.in-Ok-step.is at c.step.ensures.counted)

pub close-requires : goal.close-requires
close-requires g c =
    let looked = rw c.in-Ring.is at (c.in-Ok-step.ensures {u = tt}).looked in
    rw c.deref.ensures.value (record { closes = closes_here g.R.Key.Ord.cmp g.R.Rules.machine c.args.self.now c.step.new.self c.args.run looked.0 c.in-Ring.ring.items looked.2 })

pub returns-in-Ok-close-clause-none_lost : goal.returns-in-Ok-close-clause-none_lost
returns-in-Ok-close-clause-none_lost g c =
    let looked = rw c.in-Ring.is at (c.in-Ok-step.ensures {u = tt}).looked in
    renewed_none_lost (g.R.Rules.machine c.args.self.now.rules) c.args.self.now.inputs.revision (memo_at g.R.Key.Ord.cmp c.args.self.now.places) (memo_at g.R.Key.Ord.cmp c.close.new.self.places)
    (ring_renewed g.R.Key.Ord.cmp g.R.Rules.machine c.args.self.now c.step.new.self c.args.run looked.0 (memo_at g.R.Key.Ord.cmp c.close.new.self.places) c.close.ensures.renewed)

pub returns-in-Ok-close-clause-moved : goal.returns-in-Ok-close-clause-moved
returns-in-Ok-close-clause-moved g c =
    let ready = rw c.in-Ready.is at (c.in-Ok.ensures {u = tt}).at in
    let looked = rw c.in-Ring.is at (c.in-Ok-step.ensures {u = tt}).looked in
    ring_goes g.R.Key.Ord.cmp (g.R.Rules.machine c.args.self.now.rules) g.M.Stamp.point c.args.self.now c.step.new.self c.close.new.self c.args.run _ looked.0 (looked.1 ∙ sym (was_idle g.R.Key.Ord.cmp (g.R.Rules.machine c.args.self.now.rules) c.args.self.now c.step.new.self c.args.run ready.0 ready.1 looked.0)) c.close.ensures.clients c.close.ensures.seen
    (λ l x. let at = ready_goes_on g.R.Key.Ord.cmp (g.R.Rules.machine c.args.self.now.rules) g.M.Stamp.point c.args.self.now c.args.self.now.rules c.args.run ready.0 ready.1 l x in (at.0, at.1, refl))

pub returns-in-Ok-close-clause-counted : goal.returns-in-Ok-close-clause-counted
returns-in-Ok-close-clause-counted g c =
    let looked = rw c.in-Ring.is at (c.in-Ok-step.ensures {u = tt}).looked in
    let first = rw c.in-Ring.is at (rw c.in-Ok-step.is at c.step.ensures.counted) in
    let again = rw looked.0.clients.rules at c.close.ensures.counted in
    λ log x. again log (first log x)

pub returns-in-Err-close-clause-none_lost : goal.returns-in-Err-close-clause-none_lost
returns-in-Err-close-clause-none_lost g c =
    let looked = rw c.in-Ring.is at (c.in-Ok-step.ensures {u = tt}).looked in
    renewed_none_lost (g.R.Rules.machine c.args.self.now.rules) c.args.self.now.inputs.revision (memo_at g.R.Key.Ord.cmp c.args.self.now.places) (memo_at g.R.Key.Ord.cmp c.close.new.self.places)
    (ring_renewed g.R.Key.Ord.cmp g.R.Rules.machine c.args.self.now c.step.new.self c.args.run looked.0 (memo_at g.R.Key.Ord.cmp c.close.new.self.places) c.close.ensures.renewed)

pub returns-in-Err-close-clause-moved : goal.returns-in-Err-close-clause-moved
returns-in-Err-close-clause-moved g c =
    let ready = rw c.in-Ready.is at (c.in-Ok.ensures {u = tt}).at in
    let looked = rw c.in-Ring.is at (c.in-Ok-step.ensures {u = tt}).looked in
    ring_goes g.R.Key.Ord.cmp (g.R.Rules.machine c.args.self.now.rules) g.M.Stamp.point c.args.self.now c.step.new.self c.close.new.self c.args.run _ looked.0 (looked.1 ∙ sym (was_idle g.R.Key.Ord.cmp (g.R.Rules.machine c.args.self.now.rules) c.args.self.now c.step.new.self c.args.run ready.0 ready.1 looked.0)) c.close.ensures.clients c.close.ensures.seen
    (λ l x. let at = ready_goes_on g.R.Key.Ord.cmp (g.R.Rules.machine c.args.self.now.rules) g.M.Stamp.point c.args.self.now c.args.self.now.rules c.args.run ready.0 ready.1 l x in (at.0, at.1, refl))

pub returns-in-Err-close-clause-counted : goal.returns-in-Err-close-clause-counted
returns-in-Err-close-clause-counted g c =
    let looked = rw c.in-Ring.is at (c.in-Ok-step.ensures {u = tt}).looked in
    let first = rw c.in-Ring.is at (rw c.in-Ok-step.is at c.step.ensures.counted) in
    let again = rw looked.0.clients.rules at c.close.ensures.counted in
    λ log x. again log (first log x)
