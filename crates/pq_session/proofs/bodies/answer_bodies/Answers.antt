use Rattle.std.proofs.Common.{◌++◌, ◌∙◌}
use Rattle.std.proofs.lemmas.Result.{err_from_is_err_and}
use Rattle.pq_session.specs.aux.ServerState.{state_of}
use Rattle.pq_session.specs.Output.{exits}
use Rattle.pq_session.proofs.Known.{appends_more}
use Rattle.pq_session.proofs.OutputLemmas.{loop_fails, loop_ended, loop_answered}
use Rattle.pq_session.proofs.TakeLemmas.{shown_later}
use Rattle.pq_session.proofs.bodies.answer_bodies.Goals as goal

pub returns-in_err-status-clause-err : goal.returns-in_err-status-clause-err
returns-in_err-status-clause-err g c =
    let p = err_from_is_err_and c.from_residual.result c.from_residual.ensures.1 in
    let so_far = c.loop-body.invariant in
    let stop = c.in_err-status.ensures.err in
    rw (p.1, p.2) (
      so_far.out ++ stop.0,
      loop_fails (state_of c.args.server.now) (state_of c.loop-body.server) c.args.bodies.now c.loop-body.body-index c.body-item.result c.deref.result.now so_far.out stop.0 c.in_err-status.field-0.0 c.loop-body-test.true c.body-item.is c.deref.ensures.value so_far.answered stop.1,
      appends_more _ _ _ so_far.out stop.0 so_far.written stop.2,
    )

pub returns-in_err-status-clause-counts : goal.returns-in_err-status-clause-counts
returns-in_err-status-clause-counts g c =
    let p = err_from_is_err_and c.from_residual.result c.from_residual.ensures.1 in
    rw (p.1, p.2) (shown_later c.in_err-status.field-0.0 _ _ _ c.loop-body.invariant.no_failure c.in_err-status.ensures.counts)

pub returns-in-Some-clause-ok : goal.returns-in-Some-clause-ok
returns-in-Some-clause-ok g c =
    let so_far = c.loop-body.invariant in
    let one = rw c.in-Some.is at c.in_ok-status.ensures.ok in (
      so_far.out ++ one.0,
      loop_ended (state_of c.args.server.now) (state_of c.loop-body.server) (state_of c.answer_body.new.server) (state_of c.answer_body.new.server) c.args.bodies.now c.loop-body.body-index c.body-item.result c.deref.result.now so_far.out one.0 (exits c.in-Some.status) c.loop-body-test.true c.body-item.is c.deref.ensures.value so_far.answered one.1,
      appends_more _ _ _ so_far.out one.0 so_far.written one.2,
    )

pub returns-in-Some-clause-counts : goal.returns-in-Some-clause-counts
returns-in-Some-clause-counts g c = c.in_ok-status.ensures.counts ∙ c.loop-body.invariant.no_failure

pub loop-body-preserved : goal.loop-body-preserved
loop-body-preserved g c =
    let so_far = c.loop-body.invariant in
    let one = rw c.in_default.is at c.in_ok-status.ensures.ok in
    record {
      out = so_far.out ++ one.0;
      answered = loop_answered (state_of c.args.server.now) (state_of c.loop-body.server) (state_of c.answer_body.new.server) c.args.bodies.now c.loop-body.body-index c.body-item.result c.deref.result.now so_far.out one.0 c.loop-body-test.true c.body-item.is c.deref.ensures.value so_far.answered one.1;
      written = appends_more _ _ _ so_far.out one.0 so_far.written one.2;
      no_failure = c.in_ok-status.ensures.counts ∙ so_far.no_failure;
    }
