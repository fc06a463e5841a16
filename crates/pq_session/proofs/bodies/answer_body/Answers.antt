use Rattle.std.proofs.Common.{[], List, ℕ, subst}
use Rattle.std.proofs.lemmas.Result.{err_from_is_err_and}
use Rattle.pq_session.specs.Script.{StopsWriting}
use Rattle.std.specs.Prelude.{string_bytes}
use Rattle.pq_frame.specs.Written.{written}
use Rattle.pq_session.specs.aux.ServerState.{state_of}
use Rattle.pq_session.specs.Responses.{Responds, replies}
use Rattle.pq_session.proofs.Known.{appends_none}
use Rattle.pq_session.proofs.OutputLemmas.{reply_fails, refused_fails}
use Rattle.pq_session.proofs.bodies.answer_body.Goals as goal

pub returns-in_err-handle-clause-err : goal.returns-in_err-handle-clause-err
returns-in_err-handle-clause-err g c =
    let p = err_from_is_err_and c.from_residual.result c.from_residual.ensures.1 in
    rw (p.1, p.2) ([], refused_fails (state_of c.args.server.now) (state_of c.handle.new.self) c.args.body.now c.in_err-handle.field-0.0 c.in_err-handle.ensures.err, appends_none _)

pub returns-in_err-send_frame-in-Reply-clause-err : goal.returns-in_err-send_frame-in-Reply-clause-err
returns-in_err-send_frame-in-Reply-clause-err g c =
    let p = err_from_is_err_and c.from_residual-in_err-send_frame-in-Reply.result c.from_residual-in_err-send_frame-in-Reply.ensures.1 in
    let sent = c.in_err-send_frame-in-Reply.ensures.err in
    let fault = c.in_err-send_frame-in-Reply.field-0.0 in
    let tells : Responds (state_of c.args.server.now) c.args.body.now (replies (string_bytes c.in-Reply.reply)) (state_of c.handle.new.self) = rw c.in-Reply.is at c.in_ok-handle.ensures.ok in
    rw (p.1, p.2) (
      sent.0,
      reply_fails (state_of c.args.server.now) (state_of c.handle.new.self) c.args.body.now (string_bytes c.in-Reply.reply) sent.0 fault tells (subst (λ (s : List ℕ). StopsWriting (written s) sent.0 fault) c.as_bytes.ensures.value sent.1),
      sent.2,
    )
