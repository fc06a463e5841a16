use Rattle.std.proofs.Common.{◌∙◌}
use Rattle.pq_session.proofs.FrameLemmas.{header_stops, body_sent, body_fails}
use Rattle.pq_session.proofs.send.write_long.Goals as goal

pub returns-in-Ok-write_all-clause-ok : goal.returns-in-Ok-write_all-clause-ok
returns-in-Ok-write_all-clause-ok g c =
    body_sent c.write_all-in-Ok-write_all.result _ _ _ c.as_bytes.result.now c.args.body.now _ _ (c.as_bytes.ensures.value ∙ c.in-Ok.ensures) c.in-Ok-write_all.ensures.0 c.write_all-in-Ok-write_all.ensures

pub returns-in-Ok-write_all-clause-err : goal.returns-in-Ok-write_all-clause-err
returns-in-Ok-write_all-clause-err g c =
    body_fails c.write_all-in-Ok-write_all.result _ _ _ c.as_bytes.result.now c.args.body.now _ _ (c.as_bytes.ensures.value ∙ c.in-Ok.ensures) c.in-Ok-write_all.ensures.0 c.write_all-in-Ok-write_all.ensures

pub returns-clause-err : goal.returns-clause-err
returns-clause-err g c =
    let sent = c.in-Err-write_all.ensures in
    let part = sent.2 in
    rw (sent.0) (part.0, header_stops c.as_bytes.result.now c.args.body.now part.0 (c.as_bytes.ensures.value ∙ c.in-Ok.ensures) part.1, part.2)
