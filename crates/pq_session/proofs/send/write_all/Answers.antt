use Rattle.std.proofs.Common.{◌++◌, take, ◌∙◌}
use Rattle.pq_session.proofs.Known.{appends_more, sent_more, none_failed}
use Rattle.pq_session.proofs.send.write_all.Goals as goal

pub bytes-preserved : goal.bytes-preserved
bytes-preserved g c =
    let done = c.bytes.invariant.done in
    let rest = c.bytes.rest.now in
    record {
      done = (done.0 ++ take c.in-Ok.count rest, sent_more c.args.bytes.now done.0 rest c.in-Ok.count done.1, appends_more _ _ _ done.0 (take c.in-Ok.count rest) done.2 c.in-Ok.ensures.bytes);
      no_failure = c.in-Ok.ensures.failed ∙ none_failed _ c.in-Ok.count c.if-count-gt0.true ∙ c.bytes.invariant.no_failure;
    }
