use Rattle.std.proofs.Common.{[]}
use Rattle.std.proofs.lemmas.Result.{err_from_is_err_and}
use Rattle.pq_session.specs.Responses.{fresh}
use Rattle.pq_session.proofs.Known.{appends_none, consumes_none}
use Rattle.pq_session.proofs.TakeLemmas.{stops_before}
use Rattle.pq_session.proofs.run.script.Goals as goal

pub returns-in_err-inputs-clause-writes : goal.returns-in_err-inputs-clause-writes
returns-in_err-inputs-clause-writes g c =
    let p = err_from_is_err_and c.from_residual.result c.from_residual.ensures.1 in
    rw (p.1, p.2) ([], [], stops_before [] fresh, consumes_none _, appends_none _)
