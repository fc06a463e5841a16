use Rattle.std.proofs.lemmas.Result.{IfOk-weaker, IfErr-weaker}
use Rattle.pq_syntax.proofs.Steps.{fails_then, passes_then}
use Rattle.pq_syntax.proofs.parser.names.skip_type.Goals as goal

pub returns-clause-taken : goal.returns-clause-taken
returns-clause-taken c = IfOk-weaker _ _ _ (λ rest. passes_then c.skip_if.ensures) c.skip_full.ensures.taken

pub returns-clause-fault : goal.returns-clause-fault
returns-clause-fault c = IfErr-weaker _ _ _ (λ e. fails_then c.skip_if.ensures) c.skip_full.ensures.fault
