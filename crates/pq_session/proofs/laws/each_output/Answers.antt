use Rattle.pq_session.proofs.OutputLemmas.{some_output}
use Rattle.pq_session.proofs.laws.each_output.Goals as goal

pub returns : goal.returns
returns c = some_output
