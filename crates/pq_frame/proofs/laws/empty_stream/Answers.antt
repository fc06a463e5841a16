use Rattle.pq_frame.proofs.RunLemmas.{at_first}
use Rattle.pq_frame.proofs.laws.empty_stream.Goals as goal

pub returns : goal.returns
returns c = at_first
