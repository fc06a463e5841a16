use Rattle.pq_session.proofs.PrintLemmas.{descriptor_is_spliced}
use Rattle.pq_session.proofs.laws.descriptor_spliced.Goals as goal

pub returns : goal.returns
returns c = descriptor_is_spliced
