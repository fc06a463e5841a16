use Rattle.pq_session.proofs.PrintLemmas.{result_spliced}
use Rattle.pq_session.proofs.laws.symbols_spliced.Goals as goal

pub returns : goal.returns
returns c = result_spliced
