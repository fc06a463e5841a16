use Rattle.pq_session.proofs.EditorLemmas.{published_is_spliced}
use Rattle.pq_session.proofs.laws.published_spliced.Goals as goal

pub returns : goal.returns
returns c = published_is_spliced
