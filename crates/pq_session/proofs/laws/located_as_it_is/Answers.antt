use Rattle.pq_session.proofs.EditorLemmas.{located_reply, other_reply}
use Rattle.pq_session.proofs.laws.located_as_it_is.Goals as goal

pub returns-clause-located : goal.returns-clause-located
returns-clause-located g c = located_reply

pub returns-clause-other : goal.returns-clause-other
returns-clause-other g c = other_reply
