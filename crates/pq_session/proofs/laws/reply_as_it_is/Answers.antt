use Rattle.pq_session.proofs.EditorLemmas.{found_reply, untold_reply}
use Rattle.pq_session.proofs.laws.reply_as_it_is.Goals as goal

pub returns-clause-found : goal.returns-clause-found
returns-clause-found g c = found_reply

pub returns-clause-untold : goal.returns-clause-untold
returns-clause-untold g c = untold_reply
