use Rattle.pq_session.proofs.EditorLemmas.{found_list, untold_list}
use Rattle.pq_session.proofs.laws.list_as_it_is.Goals as goal

pub returns-clause-found : goal.returns-clause-found
returns-clause-found c = found_list

pub returns-clause-untold : goal.returns-clause-untold
returns-clause-untold c = untold_list
