use Rattle.pq_session.specs.Uri.{root_of}
use Rattle.pq_session.proofs.RootLemmas.{comes_back, uri_names}
use Rattle.pq_session.proofs.laws.uris_come_back.Goals as goal

pub returns-clause-exact : goal.returns-clause-exact
returns-clause-exact c = comes_back

pub returns-clause-names : goal.returns-clause-names
returns-clause-names c = λ u uri name e. uri_names (root_of u) uri name e
