use Rattle.pq_session.proofs.EditorLemmas.{own_message, longer_message}
use Rattle.pq_session.proofs.laws.messages_as_they_are.Goals as goal

pub returns-clause-others : goal.returns-clause-others
returns-clause-others c = own_message

pub returns-clause-missing : goal.returns-clause-missing
returns-clause-missing c = longer_message
