use Rattle.pq_session.proofs.PlainLemmas.{plain_twice, plain_named}
use Rattle.pq_session.proofs.laws.plain_uris_stay.Goals as goal

pub returns-clause-twice : goal.returns-clause-twice
returns-clause-twice c = plain_twice

pub returns-clause-named : goal.returns-clause-named
returns-clause-named c = plain_named
