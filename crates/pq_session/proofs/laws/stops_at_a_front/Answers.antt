use Rattle.pq_session.proofs.PrefixLemmas.{stops_at_prefix}
use Rattle.pq_session.proofs.laws.stops_at_a_front.Goals as goal

pub returns : goal.returns
returns c = stops_at_prefix
