use Rattle.pq_session.proofs.UriLemmas.{strip_prefix_is}
use Rattle.pq_session.proofs.protocol.uris.strip_prefix.Goals as goal

pub returns : goal.returns
returns c = strip_prefix_is _ _ _ c.strip_prefix.ensures.cases
