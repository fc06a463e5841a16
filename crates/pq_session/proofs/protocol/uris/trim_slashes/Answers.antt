use Rattle.pq_session.proofs.UriLemmas.{trimmed_is}
use Rattle.pq_session.proofs.protocol.uris.trim_slashes.Goals as goal

pub returns : goal.returns
returns c = trimmed_is _ _ c.trim_start_matches.ensures.matches
