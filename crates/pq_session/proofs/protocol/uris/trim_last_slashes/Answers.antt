use Rattle.pq_session.proofs.UriLemmas.{trimmed_end_is}
use Rattle.pq_session.proofs.protocol.uris.trim_last_slashes.Goals as goal

pub returns : goal.returns
returns c = trimmed_end_is _ _ c.trim_end_matches.ensures.matches
