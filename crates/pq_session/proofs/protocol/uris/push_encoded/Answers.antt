use Rattle.std.proofs.Common.{sym, ◌∙◌}
use Rattle.pq_session.proofs.EscapeLemmas.{encoded_is}
use Rattle.pq_session.proofs.protocol.uris.push_encoded.Goals as goal

pub returns : goal.returns
returns c = rw (sym (c.utf8_percent_encode.ensures.text ∙ encoded_is c.args.path.now)) c.append_to.ensures.ok
