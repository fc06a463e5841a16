use Rattle.std.proofs.Common.{lit<}
use Rattle.pq_session.proofs.PlainLemmas.{cut_is}
use Rattle.pq_session.proofs.protocol.uris.cut_scheme.Goals as goal

pub returns : goal.returns
returns c = cut_is 58 c.args.uri.now c.split_once.result (c.split_once.ensures.byte (lit< tt) (λ w o f. f))
