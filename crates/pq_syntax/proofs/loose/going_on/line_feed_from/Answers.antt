use Rattle.pq_syntax.proofs.FirstFeed.{feed_at, feed_nowhere}
use Rattle.pq_syntax.proofs.loose.going_on.line_feed_from.Goals as goal

pub returns-in-Some-clause-is : goal.returns-in-Some-clause-is
returns-in-Some-clause-is c = feed_at _ c.args.text.now c.as_bytes-bytes.ensures.value c.args.from c.requires c.in-Some.n c.in-Some.ensures

pub returns-in-None-clause-is : goal.returns-in-None-clause-is
returns-in-None-clause-is c = feed_nowhere _ c.args.text.now c.as_bytes-bytes.ensures.value c.args.from c.requires c.in-None.ensures
