use Rattle.pq_core.proofs.CorePassing.{passes_more}
use Rattle.pq_core.proofs.lanes.passing.pass_on_all.Goals as goal

pub replies-preserved : goal.replies-preserved
replies-preserved g c =
    passes_more g.R.Key.Ord.cmp g.R.Rules.machine g.M.Stamp.point g.O.Outbox.puts c.args.store.now c.replies.store c.pass_on.new.store c.args.lanes.now c.replies.lanes c.pass_on.new.lanes c.replies.invariant c.pass_on.ensures.passes
