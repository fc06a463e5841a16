use Rattle.pq_memo.specs.Table.{memo_at}
use Rattle.pq_memo.proofs.RoundClosed.{members_next}
use Rattle.pq_memo.proofs.table.memos.Memos.members_of.Goals as goal

pub loop-i-preserved : goal.loop-i-preserved
loop-i-preserved g c =
    members_next g.R.Key.Ord.cmp (g.R.Rules.machine c.args.self.now.rules) c.args.inputs.now.history c.args.inputs.now.revision (memo_at g.R.Key.Ord.cmp c.args.self.now.places)
    c.args.frames.now c.loop-i.i c.index-frames-i.result c.loop-i.members.items c.push.new.items.items c.new.result c.in_ok-key.key c.in_ok-reads.reads.items
    c.loop-i-test.true c.index-frames-i.is (c.in_ok-push.ensures {u = tt}).added c.new.ensures c.in_ok-key.ensures.copy (c.in_ok-reads.ensures {u = tt}) c.loop-i.invariant
