use Rattle.std.proofs.Common.{List, subst, add-one}
use Rattle.pq_rules.specs.Relations.{In}
use Rattle.pq_memo.specs.Table.{memo_at, HasIn}
use Rattle.pq_memo.specs.Writes.{fronts}
use Rattle.pq_memo.specs.aux.Durabilities.{IsLeastRead}
use Rattle.pq_memo.proofs.PutAll.{fronts_more}
use Rattle.pq_memo.proofs.table.memos.Memos.ring_durability.Goals as goal

pub loop-i-preserved : goal.loop-i-preserved
loop-i-preserved g c = rw add-one
    (fronts_more (g.R.Rules.machine c.args.self.now.rules) c.args.inputs.now.files (HasIn (memo_at g.R.Key.Ord.cmp c.args.self.now.places))
    c.args.members.now c.loop-i.i c.index-members-i.result c.loop-i.least c.front_durability.result c.lower-least.result c.loop-i-test.true c.index-members-i.is
    c.loop-i.invariant
    (subst (λ (ks : List g.row.R-Key.Denot). IsLeastRead (g.R.Rules.machine c.args.self.now.rules) c.args.inputs.now.files (HasIn (memo_at g.R.Key.Ord.cmp c.args.self.now.places)) (λ q. In q (fronts ks)) c.front_durability.result)
    c.reads.ensures c.front_durability.ensures)
    c.lower-least.ensures.which c.lower-least.ensures.left c.lower-least.ensures.right)
