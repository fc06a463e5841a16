use Rattle.std.proofs.Common.{subst, add-one}
use Rattle.pq_memo.specs.Table.{memo_at, HasIn}
use Rattle.pq_memo.specs.aux.Durabilities.{HasDurability}
use Rattle.pq_memo.proofs.Reading.{least_more}
use Rattle.pq_memo.proofs.table.memos.Memos.least_of.Goals as goal

pub loop-i-preserved : goal.loop-i-preserved
loop-i-preserved g c = rw add-one
    (least_more (g.R.Rules.machine c.args.self.now.rules) c.args.inputs.now.files (HasIn (memo_at g.R.Key.Ord.cmp c.args.self.now.places))
    c.args.reads.now c.loop-i.i c.index-reads-i.result c.loop-i.least c.durability_of.result c.lower-least.result c.loop-i-test.true c.index-reads-i.is
    c.loop-i.invariant
    (subst (λ (k : g.row.R-Key.Denot). HasDurability (g.R.Rules.machine c.args.self.now.rules) c.args.inputs.now.files (HasIn (memo_at g.R.Key.Ord.cmp c.args.self.now.places)) k c.durability_of.result) c.key.ensures c.durability_of.ensures)
    c.lower-least.ensures.which c.lower-least.ensures.left c.lower-least.ensures.right)
