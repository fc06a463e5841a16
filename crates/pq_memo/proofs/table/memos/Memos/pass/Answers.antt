use Rattle.std.proofs.Common.{subst, add-one}
use Rattle.pq_memo.specs.Look.{HasChanged, IsStill, IsUpToDate}
use Rattle.pq_memo.specs.Table.{memo_at, HasIn}
use Rattle.pq_memo.proofs.Reading.{each_take}
use Rattle.pq_memo.proofs.table.memos.Memos.pass.Goals as goal

pub loop-i-preserved : goal.loop-i-preserved
loop-i-preserved g c = rw add-one
    (each_take (IsStill (g.R.Rules.machine c.args.self.now.rules) c.args.inputs.now.history c.args.inputs.now.revision (HasIn (memo_at g.R.Key.Ord.cmp c.args.self.now.places)) c.args.since)
    c.args.reads.now c.loop-i.i c.index-reads-i.result c.loop-i-test.true c.index-reads-i.is
    (record {
      up_to_date = subst (λ (k : g.row.R-Key.Denot). IsUpToDate (g.R.Rules.machine c.args.self.now.rules) c.args.inputs.now.revision (HasIn (memo_at g.R.Key.Ord.cmp c.args.self.now.places)) k) c.key.ensures c.in-Some.ensures.fresh;
      revision = c.in-Some.changed;
      changed = subst (λ (k : g.row.R-Key.Denot). HasChanged (g.R.Rules.machine c.args.self.now.rules) c.args.inputs.now.history (HasIn (memo_at g.R.Key.Ord.cmp c.args.self.now.places)) k c.in-Some.changed) c.key.ensures c.in-Some.ensures.changed;
      not_after = c.if-changed-since.false;
    })
    c.loop-i.invariant)
