use Rattle.std.proofs.Common.{List, sym, subst}
use Rattle.pq_rules.specs.Turns.{over}
use Rattle.pq_rules.proofs.Order.{strict}
use Rattle.pq_memo.specs.Sound.{HasReads}
use Rattle.pq_memo.proofs.Frames.{passes_on}
use Rattle.pq_memo.proofs.table.memos.Memos.pass_on.Goals as goal

pub publish_hinted-requires-clause-reads : goal.publish_hinted-requires-clause-reads
publish_hinted-requires-clause-reads g c =
    subst (λ (l : List g.row.R-Key.Denot). HasReads (over g.R.Key.Ord.cmp (g.R.Rules.machine c.args.self.now.rules) c.args.inputs.now.files) c.args.key c.args.answer l)
    (sym c.in-Ok.ensures.items)
    (passes_on g.R.Key.Ord.cmp (strict g.R.Key.Ord.cmp g.met.R.Key.Ord.total) (g.R.Rules.machine c.args.self.now.rules) c.args.inputs.now c.now-latest.ensures.counted c.now-latest.ensures.last
    c.args.self.now.places c.requires.kept c.args.key c.args.asked c.args.part c.args.reads.items c.args.answer c.requires.sits c.requires.cycle).reads_now

pub publish_hinted-requires-clause-no_ring : goal.publish_hinted-requires-clause-no_ring
publish_hinted-requires-clause-no_ring g c =
    (passes_on g.R.Key.Ord.cmp (strict g.R.Key.Ord.cmp g.met.R.Key.Ord.total) (g.R.Rules.machine c.args.self.now.rules) c.args.inputs.now c.now-latest.ensures.counted c.now-latest.ensures.last
    c.args.self.now.places c.requires.kept c.args.key c.args.asked c.args.part c.args.reads.items c.args.answer c.requires.sits c.requires.cycle).off
