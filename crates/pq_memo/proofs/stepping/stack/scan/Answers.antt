use Rattle.pq_rules.proofs.ListLemmas.{not_both}
use Rattle.pq_memo.proofs.Indexed.{passed_none, passed_next, passed_all}
use Rattle.pq_memo.proofs.stepping.stack.scan.Goals as goal

pub loop-place-init : goal.loop-place-init
loop-place-init g c = passed_none c.args.frames.now c.args.from c.args.key.now

pub loop-place-preserved : goal.loop-place-preserved
loop-place-preserved g c =
    passed_next c.args.frames.now c.args.from c.loop-place.place c.args.key.now c.index-frames-place.result c.loop-place-test.true c.index-frames-place.is
    (λ e. not_both (c.is_same_key.ensures.1 e) c.if-is_same_key.false) c.loop-place.invariant

pub returns-clause-none : goal.returns-clause-none
returns-clause-none g c = passed_all c.args.frames.now c.args.from c.loop-place.place c.args.key.now c.loop-place-test.false c.loop-place.invariant
