use Rattle.std.proofs.Common.{arith, ◌<◌, length, subst, sym, ℕ}
use Rattle.pq_memo.specs.aux.Demand.{IsLeastKey}
use Rattle.pq_memo.proofs.LeastPlace.{least_then, least_else}
use Rattle.pq_memo.proofs.demand.demand.least_place.Goals.{then-is_lt, else-is_lt}
use Rattle.pq_memo.proofs.demand.demand.least_place.Goals as goal

pub returns-clause-least : goal.returns-clause-least
unfolding IsLeastKey
returns-clause-least g c j d h = c.loop-i.invariant.low j d (omega arith)

pub loop-i-preserved : goal.loop-i-preserved
loop-i-preserved g c = elim c.if-is_lt.branch [
  | then-is_lt w ↦ record {
    within = subst (λ (n : ℕ). n < length c.args.frames.now) (sym w.least-is) c.loop-i-test.true;
    low = least_then g.R.Key.Ord.cmp g.met.R.Key.Ord.total c.args.frames.now c.loop-i.i c.loop-i.least c.index-frames-i.result c.index-frames-least.result
        c.cmp.result c.is_lt.result c.index-frames-i.is c.index-frames-least.is c.loop-i-test.true c.loop-i.invariant.within c.cmp.ensures c.is_lt.ensures
        c.loop-i.invariant.low c.if-is_lt.least w.if-is_lt.true w.least-is;
  }
  | else-is_lt w ↦ record {
    within = subst (λ (n : ℕ). n < length c.args.frames.now) (sym w.least-is) c.loop-i.invariant.within;
    low = least_else g.R.Key.Ord.cmp g.met.R.Key.Ord.total c.args.frames.now c.loop-i.i c.loop-i.least c.index-frames-i.result c.index-frames-least.result
        c.cmp.result c.is_lt.result c.index-frames-i.is c.index-frames-least.is c.loop-i-test.true c.loop-i.invariant.within c.cmp.ensures c.is_lt.ensures
        c.loop-i.invariant.low c.if-is_lt.least w.if-is_lt.false w.least-is;
  }
]
