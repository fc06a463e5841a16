use Rattle.pq_checks.proofs.Covering.{raise_more}
use Rattle.pq_checks.proofs.lines.cover.raised.Goals as goal

pub others-preserved : goal.others-preserved
others-preserved g c =
    raise_more g.met.T.Ord.total _ _ _ _ _ _ _ _ c.others-test.true c.range-item.is c.higher-top.ensures c.in_ok-push-2.ensures.items c.others.invariant
