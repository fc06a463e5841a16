use Rattle.std.proofs.Common.{◌<◌, arith}
use Rattle.pq_syntax.proofs.TypesInOrder.{risen_more}
use Rattle.pq_syntax.proofs.file.types_rise.Goals as goal
use Rattle.pq_syntax.proofs.file.types_rise.Goals.{else-i-gt0-via-then-i-gt0+else-start-reach, else-i-gt0-via-else-i-gt0}

pub nodes-preserved : goal.nodes-preserved
nodes-preserved c =
    let starts : 0 < c.nodes.i → c.nodes.reach < c.index-nodes-i.result.span.start =
    λ some. elim c.else-i-gt0.branch [
      | else-i-gt0-via-then-i-gt0+else-start-reach w ↦ omega (arith, w.if-start-reach)
      | else-i-gt0-via-else-i-gt0 w ↦ absurd (omega (arith, some, w.if-i-gt0))
    ] in
    risen_more c.args.nodes.now c.nodes.i c.nodes.reach c.in-Some.end c.index-nodes-i.result c.nodes-test.true c.index-nodes-i.is starts
    (record { start = c.in-Some.ensures.0; types = c.in-Some.ensures.1 }) c.nodes.invariant
