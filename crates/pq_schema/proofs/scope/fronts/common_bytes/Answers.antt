use Rattle.std.proofs.Common.{arith}
use Rattle.pq_schema.proofs.CommonFronts.{both_byte, both_none}
use Rattle.pq_schema.proofs.scope.fronts.common_bytes.Goals as goal

pub bytes-init : goal.bytes-init
bytes-init c = both_none c.args.a.now c.args.b.now

pub bytes-preserved : goal.bytes-preserved
bytes-preserved c =
    both_byte c.bytes.at c.args.a.now c.args.b.now 0 0 (omega (arith, c.bytes-test.true, c.lesser-most.ensures.first)) (omega (arith, c.bytes-test.true, c.lesser-most.ensures.second)) c.if-a-at.false
    c.bytes.invariant
