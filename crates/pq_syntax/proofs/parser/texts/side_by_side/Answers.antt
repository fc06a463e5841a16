use Rattle.std.proofs.Common.{arith}
use Rattle.pq_syntax.proofs.SideBySide.{next_goes}
use Rattle.pq_syntax.proofs.parser.texts.side_by_side.Goals as goal

pub loop-token-preserved : goal.loop-token-preserved
loop-token-preserved c = record {
  ordered = omega (arith, c.loop-token.invariant.ordered, c.if-token-end-2.false);
  goes = next_goes _ c.loop-token.end c.loop-token.token-index c.args.tokens.now _ c.loop-token-test.true c.if-token-end.false (omega (arith, c.if-token-end-2.false)) c.loop-token.invariant.goes;
}
