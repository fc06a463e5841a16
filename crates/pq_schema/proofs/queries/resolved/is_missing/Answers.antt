use Rattle.std.proofs.Common.{sym}
use Rattle.pq_schema.proofs.ResolvedRuns.{there_more, there_so_far}
use Rattle.pq_schema.proofs.queries.resolved.is_missing.Goals as goal

pub uses-preserved : goal.uses-preserved
uses-preserved c =
    there_more c.args.uses.now c.uses.one-index c.one-item.result c.is_nothing.result c.uses-test.true (sym c.one-item.is) c.is_nothing.ensures.is c.if-is_nothing.false c.uses.invariant

pub returns : goal.returns
returns c = record { there = λ _. there_so_far c.args.uses.now c.uses.one-index c.uses-test.false c.uses.invariant }
