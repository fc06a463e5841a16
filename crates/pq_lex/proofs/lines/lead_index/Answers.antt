use Rattle.std.proofs.Common.{◌∙◌, sym, arith}
use Rattle.pq_lex.proofs.UnitLemmas.{lead_none, lead_on, lead_stop}
use Rattle.pq_lex.proofs.lines.lead_index.Goals as goal

pub loop-first-preserved : goal.loop-first-preserved
loop-first-preserved c = record {
  within = omega (arith, c.loop-first.invariant.within);
  is = c.loop-first.invariant.is ∙ lead_on c.args.units.now c.loop-first.first c.loop-first-test.true c.if-first-units.true c.if-units-first-eq0.true;
}

pub returns-else-units-first-eq0-clause-is : goal.returns-else-units-first-eq0-clause-is
returns-else-units-first-eq0-clause-is c = sym (c.loop-first.invariant.is ∙ lead_stop c.args.units.now c.loop-first.first (λ _. c.if-units-first-eq0.false))

pub returns-else-first-units-clause-is : goal.returns-else-first-units-clause-is
returns-else-first-units-clause-is c = sym (c.loop-first.invariant.is ∙ lead_stop c.args.units.now c.loop-first.first (λ h _. omega (arith, h, c.if-first-units.false)))

pub returns-after-loop-first-clause-is : goal.returns-after-loop-first-clause-is
returns-after-loop-first-clause-is c = sym (c.loop-first.invariant.is ∙ lead_none c.args.units.now c.loop-first.first c.loop-first-test.false)
