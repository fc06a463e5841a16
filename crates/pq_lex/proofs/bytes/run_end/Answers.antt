use Rattle.std.proofs.Common.{◌∙◌, sym, arith}
use Rattle.pq_lex.proofs.RunLemmas.{run_one}
use Rattle.pq_lex.proofs.bytes.run_end.Goals as goal

pub returns-else-in_set-clause-end : goal.returns-else-in_set-clause-end
returns-else-in_set-clause-end c = run_one c.args.set c.args.bytes.now c.args.from _ (record { ordered = c.loop-at.invariant.ordered; within = c.loop-at.invariant.within; all = c.loop-at.invariant.all }) (λ h. sym c.in_set.ensures ∙ c.if-in_set.false)

pub returns-after-loop-at-clause-end : goal.returns-after-loop-at-clause-end
returns-after-loop-at-clause-end c = run_one c.args.set c.args.bytes.now c.args.from _ (record { ordered = c.loop-at.invariant.ordered; within = c.loop-at.invariant.within; all = c.loop-at.invariant.all }) (λ h. absurd (omega (arith, h)))
