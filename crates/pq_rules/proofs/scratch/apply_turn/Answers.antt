use Rattle.std.proofs.Common.{arith, ◌<◌, ◌^◌}
use Rattle.std.proofs.lemmas.Result.{IfOk-weaker}
use Rattle.pq_rules.specs.Turns.{over}
use Rattle.pq_rules.specs.aux.AnswerTable.{finished}
use Rattle.pq_rules.proofs.Applying.{applies_ask, applies_done}
use Rattle.pq_rules.proofs.scratch.apply_turn.Goals as goal

pub returns-in-Ask-clause-applied : goal.returns-in-Ask-clause-applied
returns-in-Ask-clause-applied g c =
    let high : c.left-left.result.0 < 2 ^ 32 = omega arith in
    let low : c.left-left.result.1 < 2 ^ 64 = omega arith in
    IfOk-weaker c.push.result _ _ (λ _ pushed files.
    applies_ask (over g.R.Key.Ord.cmp (g.R.Rules.machine c.args.rules.now) files) c.args.key c.args.turn c.in-Ask.asked c.in-Ask.part
    (finished c.args.found.now) c.args.stack.now.items c.push.new.items.items (c.left-left.result.0, c.left-left.result.1)
    c.in-Ask.is c.left-left.ensures.left high low pushed) c.push.ensures.added

pub returns-in-Done-clause-applied : goal.returns-in-Done-clause-applied
returns-in-Done-clause-applied g c =
    IfOk-weaker c.finish.result _ _ (λ _ covers files.
    applies_done (over g.R.Key.Ord.cmp (g.R.Rules.machine c.args.rules.now) files) c.args.key c.args.turn c.in-Done.value
    (finished c.args.found.now) (finished c.finish.new.found) c.args.stack.now.items c.in-Done.is covers) c.finish.ensures.given
