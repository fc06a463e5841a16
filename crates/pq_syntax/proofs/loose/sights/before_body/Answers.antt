use Rattle.std.proofs.Common.{sym, ◌∙◌, arith}
use Rattle.pq_syntax.proofs.LooseWords.{head_goes, head_stops, head_ends}
use Rattle.pq_syntax.proofs.loose.sights.before_body.Goals as goal

pub head-preserved : goal.head-preserved
head-preserved c =
    let e = head_goes c.args.text.now c.args.tokens.now c.head.end _ c.head-test.true (sym c.ends_head.ensures ∙ c.if-not-ends_head.true) in
    omega (arith, e, c.head.invariant)

pub returns-else-not-ends_head : goal.returns-else-not-ends_head
returns-else-not-ends_head c =
    let e = head_stops c.args.text.now c.args.tokens.now c.head.end _ c.head-test.true (sym c.ends_head.ensures ∙ c.if-not-ends_head.false) in
    omega (arith, e, c.head.invariant)

pub returns-after-head : goal.returns-after-head
returns-after-head c =
    let e = head_ends c.args.text.now c.args.tokens.now c.head.end c.head-test.false in
    omega (arith, e, c.head.invariant)
