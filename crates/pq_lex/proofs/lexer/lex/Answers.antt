use Rattle.std.proofs.Common.{sym, ap, ◌∙◌, arith, length, is_ok, Some, None}
use Rattle.std.proofs.ResultArms.{chosen}
use Rattle.pq_lex.specs.declared.token.Step.TheVariants.{Pass, Take, Stop}
use Rattle.pq_lex.proofs.Readings.{step_found, finish, fault, pass_on, take_on, further_pass, further_take, only}
use Rattle.pq_lex.proofs.lexer.lex.Goals as goal

pub loop-from-smaller-in-Pass : goal.loop-from-smaller-in-Pass
loop-from-smaller-in-Pass c =
    let e = c.as_bytes-bytes.ensures.value in
    let s = step_found _ _ c.loop-from.from (Pass c.in-Pass.end) e c.loop-from-test.true (sym c.step_at.ensures ∙ c.in-Pass.is) in
    let h = further_pass _ c.loop-from.from c.loop-from.tokens.items c.loop-from.invariant c.in-Pass.end s in
    omega (arith, h, ap length e, c.loop-from-test.true)

pub loop-from-preserved-in-Pass : goal.loop-from-preserved-in-Pass
loop-from-preserved-in-Pass c = pass_on _ c.loop-from.from c.loop-from.tokens.items c.loop-from.invariant c.in-Pass.end (step_found _ _ c.loop-from.from (Pass c.in-Pass.end) c.as_bytes-bytes.ensures.value c.loop-from-test.true (sym c.step_at.ensures ∙ c.in-Pass.is))

pub loop-from-smaller : goal.loop-from-smaller
loop-from-smaller c =
    let e = c.as_bytes-bytes.ensures.value in
    let s = step_found _ _ c.loop-from.from (Take c.in-Take.kind c.in-Take.end) e c.loop-from-test.true (sym c.step_at.ensures ∙ c.in-Take.is) in
    let h = further_take _ c.loop-from.from c.loop-from.tokens.items c.loop-from.invariant c.in-Take.kind c.in-Take.end s in
    omega (arith, h, ap length e, c.loop-from-test.true)

pub loop-from-preserved : goal.loop-from-preserved
loop-from-preserved c =
    let next = take_on _ c.loop-from.from c.loop-from.tokens.items c.loop-from.invariant c.in-Take.kind c.in-Take.end (step_found _ _ c.loop-from.from (Take c.in-Take.kind c.in-Take.end) c.as_bytes-bytes.ensures.value c.loop-from-test.true (sym c.step_at.ensures ∙ c.in-Take.is)) in
    rw (chosen _ _ _ _ c.push.ensures.items (ap is_ok c.in_ok-push-in-Take.was)) next

pub returns-in-Stop-clause-lexes : goal.returns-in-Stop-clause-lexes
returns-in-Stop-clause-lexes c =
    let e = c.as_bytes-bytes.ensures.value in
    fault _ c.loop-from.from c.loop-from.tokens.items c.loop-from.invariant c.in-Stop.span c.in-Stop.code (omega (arith, ap length e, c.loop-from-test.true))
    (step_found _ _ c.loop-from.from (Stop c.in-Stop.span c.in-Stop.code) e c.loop-from-test.true (sym c.step_at.ensures ∙ c.in-Stop.is))

pub returns-in-Stop-clause-exact : goal.returns-in-Stop-clause-exact
returns-in-Stop-clause-exact c =
    let e = c.as_bytes-bytes.ensures.value in
    only _ c.loop-from.tokens.items (Some (c.in-Stop.span, c.in-Stop.code)) (fault _ c.loop-from.from c.loop-from.tokens.items c.loop-from.invariant c.in-Stop.span c.in-Stop.code (omega (arith, ap length e, c.loop-from-test.true))
    (step_found _ _ c.loop-from.from (Stop c.in-Stop.span c.in-Stop.code) e c.loop-from-test.true (sym c.step_at.ensures ∙ c.in-Stop.is)))

pub returns-clause-lexes : goal.returns-clause-lexes
returns-clause-lexes c = finish _ c.loop-from.from c.loop-from.tokens.items c.loop-from.invariant (omega (arith, ap length c.as_bytes-bytes.ensures.value, c.loop-from-test.false))

pub returns-clause-exact : goal.returns-clause-exact
returns-clause-exact c = only _ c.loop-from.tokens.items None (finish _ c.loop-from.from c.loop-from.tokens.items c.loop-from.invariant (omega (arith, ap length c.as_bytes-bytes.ensures.value, c.loop-from-test.false)))
