use Rattle.std.proofs.Common.{sym, ap, ◌∙◌, arith, length, is_ok, ℕ, get_or}
use Rattle.std.proofs.ResultArms.{chosen}
use Rattle.pq_lex.specs.Tokens.{is_plain}
use Rattle.pq_lex.proofs.EscapeLemmas.{escape_further}
use Rattle.pq_lex.proofs.ValueSteps.{escape_adds, plain_adds, no_escape, no_more, value_end, value_begins, adds_on, all_added}
use Rattle.pq_lex.proofs.values.text_value_of.Goals as goal

pub loop-at-init : goal.loop-at-init
loop-at-init c = record { fuel = length c.args.word.now; enough = omega arith; goes = rw c.in_ok-value.ensures.items (value_begins c.args.word.now) }

pub returns-in_default : goal.returns-in_default
returns-in_default c = all_added _ _ _ c.loop-at.invariant.goes (no_escape c.args.word.now c.loop-at.at c.loop-at.invariant.fuel c.if-b-eq92.true (sym c.escape_at.ensures ∙ c.in_default.is))

pub loop-at-smaller-then-b-eq92 : goal.loop-at-smaller-then-b-eq92
loop-at-smaller-then-b-eq92 c = omega (arith, escape_further c.args.word.now c.loop-at.at c.in-Some.escape (sym c.escape_at.ensures ∙ c.in-Some.is))

pub loop-at-preserved-then-b-eq92 : goal.loop-at-preserved-then-b-eq92
loop-at-preserved-then-b-eq92 c =
    let g = escape_adds c.args.word.now c.loop-at.at c.loop-at-test.true c.loop-at.invariant.fuel c.loop-at.invariant.enough c.if-b-eq92.true c.in-Some.escape (sym c.escape_at.ensures ∙ c.in-Some.is) in
    record { fuel = g.less; enough = g.enough; goes = rw c.in_ok-push_meaning.ensures (adds_on _ _ _ _ _ c.loop-at.invariant.goes g.same) }

pub loop-at-preserved : goal.loop-at-preserved
loop-at-preserved c =
    let b = get_or c.args.word.now c.loop-at.at 0 in
    let p = ap (λ (q : ℕ). is_plain q b) (sym c.byte_at-quote.ensures) ∙ sym c.is_plain.ensures ∙ c.if-is_plain.true in
    let g = plain_adds c.args.word.now c.loop-at.at c.loop-at-test.true c.loop-at.invariant.fuel c.loop-at.invariant.enough p in
    record { fuel = g.less; enough = g.enough; goes = rw (chosen _ _ _ _ c.push.ensures.items (ap is_ok c.in_ok-push.was)) (adds_on _ _ _ _ _ c.loop-at.invariant.goes g.same) }

pub returns-else-is_plain : goal.returns-else-is_plain
returns-else-is_plain c =
    let b = get_or c.args.word.now c.loop-at.at 0 in
    let p = ap (λ (q : ℕ). is_plain q b) (sym c.byte_at-quote.ensures) ∙ sym c.is_plain.ensures ∙ c.if-is_plain.false in
    all_added _ _ _ c.loop-at.invariant.goes (no_more c.args.word.now c.loop-at.at c.loop-at.invariant.fuel c.if-b-eq92.false p)

pub returns : goal.returns
returns c = all_added _ _ _ c.loop-at.invariant.goes (value_end c.args.word.now c.loop-at.at c.loop-at.invariant.fuel c.loop-at-test.false)
