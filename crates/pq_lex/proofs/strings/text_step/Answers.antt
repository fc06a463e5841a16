use Rattle.std.proofs.Common.{◌∙◌, sym, arith, length, refl, get_or, subst}
use Rattle.std.proofs.lemmas.Bool.{eq-eqb, ne_eqb}
use Rattle.pq_lex.proofs.EscapeLemmas.{escape_further}
use Rattle.pq_lex.proofs.StringRuns.{plain_run_goes}
use Rattle.pq_lex.proofs.StringSteps.{Goes, closes_here, bad_here, open_here, escape_goes, open_at_end}
use Rattle.pq_lex.proofs.strings.text_step.Goals as goal

pub loop-at-init : goal.loop-at-init
loop-at-init c = record { fuel = length c.args.bytes.now; enough = omega arith; goes = refl }

pub loop-at-preserved-then-is_plain : goal.loop-at-preserved-then-is_plain
loop-at-preserved-then-is_plain c =
    let quote = get_or c.args.bytes.now c.args.start 0 in
    let g = plain_run_goes quote c.args.start c.args.bytes.now c.requires.quoted c.loop-at.at c.loop-at.invariant.fuel c.loop-at-test.true c.loop-at.invariant.enough (sym c.is_plain.ensures ∙ c.if-is_plain.true) in
    let moved : Goes c.loop-at.invariant.fuel quote c.args.start c.args.bytes.now c.loop-at.at c.run_end-at.result = subst (Goes c.loop-at.invariant.fuel quote c.args.start c.args.bytes.now c.loop-at.at) (sym c.run_end-at.ensures.end) g in
    record { fuel = moved.less; enough = moved.enough; goes = c.loop-at.invariant.goes ∙ moved.same }

pub returns-then-b-quote : goal.returns-then-b-quote
returns-then-b-quote c = sym (c.loop-at.invariant.goes ∙ closes_here _ c.args.start c.args.bytes.now c.loop-at.at c.loop-at-test.true c.loop-at.invariant.fuel c.loop-at.invariant.enough c.if-b-quote.true)

pub returns-in_default : goal.returns-in_default
returns-in_default c = sym (c.loop-at.invariant.goes ∙ bad_here _ c.args.start c.args.bytes.now c.loop-at.at c.loop-at-test.true c.loop-at.invariant.fuel c.loop-at.invariant.enough (ne_eqb _ _ c.if-b-quote.false) (eq-eqb _ _ c.if-b-eq92.true) (sym c.escape_at.ensures ∙ c.in_default.is))

pub loop-at-smaller : goal.loop-at-smaller
loop-at-smaller c = omega (arith, escape_further c.args.bytes.now c.loop-at.at c.in-Some.escape (sym c.escape_at.ensures ∙ c.in-Some.is))

pub loop-at-preserved : goal.loop-at-preserved
loop-at-preserved c =
    let g = escape_goes (get_or c.args.bytes.now c.args.start 0) c.args.start c.args.bytes.now c.loop-at.at c.loop-at-test.true c.loop-at.invariant.fuel c.loop-at.invariant.enough (ne_eqb _ _ c.if-b-quote.false) (eq-eqb _ _ c.if-b-eq92.true) c.in-Some.escape (sym c.escape_at.ensures ∙ c.in-Some.is) in
    record { fuel = g.less; enough = g.enough; goes = c.loop-at.invariant.goes ∙ g.same }

pub returns-else-b-eq92 : goal.returns-else-b-eq92
returns-else-b-eq92 c = sym (c.loop-at.invariant.goes ∙ open_here _ c.args.start c.args.bytes.now c.loop-at.at c.loop-at-test.true c.loop-at.invariant.fuel c.loop-at.invariant.enough (ne_eqb _ _ c.if-b-quote.false) (ne_eqb _ _ c.if-b-eq92.false) (sym c.is_plain.ensures ∙ c.if-is_plain.false))

pub returns : goal.returns
returns c = sym (c.loop-at.invariant.goes ∙ open_at_end _ c.args.start c.args.bytes.now c.loop-at.at c.loop-at.invariant.fuel c.requires.quoted c.loop-at-test.false)
