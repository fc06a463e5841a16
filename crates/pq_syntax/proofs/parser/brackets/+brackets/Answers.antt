use Rattle.std.proofs.Common.{◌≡◌, ◌-◌, suc, sym, ◌∙◌, arith}
use Rattle.pq_syntax.proofs.Rules.{takes_then}
use Rattle.pq_syntax.proofs.Shorter.{passes_shorter}
use Rattle.pq_syntax.proofs.Steps.{passes_first, passing_goes, passing_ends, adding_fails, fails_first, fails_token, fails_then}
use Rattle.pq_syntax.proofs.Choices.{entered_passes, entered_fails}
use Rattle.pq_syntax.proofs.Pairs.{passes_plain, enters_brace, enters_bracket, enters_parenthesis, none_deeper, none_nested}
use Rattle.pq_syntax.proofs.Failing.{fails_on}
use Rattle.pq_syntax.proofs.parser.brackets.+brackets.Goals as goal

pub skip_balanced-returns-in_err-after-clause-fault : goal.skip_balanced-returns-in_err-after-clause-fault
skip_balanced-returns-in_err-after-clause-fault t c =
    fails_on _ _ _ c.from_residual.ensures.1 (adding_fails c.loop-after.invariant c.in_err-after.ensures.fault)

pub skip_balanced-loop-after-smaller : goal.skip_balanced-loop-after-smaller
skip_balanced-loop-after-smaller t c = passes_shorter (rw c.in-Some.is at c.in_ok-after.ensures.taken)

pub skip_balanced-loop-after-preserved : goal.skip_balanced-loop-after-preserved
skip_balanced-loop-after-preserved t c = passing_goes c.loop-after.invariant (rw c.in-Some.is at c.in_ok-after.ensures.taken)

pub skip_balanced-returns-clause-taken : goal.skip_balanced-returns-clause-taken
skip_balanced-returns-clause-taken t c =
    let none = rw c.in_default.is at c.in_ok-after.ensures.none in
    passing_ends c.loop-after.invariant none

pub skip_nested-returns-then-looks_at-clause-taken : goal.skip_nested-returns-then-looks_at-clause-taken
skip_nested-returns-then-looks_at-clause-taken t c =
    let plain = sym c.looks_at.ensures ∙ c.if-looks_at.true in
    passes_plain _ _ _ plain _ (passes_first _ _ _ plain)

pub skip_nested-returns-then-levels-eq0-clause-none : goal.skip_nested-returns-then-levels-eq0-clause-none
skip_nested-returns-then-levels-eq0-clause-none t c = none_deeper _ _ (sym c.looks_at.ensures ∙ c.if-looks_at.false) _ c.if-levels-eq0.true

pub skip_nested-returns-in_err-rest-clause-fault : goal.skip_nested-returns-in_err-rest-clause-fault
skip_nested-returns-in_err-rest-clause-fault t c =
    let more : c.args.levels ≡ suc (c.args.levels - 1) = omega (arith, c.if-levels-eq0.false) in
    fails_on _ _ _ c.from_residual.ensures.1 (entered_fails (enters_brace _ _ (sym c.looks_at.ensures ∙ c.if-looks_at.false) _ _ more
    (sym c.looks_at-2.ensures ∙ c.if-looks_at-2.true)) c.in_err-rest.ensures.fault)

pub skip_nested-returns-then-looks_at-2-clause-taken : goal.skip_nested-returns-then-looks_at-2-clause-taken
skip_nested-returns-then-looks_at-2-clause-taken t c =
    let more : c.args.levels ≡ suc (c.args.levels - 1) = omega (arith, c.if-levels-eq0.false) in
    entered_passes (enters_brace _ _ (sym c.looks_at.ensures ∙ c.if-looks_at.false) _ _ more (sym c.looks_at-2.ensures ∙ c.if-looks_at-2.true)) c.in_ok-rest.ensures.taken

pub skip_nested-returns-in_err-rest-2-clause-fault : goal.skip_nested-returns-in_err-rest-2-clause-fault
skip_nested-returns-in_err-rest-2-clause-fault t c =
    let more : c.args.levels ≡ suc (c.args.levels - 1) = omega (arith, c.if-levels-eq0.false) in
    fails_on _ _ _ c.from_residual-in_err-rest-2.ensures.1 (entered_fails (enters_bracket _ _ (sym c.looks_at.ensures ∙ c.if-looks_at.false) _ _ more
    (sym c.looks_at-2.ensures ∙ c.if-looks_at-2.false) (sym c.looks_at-3.ensures ∙ c.if-looks_at-3.true)) c.in_err-rest-2.ensures.fault)

pub skip_nested-returns-then-looks_at-3-clause-taken : goal.skip_nested-returns-then-looks_at-3-clause-taken
skip_nested-returns-then-looks_at-3-clause-taken t c =
    let more : c.args.levels ≡ suc (c.args.levels - 1) = omega (arith, c.if-levels-eq0.false) in
    entered_passes (enters_bracket _ _ (sym c.looks_at.ensures ∙ c.if-looks_at.false) _ _ more (sym c.looks_at-2.ensures ∙ c.if-looks_at-2.false)
    (sym c.looks_at-3.ensures ∙ c.if-looks_at-3.true)) c.in_ok-rest-2.ensures.taken

pub skip_nested-returns-in_err-rest-3-clause-fault : goal.skip_nested-returns-in_err-rest-3-clause-fault
skip_nested-returns-in_err-rest-3-clause-fault t c =
    let more : c.args.levels ≡ suc (c.args.levels - 1) = omega (arith, c.if-levels-eq0.false) in
    fails_on _ _ _ c.from_residual-in_err-rest-3.ensures.1 (entered_fails (enters_parenthesis _ _ (sym c.looks_at.ensures ∙ c.if-looks_at.false) _ _ more
    (sym c.looks_at-2.ensures ∙ c.if-looks_at-2.false) (sym c.looks_at-3.ensures ∙ c.if-looks_at-3.false)
    (sym c.looks_at-4.ensures ∙ c.if-looks_at-4.true)) c.in_err-rest-3.ensures.fault)

pub skip_nested-returns-then-looks_at-4-clause-taken : goal.skip_nested-returns-then-looks_at-4-clause-taken
skip_nested-returns-then-looks_at-4-clause-taken t c =
    let more : c.args.levels ≡ suc (c.args.levels - 1) = omega (arith, c.if-levels-eq0.false) in
    entered_passes (enters_parenthesis _ _ (sym c.looks_at.ensures ∙ c.if-looks_at.false) _ _ more (sym c.looks_at-2.ensures ∙ c.if-looks_at-2.false)
    (sym c.looks_at-3.ensures ∙ c.if-looks_at-3.false) (sym c.looks_at-4.ensures ∙ c.if-looks_at-4.true)) c.in_ok-rest-3.ensures.taken

pub skip_nested-returns-clause-none : goal.skip_nested-returns-clause-none
skip_nested-returns-clause-none t c =
    let more : c.args.levels ≡ suc (c.args.levels - 1) = omega (arith, c.if-levels-eq0.false) in
    none_nested _ _ (sym c.looks_at.ensures ∙ c.if-looks_at.false) _ _ more (sym c.looks_at-2.ensures ∙ c.if-looks_at-2.false)
    (sym c.looks_at-3.ensures ∙ c.if-looks_at-3.false) (sym c.looks_at-4.ensures ∙ c.if-looks_at-4.false)

pub skip_pair-returns-in_err-rest-clause-fault : goal.skip_pair-returns-in_err-rest-clause-fault
skip_pair-returns-in_err-rest-clause-fault t c = fails_on _ _ _ c.from_residual.ensures.1 (fails_first c.in_err-rest.ensures.fault)

pub skip_pair-returns-in_err-rest-2-clause-fault : goal.skip_pair-returns-in_err-rest-2-clause-fault
skip_pair-returns-in_err-rest-2-clause-fault t c =
    fails_on _ _ _ c.from_residual-in_err-rest-2.ensures.1 (fails_token c.in_ok-rest.ensures.taken (fails_first c.in_err-rest-2.ensures.fault))

pub skip_pair-returns-in_err-rest-3-clause-fault : goal.skip_pair-returns-in_err-rest-3-clause-fault
skip_pair-returns-in_err-rest-3-clause-fault t c =
    fails_on _ _ _ c.from_residual-in_err-rest-3.ensures.1 (fails_token c.in_ok-rest.ensures.taken (fails_then c.in_ok-rest-2.ensures.taken c.in_err-rest-3.ensures.fault))

pub skip_pair-returns-clause-taken : goal.skip_pair-returns-clause-taken
skip_pair-returns-clause-taken t c = record {
  parse = _;
  takes = takes_then c.in_ok-rest.ensures.taken.takes (takes_then c.in_ok-rest-2.ensures.taken.takes c.in_ok-rest-3.ensures.taken.takes);
}
