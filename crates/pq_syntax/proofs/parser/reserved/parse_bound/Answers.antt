use Rattle.std.proofs.Common.{sym, ◌∙◌}
use Rattle.pq_syntax.proofs.Bounds.{bound_signed, bound_unsigned, bound_fails_at_sign, bound_fails_behind_sign, bound_fails_unsigned}
use Rattle.pq_syntax.proofs.Failing.{fails_on}
use Rattle.pq_syntax.proofs.parser.reserved.parse_bound.Goals as goal

pub returns-in_err-rest-clause-fault : goal.returns-in_err-rest-clause-fault
returns-in_err-rest-clause-fault c =
    fails_on _ _ _ c.from_residual.ensures.1 (bound_fails_at_sign _ (sym c.looks_at_sign.ensures ∙ c.if-looks_at_sign.true) c.in_err-rest.ensures.fault)

pub returns-in_err-number-clause-fault : goal.returns-in_err-number-clause-fault
returns-in_err-number-clause-fault c =
    fails_on _ _ _ c.from_residual-in_err-number.ensures.1 (bound_fails_behind_sign _ (sym c.looks_at_sign.ensures ∙ c.if-looks_at_sign.true) c.in_ok-rest.ensures.taken c.in_err-number.ensures.fault)

pub returns-then-looks_at_sign-clause-taken : goal.returns-then-looks_at_sign-clause-taken
returns-then-looks_at_sign-clause-taken c =
    bound_signed _ (sym c.looks_at_sign.ensures ∙ c.if-looks_at_sign.true) c.in_ok-rest.ensures.taken c.in_ok-number.ensures.taken
    c.read_number-value.ensures c.across.ensures

pub returns-in_err-number-2-clause-fault : goal.returns-in_err-number-2-clause-fault
returns-in_err-number-2-clause-fault c =
    fails_on _ _ _ c.from_residual-in_err-number-2.ensures.1 (bound_fails_unsigned _ (sym c.looks_at_sign.ensures ∙ c.if-looks_at_sign.false) c.in_err-number-2.ensures.fault)

pub returns-clause-taken : goal.returns-clause-taken
returns-clause-taken c = bound_unsigned _ (sym c.looks_at_sign.ensures ∙ c.if-looks_at_sign.false) c.in_ok-number-2.ensures.taken c.read_number.ensures
