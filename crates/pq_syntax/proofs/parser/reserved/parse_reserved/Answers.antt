use Rattle.std.proofs.Common.{sym, ◌∙◌}
use Rattle.pq_syntax.proofs.Reserving.{reserved_fails_numbers, reserved_fails_past_numbers, reserved_fails_names, reserved_fails_past_names, reserved_numbers, reserved_names}
use Rattle.pq_syntax.proofs.Steps.{fails_first}
use Rattle.pq_syntax.proofs.Failing.{fails_on}
use Rattle.pq_syntax.proofs.parser.reserved.parse_reserved.Goals as goal

pub returns-in_err-rest-clause-fault : goal.returns-in_err-rest-clause-fault
returns-in_err-rest-clause-fault c = fails_on _ _ _ c.from_residual.ensures.1 (fails_first c.in_err-rest.ensures.fault)

pub returns-in_err-ranges-clause-fault : goal.returns-in_err-ranges-clause-fault
returns-in_err-ranges-clause-fault c =
    fails_on _ _ _ c.from_residual-in_err-ranges.ensures.1 (reserved_fails_numbers _ c.in_ok-rest.ensures.taken (sym c.looks_at_bound.ensures ∙ c.if-looks_at_bound.true) c.in_err-ranges.ensures.fault)

pub returns-in_err-rest-2-clause-fault : goal.returns-in_err-rest-2-clause-fault
returns-in_err-rest-2-clause-fault c =
    fails_on _ _ _ c.from_residual-in_err-rest-2.ensures.1 (reserved_fails_past_numbers _ c.in_ok-rest.ensures.taken (sym c.looks_at_bound.ensures ∙ c.if-looks_at_bound.true)
    c.in_ok-ranges.ensures.taken c.in_err-rest-2.ensures.fault)

pub returns-then-looks_at_bound-clause-taken : goal.returns-then-looks_at_bound-clause-taken
returns-then-looks_at_bound-clause-taken c =
    reserved_numbers _ c.in_ok-rest.ensures.taken _ (sym c.looks_at_bound.ensures ∙ c.if-looks_at_bound.true) c.in_ok-ranges.ensures.taken
    c.in_ok-rest-2.ensures.taken c.in_ok-push_node.ensures

pub returns-in_err-names-clause-fault : goal.returns-in_err-names-clause-fault
returns-in_err-names-clause-fault c =
    fails_on _ _ _ c.from_residual-in_err-names.ensures.1 (reserved_fails_names _ c.in_ok-rest.ensures.taken (sym c.looks_at_bound.ensures ∙ c.if-looks_at_bound.false) c.in_err-names.ensures.fault)

pub returns-in_err-rest-3-clause-fault : goal.returns-in_err-rest-3-clause-fault
returns-in_err-rest-3-clause-fault c =
    fails_on _ _ _ c.from_residual-in_err-rest-3.ensures.1 (reserved_fails_past_names _ c.in_ok-rest.ensures.taken (sym c.looks_at_bound.ensures ∙ c.if-looks_at_bound.false)
    c.in_ok-names.ensures.taken c.in_err-rest-3.ensures.fault)

pub returns-clause-taken : goal.returns-clause-taken
returns-clause-taken c =
    reserved_names _ c.in_ok-rest.ensures.taken _ (sym c.looks_at_bound.ensures ∙ c.if-looks_at_bound.false) c.in_ok-names.ensures.taken
    c.in_ok-rest-3.ensures.taken c.in_ok-push_node-2.ensures
