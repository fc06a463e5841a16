use Rattle.std.proofs.Common.{sym, ◌∙◌}
use Rattle.pq_syntax.proofs.Bounds.{ends_alone, ends_at_bound, ends_at_max, end_fails_at_to, end_fails_at_bound, end_fails_at_max}
use Rattle.pq_syntax.proofs.Failing.{fails_on}
use Rattle.pq_syntax.proofs.parser.reserved.parse_range_end.Goals as goal

pub returns-then-not-looks_at-clause-taken : goal.returns-then-not-looks_at-clause-taken
returns-then-not-looks_at-clause-taken c = ends_alone _ _ _ (sym c.looks_at.ensures ∙ c.if-not-looks_at.true)

pub returns-in_err-rest-clause-fault : goal.returns-in_err-rest-clause-fault
returns-in_err-rest-clause-fault c =
    fails_on _ _ _ c.from_residual.ensures.1 (end_fails_at_to _ _ _ _ (sym c.looks_at.ensures ∙ c.if-not-looks_at.false) c.in_err-rest.ensures.fault)

pub returns-in_err-last-clause-fault : goal.returns-in_err-last-clause-fault
returns-in_err-last-clause-fault c =
    fails_on _ _ _ c.from_residual-in_err-last.ensures.1 (end_fails_at_bound _ (sym c.looks_at.ensures ∙ c.if-not-looks_at.false) c.in_ok-rest.ensures.taken
    (sym c.looks_at_bound.ensures ∙ c.if-looks_at_bound.true) c.in_err-last.ensures.fault)

pub returns-then-looks_at_bound-clause-taken : goal.returns-then-looks_at_bound-clause-taken
returns-then-looks_at_bound-clause-taken c =
    ends_at_bound _ (sym c.looks_at.ensures ∙ c.if-not-looks_at.false) c.in_ok-rest.ensures.taken
    (sym c.looks_at_bound.ensures ∙ c.if-looks_at_bound.true) c.in_ok-last.ensures.taken

pub returns-in_err-rest-2-clause-fault : goal.returns-in_err-rest-2-clause-fault
returns-in_err-rest-2-clause-fault c =
    fails_on _ _ _ c.from_residual-in_err-rest-2.ensures.1 (end_fails_at_max _ (sym c.looks_at.ensures ∙ c.if-not-looks_at.false) c.in_ok-rest.ensures.taken
    (sym c.looks_at_bound.ensures ∙ c.if-looks_at_bound.false) c.in_err-rest-2.ensures.fault)

pub returns-clause-taken : goal.returns-clause-taken
returns-clause-taken c =
    ends_at_max _ (sym c.looks_at.ensures ∙ c.if-not-looks_at.false) c.in_ok-rest.ensures.taken
    (sym c.looks_at_bound.ensures ∙ c.if-looks_at_bound.false) c.in_ok-rest-2.ensures.taken
