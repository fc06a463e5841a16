use Rattle.std.proofs.Common.{refl, sym, ◌∙◌}
use Rattle.pq_syntax.proofs.OptionParts.{part_named, part_enclosed}
use Rattle.pq_syntax.proofs.Steps.{fails_first, fails_token, fails_then, fails_left, fails_right}
use Rattle.pq_syntax.proofs.Failing.{fails_on}
use Rattle.pq_syntax.proofs.parser.options.parse_part.Goals as goal

pub returns-in_err-rest-clause-fault : goal.returns-in_err-rest-clause-fault
returns-in_err-rest-clause-fault c =
    fails_on _ _ _ c.from_residual.ensures.1 (fails_left (sym c.looks_at.ensures ∙ c.if-looks_at.true) c.in_err-rest.ensures.fault)

pub returns-then-looks_at-clause-taken : goal.returns-then-looks_at-clause-taken
returns-then-looks_at-clause-taken c = part_named (sym c.looks_at.ensures ∙ c.if-looks_at.true) c.in_ok-rest.ensures.taken c.in_ok-read_joined.ensures c.across.ensures

pub returns-in_err-name-clause-fault : goal.returns-in_err-name-clause-fault
returns-in_err-name-clause-fault c =
    fails_on _ _ _ c.from_residual-in_err-name.ensures.1 (fails_right (sym c.looks_at.ensures ∙ c.if-looks_at.false) refl (fails_first c.in_err-name.ensures.fault))

pub returns-in_err-close-clause-fault : goal.returns-in_err-close-clause-fault
returns-in_err-close-clause-fault c =
    fails_on _ _ _ c.from_residual-in_err-close.ensures.1 (fails_right (sym c.looks_at.ensures ∙ c.if-looks_at.false) refl (fails_token c.in_ok-name.ensures.taken (fails_first c.in_err-close.ensures.fault)))

pub returns-in_err-rest-2-clause-fault : goal.returns-in_err-rest-2-clause-fault
returns-in_err-rest-2-clause-fault c =
    fails_on _ _ _ c.from_residual-in_err-rest-2.ensures.1 (fails_right (sym c.looks_at.ensures ∙ c.if-looks_at.false) refl
    (fails_token c.in_ok-name.ensures.taken (fails_then c.in_ok-close.ensures.taken c.in_err-rest-2.ensures.fault)))

pub returns-clause-taken : goal.returns-clause-taken
returns-clause-taken c =
    part_enclosed (sym c.looks_at.ensures ∙ c.if-looks_at.false) c.in_ok-name.ensures.taken c.in_ok-close.ensures.taken c.in_ok-rest-2.ensures.taken
    c.in_ok-read_joined-2.ensures c.across-2.ensures
