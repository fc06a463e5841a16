use Rattle.std.proofs.Common.{refl, sym, ◌∙◌}
use Rattle.pq_syntax.proofs.Choices.{chosen_fails, chosen_reads}
use Rattle.pq_syntax.proofs.Steps.{token_passes}
use Rattle.pq_syntax.proofs.ConstantKinds.{unsigned_whole, unsigned_real, unsigned_not_finite}
use Rattle.pq_syntax.proofs.Failing.{fails_on}
use Rattle.pq_syntax.proofs.parser.constants.skip_unsigned.Goals as goal

pub returns-in_err-rest-clause-fault : goal.returns-in_err-rest-clause-fault
returns-in_err-rest-clause-fault c =
    fails_on _ _ _ c.from_residual.ensures.1 (chosen_fails (unsigned_whole (sym c.looks_at.ensures ∙ c.if-looks_at.true)) c.in_err-rest.ensures.fault)

pub returns-then-looks_at-clause-taken : goal.returns-then-looks_at-clause-taken
returns-then-looks_at-clause-taken c = chosen_reads (unsigned_whole (sym c.looks_at.ensures ∙ c.if-looks_at.true)) (token_passes c.in_ok-rest.ensures.taken) (λ p. refl)

pub returns-in_err-rest-2-clause-fault : goal.returns-in_err-rest-2-clause-fault
returns-in_err-rest-2-clause-fault c =
    fails_on _ _ _ c.from_residual-in_err-rest-2.ensures.1 (chosen_fails (unsigned_real (sym c.looks_at.ensures ∙ c.if-looks_at.false) (sym c.looks_at-2.ensures ∙ c.if-looks_at-2.true)) c.in_err-rest-2.ensures.fault)

pub returns-then-looks_at-2-clause-taken : goal.returns-then-looks_at-2-clause-taken
returns-then-looks_at-2-clause-taken c =
    chosen_reads (unsigned_real (sym c.looks_at.ensures ∙ c.if-looks_at.false) (sym c.looks_at-2.ensures ∙ c.if-looks_at-2.true))
    (token_passes c.in_ok-rest-2.ensures.taken) (λ p. refl)

pub returns-in_err-rest-3-clause-fault : goal.returns-in_err-rest-3-clause-fault
returns-in_err-rest-3-clause-fault c =
    fails_on _ _ _ c.from_residual-in_err-rest-3.ensures.1 (chosen_fails (unsigned_not_finite (sym c.looks_at.ensures ∙ c.if-looks_at.false)
    (sym c.looks_at-2.ensures ∙ c.if-looks_at-2.false)) c.in_err-rest-3.ensures.fault)

pub returns-clause-taken : goal.returns-clause-taken
returns-clause-taken c =
    chosen_reads (unsigned_not_finite (sym c.looks_at.ensures ∙ c.if-looks_at.false) (sym c.looks_at-2.ensures ∙ c.if-looks_at-2.false))
    (token_passes c.in_ok-rest-3.ensures.taken) (λ p. refl)
