use Rattle.std.proofs.Common.{refl, sym, ◌∙◌}
use Rattle.std.proofs.lemmas.Result.{IfOk-weaker, IfErr-weaker}
use Rattle.pq_syntax.proofs.Choices.{chosen_fails, chosen_reads}
use Rattle.pq_syntax.proofs.Steps.{token_passes}
use Rattle.pq_syntax.proofs.ConstantKinds.{chooses_name, minus_fails, minus_reads, minus_unread, plus_fails, plus_reads, plus_unread, chooses_whole, chooses_real, chooses_strings, chooses_block}
use Rattle.pq_syntax.proofs.Failing.{fails_on}
use Rattle.pq_syntax.proofs.parser.constants.skip_constant.Goals as goal

pub returns-in_err-skip_full-clause-fault : goal.returns-in_err-skip_full-clause-fault
returns-in_err-skip_full-clause-fault c =
    fails_on _ _ _ c.from_residual.ensures.1 (chosen_fails (chooses_name _ _ _ (sym c.looks_at.ensures ∙ c.if-looks_at.true)) c.in_err-skip_full.ensures.fault)

pub returns-then-looks_at-clause-taken : goal.returns-then-looks_at-clause-taken
returns-then-looks_at-clause-taken c = chosen_reads (chooses_name _ _ _ (sym c.looks_at.ensures ∙ c.if-looks_at.true)) c.in_ok-skip_full.ensures.taken (λ p. refl)

pub returns-in_err-rest-clause-fault : goal.returns-in_err-rest-clause-fault
returns-in_err-rest-clause-fault c =
    fails_on _ _ _ c.from_residual-in_err-rest.ensures.1 (minus_fails _ _ _ (sym c.looks_at.ensures ∙ c.if-looks_at.false) (sym c.looks_at-2.ensures ∙ c.if-looks_at-2.true) c.in_err-rest.ensures.fault)

pub returns-then-looks_at-2-clause-taken : goal.returns-then-looks_at-2-clause-taken
returns-then-looks_at-2-clause-taken c =
    IfOk-weaker _ _ _ (λ x r. minus_reads _ _ _ (sym c.looks_at.ensures ∙ c.if-looks_at.false) (sym c.looks_at-2.ensures ∙ c.if-looks_at-2.true)
    c.in_ok-rest.ensures.taken r) c.skip_unsigned.ensures.taken

pub returns-then-looks_at-2-clause-fault : goal.returns-then-looks_at-2-clause-fault
returns-then-looks_at-2-clause-fault c =
    IfErr-weaker _ _ _ (λ x f. minus_unread _ _ _ (sym c.looks_at.ensures ∙ c.if-looks_at.false) (sym c.looks_at-2.ensures ∙ c.if-looks_at-2.true)
    c.in_ok-rest.ensures.taken f) c.skip_unsigned.ensures.fault

pub returns-in_err-rest-2-clause-fault : goal.returns-in_err-rest-2-clause-fault
returns-in_err-rest-2-clause-fault c =
    fails_on _ _ _ c.from_residual-in_err-rest-2.ensures.1 (plus_fails _ _ _ (sym c.looks_at.ensures ∙ c.if-looks_at.false) (sym c.looks_at-2.ensures ∙ c.if-looks_at-2.false)
    (sym c.looks_at-3.ensures ∙ c.if-looks_at-3.true) c.in_err-rest-2.ensures.fault)

pub returns-then-looks_at-3-clause-taken : goal.returns-then-looks_at-3-clause-taken
returns-then-looks_at-3-clause-taken c =
    IfOk-weaker _ _ _ (λ x r. plus_reads _ _ _ (sym c.looks_at.ensures ∙ c.if-looks_at.false) (sym c.looks_at-2.ensures ∙ c.if-looks_at-2.false)
    (sym c.looks_at-3.ensures ∙ c.if-looks_at-3.true) c.in_ok-rest-2.ensures.taken r) c.skip_unsigned-then-looks_at-3.ensures.taken

pub returns-then-looks_at-3-clause-fault : goal.returns-then-looks_at-3-clause-fault
returns-then-looks_at-3-clause-fault c =
    IfErr-weaker _ _ _ (λ x f. plus_unread _ _ _ (sym c.looks_at.ensures ∙ c.if-looks_at.false) (sym c.looks_at-2.ensures ∙ c.if-looks_at-2.false)
    (sym c.looks_at-3.ensures ∙ c.if-looks_at-3.true) c.in_ok-rest-2.ensures.taken f) c.skip_unsigned-then-looks_at-3.ensures.fault

pub returns-in_err-rest-3-clause-fault : goal.returns-in_err-rest-3-clause-fault
returns-in_err-rest-3-clause-fault c =
    fails_on _ _ _ c.from_residual-in_err-rest-3.ensures.1 (chosen_fails (chooses_whole _ _ _ (sym c.looks_at.ensures ∙ c.if-looks_at.false) (sym c.looks_at-2.ensures ∙ c.if-looks_at-2.false)
    (sym c.looks_at-3.ensures ∙ c.if-looks_at-3.false) (sym c.looks_at-4.ensures ∙ c.if-looks_at-4.true)) c.in_err-rest-3.ensures.fault)

pub returns-then-looks_at-4-clause-taken : goal.returns-then-looks_at-4-clause-taken
returns-then-looks_at-4-clause-taken c =
    chosen_reads (chooses_whole _ _ _ (sym c.looks_at.ensures ∙ c.if-looks_at.false) (sym c.looks_at-2.ensures ∙ c.if-looks_at-2.false)
    (sym c.looks_at-3.ensures ∙ c.if-looks_at-3.false) (sym c.looks_at-4.ensures ∙ c.if-looks_at-4.true)) (token_passes c.in_ok-rest-3.ensures.taken) (λ p. refl)

pub returns-in_err-rest-4-clause-fault : goal.returns-in_err-rest-4-clause-fault
returns-in_err-rest-4-clause-fault c =
    fails_on _ _ _ c.from_residual-in_err-rest-4.ensures.1 (chosen_fails (chooses_real _ _ _ (sym c.looks_at.ensures ∙ c.if-looks_at.false) (sym c.looks_at-2.ensures ∙ c.if-looks_at-2.false)
    (sym c.looks_at-3.ensures ∙ c.if-looks_at-3.false) (sym c.looks_at-4.ensures ∙ c.if-looks_at-4.false)
    (sym c.looks_at-5.ensures ∙ c.if-looks_at-5.true)) c.in_err-rest-4.ensures.fault)

pub returns-then-looks_at-5-clause-taken : goal.returns-then-looks_at-5-clause-taken
returns-then-looks_at-5-clause-taken c =
    chosen_reads (chooses_real _ _ _ (sym c.looks_at.ensures ∙ c.if-looks_at.false) (sym c.looks_at-2.ensures ∙ c.if-looks_at-2.false)
    (sym c.looks_at-3.ensures ∙ c.if-looks_at-3.false) (sym c.looks_at-4.ensures ∙ c.if-looks_at-4.false)
    (sym c.looks_at-5.ensures ∙ c.if-looks_at-5.true)) (token_passes c.in_ok-rest-4.ensures.taken) (λ p. refl)

pub returns-in_err-skip_strings-clause-fault : goal.returns-in_err-skip_strings-clause-fault
returns-in_err-skip_strings-clause-fault c =
    fails_on _ _ _ c.from_residual-in_err-skip_strings.ensures.1 (chosen_fails (chooses_strings _ _ _ (sym c.looks_at.ensures ∙ c.if-looks_at.false)
    (sym c.looks_at-2.ensures ∙ c.if-looks_at-2.false) (sym c.looks_at-3.ensures ∙ c.if-looks_at-3.false)
    (sym c.looks_at-4.ensures ∙ c.if-looks_at-4.false) (sym c.looks_at-5.ensures ∙ c.if-looks_at-5.false)
    (sym c.looks_at-6.ensures ∙ c.if-looks_at-6.true)) c.in_err-skip_strings.ensures.fault)

pub returns-then-looks_at-6-clause-taken : goal.returns-then-looks_at-6-clause-taken
returns-then-looks_at-6-clause-taken c =
    chosen_reads (chooses_strings _ _ _ (sym c.looks_at.ensures ∙ c.if-looks_at.false) (sym c.looks_at-2.ensures ∙ c.if-looks_at-2.false)
    (sym c.looks_at-3.ensures ∙ c.if-looks_at-3.false) (sym c.looks_at-4.ensures ∙ c.if-looks_at-4.false)
    (sym c.looks_at-5.ensures ∙ c.if-looks_at-5.false) (sym c.looks_at-6.ensures ∙ c.if-looks_at-6.true)) c.in_ok-skip_strings.ensures.taken (λ p. refl)

pub returns-in_err-skip_block-clause-fault : goal.returns-in_err-skip_block-clause-fault
returns-in_err-skip_block-clause-fault c =
    fails_on _ _ _ c.from_residual-in_err-skip_block.ensures.1 (chosen_fails (chooses_block _ _ _ (sym c.looks_at.ensures ∙ c.if-looks_at.false) (sym c.looks_at-2.ensures ∙ c.if-looks_at-2.false)
    (sym c.looks_at-3.ensures ∙ c.if-looks_at-3.false) (sym c.looks_at-4.ensures ∙ c.if-looks_at-4.false)
    (sym c.looks_at-5.ensures ∙ c.if-looks_at-5.false) (sym c.looks_at-6.ensures ∙ c.if-looks_at-6.false)) c.in_err-skip_block.ensures.fault)

pub returns-clause-taken : goal.returns-clause-taken
returns-clause-taken c =
    chosen_reads (chooses_block _ _ _ (sym c.looks_at.ensures ∙ c.if-looks_at.false) (sym c.looks_at-2.ensures ∙ c.if-looks_at-2.false)
    (sym c.looks_at-3.ensures ∙ c.if-looks_at-3.false) (sym c.looks_at-4.ensures ∙ c.if-looks_at-4.false)
    (sym c.looks_at-5.ensures ∙ c.if-looks_at-5.false) (sym c.looks_at-6.ensures ∙ c.if-looks_at-6.false)) c.in_ok-skip_block.ensures.taken (λ p. refl)
