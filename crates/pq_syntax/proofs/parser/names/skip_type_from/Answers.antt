use Rattle.std.proofs.Common.{sym, ◌∙◌}
use Rattle.std.proofs.lemmas.Result.{IfOk-weaker, IfErr-weaker}
use Rattle.pq_syntax.proofs.Choices.{by_word, chooses_first, chooses_itself, chooses_past, chosen_fails, chosen_passes}
use Rattle.pq_syntax.proofs.Steps.{fails_first, fails_token, passes_token}
use Rattle.pq_syntax.proofs.Failing.{fails_on}
use Rattle.pq_syntax.proofs.parser.names.skip_type_from.Goals as goal

pub returns-in_err-rest-clause-fault : goal.returns-in_err-rest-clause-fault
returns-in_err-rest-clause-fault c =
    fails_on _ _ _ c.from_residual.ensures.1 (chosen_fails (chooses_first by_word (sym c.looks_at.ensures ∙ c.if-looks_at.true)) (fails_first c.in_err-rest.ensures.fault))

pub returns-then-looks_at-clause-taken : goal.returns-then-looks_at-clause-taken
returns-then-looks_at-clause-taken c =
    IfOk-weaker _ _ _ (λ rest p. chosen_passes (chooses_first by_word (sym c.looks_at.ensures ∙ c.if-looks_at.true))
    (passes_token c.in_ok-rest.ensures.taken p)) c.skip_full.ensures.taken

pub returns-then-looks_at-clause-fault : goal.returns-then-looks_at-clause-fault
returns-then-looks_at-clause-fault c =
    IfErr-weaker _ _ _ (λ e f. chosen_fails (chooses_first by_word (sym c.looks_at.ensures ∙ c.if-looks_at.true))
    (fails_token c.in_ok-rest.ensures.taken f)) c.skip_full.ensures.fault

pub returns-in_err-rest-2-clause-fault : goal.returns-in_err-rest-2-clause-fault
returns-in_err-rest-2-clause-fault c =
    fails_on _ _ _ c.from_residual-in_err-rest-2.ensures.1 (chosen_fails (chooses_past by_word (sym c.looks_at.ensures ∙ c.if-looks_at.false) chooses_itself) (fails_first c.in_err-rest-2.ensures.fault))

pub returns-clause-taken : goal.returns-clause-taken
returns-clause-taken c =
    IfOk-weaker _ _ _ (λ rest p. chosen_passes (chooses_past by_word (sym c.looks_at.ensures ∙ c.if-looks_at.false) chooses_itself)
    (passes_token c.in_ok-rest-2.ensures.taken p)) c.skip_dotted.ensures.taken

pub returns-clause-fault : goal.returns-clause-fault
returns-clause-fault c =
    IfErr-weaker _ _ _ (λ e f. chosen_fails (chooses_past by_word (sym c.looks_at.ensures ∙ c.if-looks_at.false) chooses_itself)
    (fails_token c.in_ok-rest-2.ensures.taken f)) c.skip_dotted.ensures.fault
