use Rattle.std.proofs.Common.{sym, ◌∙◌}
use Rattle.pq_syntax.proofs.Choices.{by_word, chooses_first, chooses_itself, chooses_past, chosen_fails}
use Rattle.pq_syntax.proofs.Methods.{ends_braced, ends_plain}
use Rattle.pq_syntax.proofs.Steps.{fails_added, fails_first, fails_token}
use Rattle.pq_syntax.proofs.Failing.{fails_on}
use Rattle.pq_syntax.proofs.parser.services.parse_method_end.Goals as goal

pub returns-in_err-rest-clause-fault : goal.returns-in_err-rest-clause-fault
returns-in_err-rest-clause-fault c =
    fails_on _ _ _ c.from_residual.ensures.1 (chosen_fails (chooses_first by_word (sym c.looks_at.ensures ∙ c.if-looks_at.true)) (fails_first c.in_err-rest.ensures.fault))

pub returns-in_err-rest-2-clause-fault : goal.returns-in_err-rest-2-clause-fault
returns-in_err-rest-2-clause-fault c =
    fails_on _ _ _ c.from_residual-in_err-rest-2.ensures.1 (chosen_fails (chooses_first by_word (sym c.looks_at.ensures ∙ c.if-looks_at.true))
    (fails_token c.in_ok-rest.ensures.taken (fails_first c.in_err-rest-2.ensures.fault)))

pub returns-in_err-rest-3-clause-fault : goal.returns-in_err-rest-3-clause-fault
returns-in_err-rest-3-clause-fault c =
    fails_on _ _ _ c.from_residual-in_err-rest-3.ensures.1 (chosen_fails (chooses_first by_word (sym c.looks_at.ensures ∙ c.if-looks_at.true))
    (fails_token c.in_ok-rest.ensures.taken (fails_added c.in_ok-rest-2.ensures.taken c.in_err-rest-3.ensures.fault)))

pub returns-then-looks_at-clause-taken : goal.returns-then-looks_at-clause-taken
returns-then-looks_at-clause-taken c =
    ends_braced _ _ (sym c.looks_at.ensures ∙ c.if-looks_at.true) c.in_ok-rest.ensures.taken c.in_ok-rest-2.ensures.taken c.in_ok-rest-3.ensures.taken

pub returns-in_err-rest-4-clause-fault : goal.returns-in_err-rest-4-clause-fault
returns-in_err-rest-4-clause-fault c =
    fails_on _ _ _ c.from_residual-in_err-rest-4.ensures.1 (chosen_fails (chooses_past by_word (sym c.looks_at.ensures ∙ c.if-looks_at.false) chooses_itself) c.in_err-rest-4.ensures.fault)

pub returns-clause-taken : goal.returns-clause-taken
returns-clause-taken c = ends_plain _ _ (sym c.looks_at.ensures ∙ c.if-looks_at.false) c.in_ok-rest-4.ensures.taken
