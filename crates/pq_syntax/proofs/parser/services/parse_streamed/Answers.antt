use Rattle.std.proofs.Common.{sym, ◌∙◌}
use Rattle.pq_syntax.proofs.Choices.{by_word, chooses_first, chooses_itself, chooses_past, chosen_fails}
use Rattle.pq_syntax.proofs.Methods.{reads_plain, reads_stream}
use Rattle.pq_syntax.proofs.Steps.{fails_first, fails_token}
use Rattle.pq_syntax.proofs.Failing.{fails_on}
use Rattle.pq_syntax.proofs.parser.services.parse_streamed.Goals as goal

pub returns-in_err-rest-clause-fault : goal.returns-in_err-rest-clause-fault
returns-in_err-rest-clause-fault c =
    fails_on _ _ _ c.from_residual.ensures.1 (chosen_fails (chooses_first by_word (sym c.looks_at.ensures ∙ c.if-looks_at.true)) (fails_first c.in_err-rest.ensures.fault))

pub returns-in_err-type_name-clause-fault : goal.returns-in_err-type_name-clause-fault
returns-in_err-type_name-clause-fault c =
    fails_on _ _ _ c.from_residual-in_err-type_name.ensures.1 (chosen_fails (chooses_first by_word (sym c.looks_at.ensures ∙ c.if-looks_at.true)) (fails_token c.in_ok-rest.ensures.taken c.in_err-type_name.ensures.fault))

pub returns-then-looks_at-clause-taken : goal.returns-then-looks_at-clause-taken
returns-then-looks_at-clause-taken c = reads_stream (sym c.looks_at.ensures ∙ c.if-looks_at.true) c.in_ok-rest.ensures.taken c.in_ok-type_name.ensures.taken

pub returns-in_err-type_name-2-clause-fault : goal.returns-in_err-type_name-2-clause-fault
returns-in_err-type_name-2-clause-fault c =
    fails_on _ _ _ c.from_residual-in_err-type_name-2.ensures.1 (chosen_fails (chooses_past by_word (sym c.looks_at.ensures ∙ c.if-looks_at.false) chooses_itself) c.in_err-type_name-2.ensures.fault)

pub returns-clause-taken : goal.returns-clause-taken
returns-clause-taken c = reads_plain (sym c.looks_at.ensures ∙ c.if-looks_at.false) c.in_ok-type_name-2.ensures.taken
