use Rattle.std.proofs.Common.{ap, is_ok, sym, ◌∙◌}
use Rattle.std.proofs.ResultArms.{chosen}
use Rattle.pq_syntax.proofs.OptionParts.{settings_absent, settings_fail, settings_present}
use Rattle.pq_syntax.proofs.Separated.{separated_listed}
use Rattle.pq_syntax.proofs.Steps.{fails_first, fails_read, fails_token}
use Rattle.pq_syntax.proofs.Failing.{fails_on}
use Rattle.pq_syntax.proofs.parser.options.parse_settings.Goals as goal

pub returns-then-not-looks_at-clause-taken : goal.returns-then-not-looks_at-clause-taken
returns-then-not-looks_at-clause-taken c = settings_absent _ _ _ (sym c.looks_at.ensures ∙ c.if-not-looks_at.true) (c.new.ensures ∙ c.new-settings.ensures.items)

pub returns-in_err-rest-clause-fault : goal.returns-in_err-rest-clause-fault
returns-in_err-rest-clause-fault c =
    fails_on _ _ _ c.from_residual.ensures.1 (settings_fail _ (sym c.looks_at.ensures ∙ c.if-not-looks_at.false) (fails_first c.in_err-rest.ensures.fault))

pub returns-in_err-first-clause-fault : goal.returns-in_err-first-clause-fault
returns-in_err-first-clause-fault c =
    fails_on _ _ _ c.from_residual-in_err-first.ensures.1 (settings_fail _ (sym c.looks_at.ensures ∙ c.if-not-looks_at.false)
    (fails_token c.in_ok-rest.ensures.taken (fails_first (fails_first c.in_err-first.ensures.fault))))

pub returns-in_err-rest-2-clause-fault : goal.returns-in_err-rest-2-clause-fault
returns-in_err-rest-2-clause-fault c =
    fails_on _ _ _ c.from_residual-in_err-rest-2.ensures.1 (settings_fail _ (sym c.looks_at.ensures ∙ c.if-not-looks_at.false)
    (fails_token c.in_ok-rest.ensures.taken (fails_first (fails_read c.in_ok-first.ensures.taken c.in_err-rest-2.ensures.fault))))

pub returns-in_err-rest-3-clause-fault : goal.returns-in_err-rest-3-clause-fault
returns-in_err-rest-3-clause-fault c =
    fails_on _ _ _ c.from_residual-in_err-rest-3.ensures.1 (settings_fail _ (sym c.looks_at.ensures ∙ c.if-not-looks_at.false)
    (fails_token c.in_ok-rest.ensures.taken (fails_read (separated_listed c.in_ok-first.ensures.taken c.new-settings.ensures.items
    (chosen _ _ _ _ c.push.ensures.items (ap is_ok c.in_ok-push.was)) c.in_ok-rest-2.ensures.taken) c.in_err-rest-3.ensures.fault)))

pub returns-clause-taken : goal.returns-clause-taken
returns-clause-taken c =
    rw c.new-2.ensures (settings_present _ c.in_ok-rest.ensures.taken (separated_listed c.in_ok-first.ensures.taken c.new-settings.ensures.items
    (chosen _ _ _ _ c.push.ensures.items (ap is_ok c.in_ok-push.was)) c.in_ok-rest-2.ensures.taken) c.in_ok-rest-3.ensures.taken)
