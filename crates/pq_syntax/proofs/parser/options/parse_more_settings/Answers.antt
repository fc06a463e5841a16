use Rattle.std.proofs.Common.{sym, ◌∙◌, ap, is_ok}
use Rattle.std.proofs.ResultArms.{chosen}
use Rattle.pq_syntax.proofs.Separated.{separated_goes, separated_ends, separated_fails_token, separated_fails_item, separated_shorter}
use Rattle.pq_syntax.proofs.Steps.{adding_begins}
use Rattle.pq_syntax.proofs.Failing.{fails_on}
use Rattle.pq_syntax.proofs.parser.options.parse_more_settings.Goals as goal

pub items-init : goal.items-init
items-init c = adding_begins _ _

pub returns-in_err-next-clause-fault : goal.returns-in_err-next-clause-fault
returns-in_err-next-clause-fault c =
    fails_on _ _ _ c.from_residual.ensures.1 (separated_fails_token c.items.invariant (sym c.looks_at.ensures ∙ c.items-test.true) c.in_err-next.ensures.fault)

pub returns-in_err-setting-clause-fault : goal.returns-in_err-setting-clause-fault
returns-in_err-setting-clause-fault c =
    fails_on _ _ _ c.from_residual-in_err-setting.ensures.1 (separated_fails_item c.items.invariant c.in_ok-next.ensures.taken c.in_err-setting.ensures.fault)

pub items-preserved : goal.items-preserved
items-preserved c = separated_goes c.items.invariant c.in_ok-next.ensures.taken c.in_ok-setting.ensures.taken (chosen _ _ _ _ c.push.ensures.items (ap is_ok c.in_ok-push.was))

pub items-smaller : goal.items-smaller
items-smaller c = separated_shorter c.in_ok-next.ensures.taken c.in_ok-setting.ensures.taken

pub returns-clause-taken : goal.returns-clause-taken
returns-clause-taken c = separated_ends c.items.invariant (sym c.looks_at.ensures ∙ c.items-test.false)
