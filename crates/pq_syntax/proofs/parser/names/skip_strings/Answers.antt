use Rattle.std.proofs.Common.{sym, ◌∙◌}
use Rattle.pq_syntax.proofs.Shorter.{token_shorter}
use Rattle.pq_syntax.proofs.Steps.{adding_begins, adding_fails, fails_first, fails_token, passes_token, passing_ends, passing_goes, token_passes}
use Rattle.pq_syntax.proofs.Failing.{fails_on}
use Rattle.pq_syntax.proofs.parser.names.skip_strings.Goals as goal

pub returns-in_err-after-clause-fault : goal.returns-in_err-after-clause-fault
returns-in_err-after-clause-fault c = fails_on _ _ _ c.from_residual.ensures.1 (fails_first c.in_err-after.ensures.fault)

pub loop-rest-init : goal.loop-rest-init
loop-rest-init c = adding_begins _ _

pub returns-in_err-more-clause-fault : goal.returns-in_err-more-clause-fault
returns-in_err-more-clause-fault c =
    fails_on _ _ _ c.from_residual-in_err-more.ensures.1 (fails_token c.in_ok-after.ensures.taken (adding_fails c.loop-rest.invariant
    (record { in_first = λ n e. sym c.looks_at.ensures ∙ c.loop-rest-test.true; fails = c.in_err-more.ensures.fault })))

pub loop-rest-smaller : goal.loop-rest-smaller
loop-rest-smaller c = token_shorter c.in_ok-more.ensures.taken

pub loop-rest-preserved : goal.loop-rest-preserved
loop-rest-preserved c =
    passing_goes c.loop-rest.invariant (record { in_first = sym c.looks_at.ensures ∙ c.loop-rest-test.true; passes = token_passes c.in_ok-more.ensures.taken })

pub returns-clause-taken : goal.returns-clause-taken
returns-clause-taken c = passes_token c.in_ok-after.ensures.taken (passing_ends c.loop-rest.invariant (sym c.looks_at.ensures ∙ c.loop-rest-test.false))
