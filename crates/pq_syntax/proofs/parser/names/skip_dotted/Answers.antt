use Rattle.std.proofs.Common.{true, false, sym, ◌∙◌, arith}
use Rattle.pq_syntax.specs.Rule.Rule.{Single}
use Rattle.pq_syntax.specs.declared.terminal.Terminal.TheVariants.{Dot, AnyIdentifier}
use Rattle.pq_syntax.proofs.Choices.{starts_word}
use Rattle.pq_syntax.proofs.Shorter.{token_shorter}
use Rattle.pq_syntax.proofs.Steps.{adding_begins, adding_fails, fails_first, fails_token, passes_token, passing_ends, passing_goes, token_passes}
use Rattle.pq_syntax.proofs.Failing.{fails_on}
use Rattle.pq_syntax.proofs.parser.names.skip_dotted.Goals as goal

pub loop-rest-init : goal.loop-rest-init
loop-rest-init c = adding_begins _ _

pub returns-in_err-name-clause-fault : goal.returns-in_err-name-clause-fault
returns-in_err-name-clause-fault c =
    fails_on _ _ _ c.from_residual.ensures.1 (adding_fails c.loop-rest.invariant
    (record {
      in_first = λ n e. starts_word c.args.text.now Dot (Single AnyIdentifier) c.loop-rest.rest.now true
          (sym c.looks_at.ensures ∙ c.loop-rest-test.true);
      fails = fails_first c.in_err-name.ensures.fault;
    }))

pub returns-in_err-after-clause-fault : goal.returns-in_err-after-clause-fault
returns-in_err-after-clause-fault c =
    fails_on _ _ _ c.from_residual-in_err-after.ensures.1 (adding_fails c.loop-rest.invariant
    (record {
      in_first = λ n e. starts_word c.args.text.now Dot (Single AnyIdentifier) c.loop-rest.rest.now true
          (sym c.looks_at.ensures ∙ c.loop-rest-test.true);
      fails = fails_token c.in_ok-name.ensures.taken c.in_err-after.ensures.fault;
    }))

pub loop-rest-smaller : goal.loop-rest-smaller
loop-rest-smaller c =
    let dot = token_shorter c.in_ok-name.ensures.taken in
    let name = token_shorter c.in_ok-after.ensures.taken in
    omega (arith, dot, name)

pub loop-rest-preserved : goal.loop-rest-preserved
loop-rest-preserved c =
    passing_goes c.loop-rest.invariant (record {
      in_first = starts_word c.args.text.now Dot (Single AnyIdentifier) c.loop-rest.rest.now true
          (sym c.looks_at.ensures ∙ c.loop-rest-test.true);
      passes = passes_token c.in_ok-name.ensures.taken (token_passes c.in_ok-after.ensures.taken);
    })

pub returns-clause-taken : goal.returns-clause-taken
returns-clause-taken c =
    passing_ends c.loop-rest.invariant (starts_word c.args.text.now Dot (Single AnyIdentifier) c.loop-rest.rest.now false (sym c.looks_at.ensures ∙ c.loop-rest-test.false))
