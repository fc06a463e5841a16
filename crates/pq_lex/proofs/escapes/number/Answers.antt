use Rattle.std.proofs.Common.{◌∙◌, sym}
use Rattle.pq_lex.specs.Escapes.{number}
use Rattle.pq_lex.proofs.EscapeLemmas.{none_more, some_more, all_read, in_range}
use Rattle.pq_lex.proofs.escapes.number.Goals as goal

pub returns-in_err-value : goal.returns-in_err-value
unfolding number
returns-in_err-value c = c.from_residual.ensures ∙ sym (none_more c.args.radix _ c.loop-b.b-index _ c.requires.base c.loop-b-test.true c.loop-b.invariant.is (sym c.with_digit.ensures ∙ c.in_err-value.was))

pub loop-b-preserved : goal.loop-b-preserved
loop-b-preserved c =
    let e = sym c.with_digit.ensures ∙ c.in_ok-value.was in
    record { is = some_more c.args.radix _ c.loop-b.b-index _ _ c.loop-b-test.true c.loop-b.invariant.is e; fits = in_range _ _ e }

pub returns : goal.returns
unfolding number
returns c = all_read c.args.radix _ c.loop-b.b-index c.loop-b.value c.loop-b-test.false c.loop-b.invariant.fits c.loop-b.invariant.is
