use Rattle.std.proofs.Common.{sym, ◌∙◌, arith}
use Rattle.pq_syntax.specs.Words.{words}
use Rattle.pq_syntax.proofs.LooseWords.{texts_goes, texts_stops}
use Rattle.pq_syntax.proofs.loose.sights.after_texts.Goals as goal

pub strings-preserved : goal.strings-preserved
strings-preserved c =
    let e = texts_goes c.strings.end (words c.args.text.now c.args.tokens.now) (sym c.is_at.ensures.is ∙ c.strings-test.true) in
    omega (arith, e, c.strings.invariant)

pub returns : goal.returns
returns c =
    let e = texts_stops c.strings.end (words c.args.text.now c.args.tokens.now) (sym c.is_at.ensures.is ∙ c.strings-test.false) in
    omega (arith, e, c.strings.invariant)
