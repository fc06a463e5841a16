use Rattle.std.proofs.Common.{sym, ◌∙◌, arith}
use Rattle.pq_syntax.specs.Words.{words}
use Rattle.pq_syntax.proofs.LooseWords.{dotted_goes, no_dot, no_name}
use Rattle.pq_syntax.proofs.loose.sights.after_dotted.Goals as goal

pub parts-preserved : goal.parts-preserved
parts-preserved c =
    let ws = words c.args.text.now c.args.tokens.now in
    let e = dotted_goes c.args.text.now c.parts.end ws (sym c.is_at.ensures.is ∙ c.parts-test.true) (sym c.is_name_at.ensures.is ∙ c.if-is_name_at.true) in
    omega (arith, e, c.parts.invariant)

pub returns-else-is_name_at : goal.returns-else-is_name_at
returns-else-is_name_at c =
    let e = no_name c.args.text.now c.parts.end (words c.args.text.now c.args.tokens.now) (sym c.is_name_at.ensures.is ∙ c.if-is_name_at.false) in
    omega (arith, e, c.parts.invariant)

pub returns-after-parts : goal.returns-after-parts
returns-after-parts c =
    let e = no_dot c.args.text.now c.parts.end (words c.args.text.now c.args.tokens.now) (sym c.is_at.ensures.is ∙ c.parts-test.false) in
    omega (arith, e, c.parts.invariant)
