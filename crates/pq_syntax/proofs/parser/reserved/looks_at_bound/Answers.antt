use Rattle.std.proofs.Common.{sym, ◌∙◌}
use Rattle.pq_syntax.proofs.Bounds.{ranges_by_sign, ranges_by_number}
use Rattle.pq_syntax.proofs.parser.reserved.looks_at_bound.Goals as goal

pub returns-then-looks_at_sign : goal.returns-then-looks_at_sign
returns-then-looks_at_sign c = c.if-looks_at_sign.true ∙ ranges_by_sign c.args.text.now c.args.signs c.args.tokens.now (sym c.looks_at_sign.ensures ∙ c.if-looks_at_sign.true)

pub returns-else-looks_at_sign : goal.returns-else-looks_at_sign
returns-else-looks_at_sign c = c.looks_at.ensures ∙ ranges_by_number c.args.text.now c.args.signs c.args.tokens.now (sym c.looks_at_sign.ensures ∙ c.if-looks_at_sign.false)
