use Rattle.std.proofs.Common.{sym, ◌∙◌}
use Rattle.pq_syntax.specs.Loose.{can_begin}
use Rattle.pq_syntax.proofs.LooseWords.{at_word, no_less}
use Rattle.pq_syntax.proofs.loose.sights.can_begin_at.Goals as goal

pub returns-then-tokens-gt0 : goal.returns-then-tokens-gt0
returns-then-tokens-gt0 c = c.can_begin.ensures ∙ sym (at_word (can_begin c.args.text.now) c.args.text.now 0 c.args.tokens.now _ c.if-tokens-gt0.true)

pub returns-else-tokens-gt0 : goal.returns-else-tokens-gt0
returns-else-tokens-gt0 c = no_less (can_begin c.args.text.now) c.args.text.now 0 c.args.tokens.now c.if-tokens-gt0.false
