use Rattle.std.proofs.Common.{sym, ◌∙◌}
use Rattle.pq_syntax.specs.Loose.{is_word}
use Rattle.pq_syntax.proofs.LooseWords.{at_word, no_less}
use Rattle.pq_syntax.proofs.loose.sights.is_word_at.Goals as goal

pub returns-then-at-tokens : goal.returns-then-at-tokens
returns-then-at-tokens c = c.is_word.ensures ∙ sym (at_word (is_word c.args.name.now) c.args.text.now c.args.at c.args.tokens.now _ c.if-at-tokens.true)

pub returns-else-at-tokens : goal.returns-else-at-tokens
returns-else-at-tokens c = no_less (is_word c.args.name.now) c.args.text.now c.args.at c.args.tokens.now c.if-at-tokens.false
