use Rattle.std.proofs.Common.{sym, ◌∙◌}
use Rattle.pq_syntax.specs.Words.{accepts_class}
use Rattle.pq_syntax.specs.Words.Class.{OneOf}
use Rattle.pq_syntax.specs.Loose.{other_words}
use Rattle.pq_syntax.proofs.LooseWords.{at_word, no_less}
use Rattle.pq_syntax.proofs.loose.sights.begins_other.Goals as goal

pub returns-then-tokens-gt0 : goal.returns-then-tokens-gt0
returns-then-tokens-gt0 c = c.is_other.ensures ∙ sym (at_word (accepts_class (OneOf other_words)) c.args.text.now 0 c.args.tokens.now _ c.if-tokens-gt0.true)

pub returns-else-tokens-gt0 : goal.returns-else-tokens-gt0
returns-else-tokens-gt0 c = no_less (accepts_class (OneOf other_words)) c.args.text.now 0 c.args.tokens.now c.if-tokens-gt0.false
