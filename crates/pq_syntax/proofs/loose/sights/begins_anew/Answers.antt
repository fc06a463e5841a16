use Rattle.std.proofs.Common.{sym, ◌∙◌}
use Rattle.pq_syntax.specs.Loose.{is_anew}
use Rattle.pq_syntax.proofs.LooseWords.{at_word, no_less}
use Rattle.pq_syntax.proofs.loose.sights.begins_anew.Goals as goal

pub returns-then-tokens-gt0 : goal.returns-then-tokens-gt0
returns-then-tokens-gt0 c = c.is_anew.ensures ∙ sym (at_word (is_anew c.args.text.now) c.args.text.now 0 c.args.tokens.now _ c.if-tokens-gt0.true)

pub returns-else-tokens-gt0 : goal.returns-else-tokens-gt0
returns-else-tokens-gt0 c = no_less (is_anew c.args.text.now) c.args.text.now 0 c.args.tokens.now c.if-tokens-gt0.false
