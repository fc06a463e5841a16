use Rattle.std.proofs.Common.{sym, ◌∙◌}
use Rattle.pq_syntax.specs.Loose.{is_name}
use Rattle.pq_syntax.proofs.LooseWords.{at_word, no_less}
use Rattle.pq_syntax.proofs.loose.sights.is_name_at.Goals as goal

pub returns-then-at-tokens-clause-is : goal.returns-then-at-tokens-clause-is
returns-then-at-tokens-clause-is c = c.is_name.ensures ∙ sym (at_word (is_name c.args.text.now) c.args.text.now c.args.at c.args.tokens.now _ c.if-at-tokens.true)

pub returns-else-at-tokens-clause-is : goal.returns-else-at-tokens-clause-is
returns-else-at-tokens-clause-is c = no_less (is_name c.args.text.now) c.args.text.now c.args.at c.args.tokens.now c.if-at-tokens.false
