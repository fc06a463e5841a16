use Rattle.std.proofs.Common.{sym, ◌∙◌}
use Rattle.std.proofs.lemmas.Result.{IfOk-weaker}
use Rattle.pq_syntax.specs.Words.{accepts_class}
use Rattle.pq_syntax.specs.Words.Class.{Valued}
use Rattle.pq_syntax.proofs.LooseWords.{at_word, at_none}
use Rattle.pq_syntax.proofs.loose.versions.is_valued_at.Goals as goal

pub returns-then-at-tokens : goal.returns-then-at-tokens
returns-then-at-tokens c =
    IfOk-weaker c.is_valued.result _ _
    (λ b h. h ∙ sym (at_word (accepts_class (Valued c.args.value.now)) c.args.text.now c.args.at c.args.tokens.now _ c.if-at-tokens.true))
    c.is_valued.ensures

pub returns : goal.returns
returns c = sym (at_none (accepts_class (Valued c.args.value.now)) c.args.text.now c.args.at c.args.tokens.now c.if-at-tokens.false)
