use Rattle.pq_syntax.specs.Words.{words}
use Rattle.pq_syntax.proofs.SpannedNodes.{all_words, pushed_node}
use Rattle.pq_syntax.proofs.loose.showing.push_node.Goals as goal

pub returns : goal.returns
returns c = λ text.
    pushed_node _ _ c.args.depth _ _ c.args.statement c.in_ok-push.ensures.items
    (c.across.ensures text (words text c.args.tokens.now) (all_words text c.args.tokens.now c.after-rest.result.now c.after-rest.ensures))
