use Rattle.pq_syntax.proofs.NodeSpans.{error_within, tree_placed}
use Rattle.pq_syntax.proofs.laws.spans_within.Goals as goal

pub returns-clause-tree : goal.returns-clause-tree
returns-clause-tree c = tree_placed c.tokens_in_order.ensures.tokens

pub returns-clause-fault : goal.returns-clause-fault
returns-clause-fault c = error_within c.tokens_in_order.ensures.tokens c.tokens_in_order.ensures.fault
