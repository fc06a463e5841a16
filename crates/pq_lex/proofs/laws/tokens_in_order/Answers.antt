use Rattle.pq_lex.proofs.Ordered.{tokens_in_order, error_in_order}
use Rattle.pq_lex.proofs.laws.tokens_in_order.Goals as goal

pub returns-clause-tokens : goal.returns-clause-tokens
returns-clause-tokens c text tokens fault lexes = tokens_in_order 0 text tokens fault lexes

pub returns-clause-fault : goal.returns-clause-fault
returns-clause-fault c text tokens span code lexes = error_in_order text tokens span code lexes
