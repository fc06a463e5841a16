use Rattle.pq_syntax.proofs.Meaning.{if_tree, if_faulty}
use Rattle.pq_syntax.proofs.answer.parse.Goals as goal

pub returns-clause-tree : goal.returns-clause-tree
returns-clause-tree c = if_tree _ _ (λ nodes t. t) (c.each_parse.ensures _) _ c.parse_exactly.ensures

pub returns-clause-fault : goal.returns-clause-fault
returns-clause-fault c = if_faulty _ _ (λ span code f. f) (c.each_parse.ensures _) _ c.parse_exactly.ensures

pub returns-clause-within : goal.returns-clause-within
returns-clause-within c = if_tree _ _ (c.spans_within.ensures.tree _) (c.each_parse.ensures _) _ c.parse_exactly.ensures

pub returns-clause-fault_within : goal.returns-clause-fault_within
returns-clause-fault_within c = if_faulty _ _ (c.spans_within.ensures.fault _) (c.each_parse.ensures _) _ c.parse_exactly.ensures
