use Rattle.pq_links.proofs.ReadTexts.{reads_fault, reads_tree}
use Rattle.pq_links.proofs.laws.read_by_grammar.Goals as goal

pub returns-clause-tree : goal.returns-clause-tree
returns-clause-tree c = λ loose text nodes.
    reads_tree loose text (c.each_parse.ensures text) (c.one_tree.ensures text) (c.one_fault.ensures.one text) (c.one_fault.ensures.none text) nodes

pub returns-clause-fault : goal.returns-clause-fault
returns-clause-fault c = λ loose text span code.
    reads_fault loose text (c.each_parse.ensures text) (c.one_tree.ensures text) (c.one_fault.ensures.one text) (c.one_fault.ensures.none text) span code

pub returns-clause-shown : goal.returns-clause-shown
returns-clause-shown c = c.each_shown.ensures
