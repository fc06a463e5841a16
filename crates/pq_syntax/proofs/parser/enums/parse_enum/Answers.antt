use Rattle.std.proofs.Common.{◌∙◌, suc}
use Rattle.pq_syntax.specs.Parts.{list_of}
use Rattle.pq_syntax.specs.Tree.{enum_item_nodes}
use Rattle.pq_syntax.specs.declared.tree.Statement.TheVariants.{Enum}
use Rattle.pq_syntax.proofs.Bodies.{body_adds, index_within, one_deeper}
use Rattle.pq_syntax.proofs.Steps.{fails_first, fails_read, fails_added}
use Rattle.pq_syntax.proofs.Failing.{fails_on}
use Rattle.pq_syntax.proofs.parser.enums.parse_enum.Goals as goal

pub returns-in_err-name-clause-fault : goal.returns-in_err-name-clause-fault
returns-in_err-name-clause-fault c = fails_on _ _ _ c.from_residual.ensures.1 (fails_first c.in_err-name.ensures.fault)

pub returns-in_err-rest-clause-fault : goal.returns-in_err-rest-clause-fault
returns-in_err-rest-clause-fault c =
    fails_on _ _ _ c.from_residual-in_err-rest.ensures.1 (fails_read c.in_ok-name.ensures.taken (fails_first c.in_err-rest.ensures.fault))

pub returns-in_err-rest-2-clause-fault : goal.returns-in_err-rest-2-clause-fault
returns-in_err-rest-2-clause-fault c =
    fails_on _ _ _ c.from_residual-in_err-rest-2.ensures.1 (fails_read c.in_ok-name.ensures.taken (fails_added c.in_ok-rest.ensures.taken c.in_err-rest-2.ensures.fault))

pub set_span-requires : goal.set_span-requires
set_span-requires c = index_within _ _ _ _ c.in_ok-name.ensures.taken.takes (c.len-index.ensures ∙ c.args.nodes.now.ok.0) c.in_ok-push_node.ensures c.in_ok-rest.ensures.taken

pub returns-clause-taken : goal.returns-clause-taken
returns-clause-taken c =
    body_adds c.args.depth (enum_item_nodes (suc c.args.depth)) (λ name. Enum name) _ _ c.in_ok-name.ensures.taken
    (c.len-index.ensures ∙ c.args.nodes.now.ok.0) c.in_ok-push_node.ensures
    (one_deeper (λ n. list_of (enum_item_nodes n)) c.args.depth c.in_ok-rest.ensures.taken) c.in_ok-rest-2.ensures.taken c.across.ensures c.set_span.ensures
