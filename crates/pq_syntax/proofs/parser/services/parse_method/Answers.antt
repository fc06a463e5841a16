use Rattle.std.proofs.Common.{◌∙◌}
use Rattle.pq_syntax.specs.Tree.{method_end_nodes}
use Rattle.pq_syntax.proofs.Bodies.{index_within, one_deeper}
use Rattle.pq_syntax.proofs.Methods.{method_adds}
use Rattle.pq_syntax.proofs.Rules.{takes_then}
use Rattle.pq_syntax.proofs.Steps.{fails_first, fails_read, fails_token}
use Rattle.pq_syntax.proofs.Failing.{fails_on}
use Rattle.pq_syntax.proofs.parser.services.parse_method.Goals as goal

pub returns-in_err-rest-clause-fault : goal.returns-in_err-rest-clause-fault
returns-in_err-rest-clause-fault c = fails_on _ _ _ c.from_residual.ensures.1 (fails_first c.in_err-rest.ensures.fault)

pub returns-in_err-name-clause-fault : goal.returns-in_err-name-clause-fault
returns-in_err-name-clause-fault c =
    fails_on _ _ _ c.from_residual-in_err-name.ensures.1 (fails_token c.in_ok-rest.ensures.taken (fails_first c.in_err-name.ensures.fault))

pub returns-in_err-input-clause-fault : goal.returns-in_err-input-clause-fault
returns-in_err-input-clause-fault c =
    fails_on _ _ _ c.from_residual-in_err-input.ensures.1 (fails_token c.in_ok-rest.ensures.taken (fails_read c.in_ok-name.ensures.taken (fails_first c.in_err-input.ensures.fault)))

pub returns-in_err-rest-2-clause-fault : goal.returns-in_err-rest-2-clause-fault
returns-in_err-rest-2-clause-fault c =
    fails_on _ _ _ c.from_residual-in_err-rest-2.ensures.1 (fails_token c.in_ok-rest.ensures.taken (fails_read c.in_ok-name.ensures.taken
    (fails_read c.in_ok-input.ensures.taken (fails_first c.in_err-rest-2.ensures.fault))))

pub returns-in_err-output-clause-fault : goal.returns-in_err-output-clause-fault
returns-in_err-output-clause-fault c =
    fails_on _ _ _ c.from_residual-in_err-output.ensures.1 (fails_token c.in_ok-rest.ensures.taken (fails_read c.in_ok-name.ensures.taken
    (fails_read c.in_ok-input.ensures.taken (fails_token c.in_ok-rest-2.ensures.taken (fails_first c.in_err-output.ensures.fault)))))

pub returns-in_err-rest-3-clause-fault : goal.returns-in_err-rest-3-clause-fault
returns-in_err-rest-3-clause-fault c =
    fails_on _ _ _ c.from_residual-in_err-rest-3.ensures.1 (fails_token c.in_ok-rest.ensures.taken (fails_read c.in_ok-name.ensures.taken
    (fails_read c.in_ok-input.ensures.taken (fails_token c.in_ok-rest-2.ensures.taken (fails_read c.in_ok-output.ensures.taken c.in_err-rest-3.ensures.fault)))))

pub set_span-requires : goal.set_span-requires
set_span-requires c =
    let front = takes_then c.in_ok-rest.ensures.taken.takes (takes_then c.in_ok-name.ensures.taken.takes (takes_then c.in_ok-input.ensures.taken.takes (takes_then c.in_ok-rest-2.ensures.taken.takes c.in_ok-output.ensures.taken.takes))) in
    index_within c.args.tokens.now c.args.nodes.now.items _ _ front (c.len-index.ensures ∙ c.args.nodes.now.ok.0) c.in_ok-push_node.ensures c.in_ok-rest-3.ensures.taken

pub returns-clause-taken : goal.returns-clause-taken
returns-clause-taken c =
    method_adds _ _ _ _ c.in_ok-rest.ensures.taken c.in_ok-name.ensures.taken c.in_ok-input.ensures.taken c.in_ok-rest-2.ensures.taken
    c.in_ok-output.ensures.taken (c.len-index.ensures ∙ c.args.nodes.now.ok.0) c.in_ok-push_node.ensures
    (one_deeper (λ n. method_end_nodes n) _ c.in_ok-rest-3.ensures.taken) c.across.ensures c.set_span.ensures
