use Rattle.std.proofs.Common.{sym, ◌∙◌}
use Rattle.pq_syntax.proofs.FieldParts.{map_fails, map_adds, named_map_fails, named_map_adds}
use Rattle.pq_syntax.proofs.Steps.{fails_first, fails_read, fails_then}
use Rattle.pq_syntax.proofs.Failing.{fails_on}
use Rattle.pq_syntax.proofs.parser.fields.parse_mapped.Goals as goal

pub returns-in_err-rest-clause-fault : goal.returns-in_err-rest-clause-fault
returns-in_err-rest-clause-fault c = fails_on _ _ _ c.from_residual.ensures.1 (fails_first c.in_err-rest.ensures.fault)

pub returns-in_err-key-clause-fault : goal.returns-in_err-key-clause-fault
returns-in_err-key-clause-fault c =
    fails_on _ _ _ c.from_residual-in_err-key.ensures.1 (map_fails _ c.in_ok-rest.ensures.taken (sym c.looks_at.ensures ∙ c.if-looks_at.true) (fails_first c.in_err-key.ensures.fault))

pub returns-in_err-tail-clause-fault : goal.returns-in_err-tail-clause-fault
returns-in_err-tail-clause-fault c =
    fails_on _ _ _ c.from_residual-in_err-tail.ensures.1 (map_fails _ c.in_ok-rest.ensures.taken (sym c.looks_at.ensures ∙ c.if-looks_at.true) (fails_read c.in_ok-key.ensures.taken c.in_err-tail.ensures.fault))

pub returns-in_err-rest-2-clause-fault : goal.returns-in_err-rest-2-clause-fault
returns-in_err-rest-2-clause-fault c =
    fails_on _ _ _ c.from_residual-in_err-rest-2.ensures.1 (named_map_fails _ c.in_ok-rest.ensures.taken (sym c.looks_at.ensures ∙ c.if-looks_at.false) (fails_first c.in_err-rest-2.ensures.fault))

pub returns-in_err-tail-2-clause-fault : goal.returns-in_err-tail-2-clause-fault
returns-in_err-tail-2-clause-fault c =
    fails_on _ _ _ c.from_residual-in_err-tail-2.ensures.1 (named_map_fails _ c.in_ok-rest.ensures.taken (sym c.looks_at.ensures ∙ c.if-looks_at.false)
    (fails_then c.in_ok-rest-2.ensures.taken c.in_err-tail-2.ensures.fault))

pub returns-then-looks_at-clause-taken : goal.returns-then-looks_at-clause-taken
returns-then-looks_at-clause-taken c =
    map_adds _ _ c.in_ok-rest.ensures.taken (sym c.looks_at.ensures ∙ c.if-looks_at.true) c.in_ok-key.ensures.taken c.in_ok-tail.ensures.taken c.in_ok-push_node.ensures

pub returns-clause-taken : goal.returns-clause-taken
returns-clause-taken c =
    named_map_adds _ _ c.in_ok-rest.ensures.taken (sym c.looks_at.ensures ∙ c.if-looks_at.false) c.in_ok-rest-2.ensures.taken
    c.in_ok-type_name.ensures c.in_ok-tail-2.ensures.taken c.in_ok-push_node-2.ensures
