use Rattle.std.proofs.Common.{◌≡◌, sym, ◌∙◌, length, arith}
use Rattle.std.proofs.lemmas.Bool.{eqb-true, eqb-false}
use Rattle.pq_syntax.proofs.FileStatements.{file_tree, file_long, file_fails}
use Rattle.pq_syntax.proofs.Steps.{fails_first, fails_then}
use Rattle.pq_syntax.proofs.Failing.{fails_on}
use Rattle.pq_syntax.proofs.parser.files.parse_file.Goals as goal

pub returns-in_err-rest-clause-fault : goal.returns-in_err-rest-clause-fault
returns-in_err-rest-clause-fault c = fails_on _ _ _ c.from_residual.ensures.1 (file_fails _ _ (fails_first c.in_err-rest.ensures.fault))

pub returns-in_err-rest-2-clause-fault : goal.returns-in_err-rest-2-clause-fault
returns-in_err-rest-2-clause-fault c =
    fails_on _ _ _ c.from_residual-in_err-rest-2.ensures.1 (file_fails _ _ (fails_then c.in_ok-rest.ensures.taken c.in_err-rest-2.ensures.fault))

pub returns-then-is_empty-clause-tree : goal.returns-then-is_empty-clause-tree
returns-then-is_empty-clause-tree c =
    file_tree _ _ _ c.in_ok-rest.ensures.taken c.in_ok-rest-2.ensures.taken c.in_ok-nodes.ensures.items (eqb-true _ 0 (sym c.is_empty.ensures ∙ c.if-is_empty.true))

pub returns-else-is_empty-clause-fault : goal.returns-else-is_empty-clause-fault
returns-else-is_empty-clause-fault c =
    let some : length c.in_ok-rest-2.rest.now ≡ 0 → ⊥ = eqb-false _ 0 (sym c.is_empty.ensures ∙ c.if-is_empty.false) in
    file_long _ _ _ c.in_ok-rest.ensures.taken c.in_ok-rest-2.ensures.taken (omega (arith, some))
