use Rattle.std.proofs.Common.{subst, arith}
use Rattle.pq_lex.specs.aux.LineSearch.{IsLineFound}
use Rattle.pq_lex.proofs.LineSearch.{first_found}
use Rattle.pq_lex.proofs.changes.line_from.Goals as goal

pub line_after-requires-clause-starts : goal.line_after-requires-clause-starts
line_after-requires-clause-starts c = (first_found c.args.bytes.now).starts

pub returns-then-wanted-number : goal.returns-then-wanted-number
returns-then-wanted-number c =
    let zero = (first_found c.args.bytes.now).number in
    subst (λ n. IsLineFound c.args.bytes.now n c.line_after.result) (omega (arith, zero)) c.line_after.ensures
