use Rattle.pq_lex.proofs.LineSearch.{IsPassed}
use Rattle.pq_lex.proofs.changes.line_after.Given as goal

abbrev pub invariant-loop : goal.invariant-loop
invariant-loop l = IsPassed l.bytes l.at l.counter l.start
