use Rattle.std.proofs.Common.{arith}
use Rattle.pq_lex.proofs.LineSearch.{len_found, len_none}
use Rattle.pq_lex.proofs.changes.line_len.Goals as goal

pub returns-in-Some-clause-is : goal.returns-in-Some-clause-is
returns-in-Some-clause-is c = len_found c.args.bytes.now c.in-Some.end c.in-Some.ensures.0.high (λ i less. c.in-Some.ensures.0.before i (omega arith) less) c.in-Some.ensures.1

pub returns-in-None-clause-is : goal.returns-in-None-clause-is
returns-in-None-clause-is c = len_none c.args.bytes.now (λ i less. c.in-None.ensures i (omega arith) less)
