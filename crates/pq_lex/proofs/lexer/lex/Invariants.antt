use Rattle.std.proofs.Common.{◌-◌, length}
use Rattle.pq_lex.specs.aux.Reading.{Sofar}
use Rattle.pq_lex.proofs.lexer.lex.Given as goal

abbrev pub invariant-loop-from : goal.invariant-loop-from
invariant-loop-from l = Sofar l.text l.from l.tokens.items

abbrev pub decreases-loop-from : goal.decreases-loop-from
decreases-loop-from l = length l.text - l.from
