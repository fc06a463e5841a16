use Rattle.std.proofs.Common.{◌≡◌, ◌+◌, sum, take}
use Rattle.pq_lex.proofs.lines.scanned_byte.Given as goal

abbrev pub invariant-loop-i : goal.invariant-loop-i
invariant-loop-i l = l.left + sum (take l.i l.units) ≡ l.column
