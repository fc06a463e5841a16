use Rattle.std.proofs.Common.{◌≡◌, ◌+◌, map, sum, take}
use Rattle.pq_lex.specs.Lines.{units_of}
use Rattle.pq_lex.proofs.changes.scanned_byte.Given as goal

abbrev pub invariant-loop-i : goal.invariant-loop-i
invariant-loop-i l = l.left + sum (take l.i (map units_of l.line)) ≡ l.column
