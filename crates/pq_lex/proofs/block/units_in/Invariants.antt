use Rattle.std.proofs.Common.{◌≡◌, ◌+◌, ◌*◌, ◌≤◌, map, sum, take}
use Rattle.pq_lex.specs.Lines.{units_of}
use Rattle.pq_lex.proofs.block.units_in.Given as goal

abbrev pub invariant-loop-i : goal.invariant-loop-i
invariant-loop-i l = (sum (take l.at (map units_of l.bytes)) + l.count ≡ sum (take l.i (map units_of l.bytes))) × (l.count + 2 * l.at ≤ 2 * l.i)
