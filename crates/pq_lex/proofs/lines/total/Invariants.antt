use Rattle.std.proofs.Common.{◌≡◌, ◌+◌, sum, drop}
use Rattle.pq_lex.proofs.lines.total.Given as goal

abbrev pub invariant-loop-u : goal.invariant-loop-u
invariant-loop-u l = l.total + sum (drop l.u-index l.units) ≡ sum l.units
