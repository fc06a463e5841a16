use Rattle.std.proofs.Common.{◌≡◌, ◌+◌, ◌-◌, ◌≤◌, length, map, sum, take}
use Rattle.pq_lex.specs.Lines.{units_of}
use Rattle.pq_lex.proofs.changes.skip_parts.Given as goal

abbrev pub invariant-parts : goal.invariant-parts
invariant-parts l = (l.at ≤ length l.line) × (l.left + sum (take l.at (map units_of l.line)) ≡ l.column)

abbrev pub decreases-parts : goal.decreases-parts
decreases-parts l = length l.line - l.at
