use Rattle.std.proofs.Common.{◌≡◌, ◌-◌, ◌*◌, ◌≤◌, length, map, sum, take}
use Rattle.pq_lex.specs.Lines.{units_of}
use Rattle.pq_lex.proofs.block.count_units.Given as goal

abbrev pub invariant-parts : goal.invariant-parts
invariant-parts l = (l.at ≤ length l.bytes) × (l.count ≡ sum (take l.at (map units_of l.bytes))) × (l.count ≤ 2 * l.at)

abbrev pub decreases-parts : goal.decreases-parts
decreases-parts l = length l.bytes - l.at

abbrev pub invariant-bytes : goal.invariant-bytes
invariant-bytes l = (l.at ≤ length l.bytes) × (l.count ≡ sum (take l.at (map units_of l.bytes))) × (l.count ≤ 2 * l.at)

abbrev pub decreases-bytes : goal.decreases-bytes
decreases-bytes l = length l.bytes - l.at
