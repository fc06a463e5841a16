use Rattle.std.proofs.Common.{◌≡◌, ◌-◌, ◌<◌, ◌≤◌, length}
use Rattle.pq_lex.specs.Lines.{line_number}
use Rattle.pq_lex.proofs.block.lines_before_last.Given as goal

abbrev pub invariant-parts : goal.invariant-parts
invariant-parts l = (l.at < length l.bytes) × (l.count ≡ line_number l.bytes l.at) × (l.count ≤ l.at)

abbrev pub decreases-parts : goal.decreases-parts
decreases-parts l = length l.bytes - l.at

abbrev pub invariant-bytes : goal.invariant-bytes
invariant-bytes l = (l.at < length l.bytes) × (l.count ≡ line_number l.bytes l.at) × (l.count ≤ l.at)

abbrev pub decreases-bytes : goal.decreases-bytes
decreases-bytes l = length l.bytes - l.at
