use Rattle.std.proofs.Common.{◌≤◌, ◌-◌, length}
use Rattle.pq_syntax.specs.Words.{words}
use Rattle.pq_syntax.proofs.Showing.{ToShow}
use Rattle.pq_syntax.proofs.loose.shown_among.Given as goal

abbrev pub invariant-tokens : goal.invariant-tokens
invariant-tokens l = record { within : l.at ≤ length l.tokens; left : ToShow l.text (words l.text l.tokens) l.braces l.begins l.at l.nodes.items }

abbrev pub decreases-tokens : goal.decreases-tokens
decreases-tokens l = length l.tokens - l.at
