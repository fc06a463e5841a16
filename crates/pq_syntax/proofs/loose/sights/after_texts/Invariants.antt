use Rattle.std.proofs.Common.{◌≡◌, ◌+◌, ◌-◌, drop, length}
use Rattle.pq_syntax.specs.Loose.{texts}
use Rattle.pq_syntax.specs.Words.{words}
use Rattle.pq_syntax.proofs.loose.sights.after_texts.Given as goal

abbrev pub invariant-strings : goal.invariant-strings
invariant-strings l = l.end + texts (drop l.end (words l.text l.tokens)) ≡ l.from + texts (drop l.from (words l.text l.tokens))

abbrev pub decreases-strings : goal.decreases-strings
decreases-strings l = length l.tokens - l.end
