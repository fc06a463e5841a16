use Rattle.std.proofs.Common.{◌≡◌, ◌+◌, ◌-◌, drop, length}
use Rattle.pq_syntax.specs.Loose.{dotted}
use Rattle.pq_syntax.specs.Words.{words}
use Rattle.pq_syntax.proofs.loose.sights.after_dotted.Given as goal

abbrev pub invariant-parts : goal.invariant-parts
invariant-parts l = l.end + dotted l.text (drop l.end (words l.text l.tokens)) ≡ l.from + dotted l.text (drop l.from (words l.text l.tokens))

abbrev pub decreases-parts : goal.decreases-parts
decreases-parts l = length l.tokens - l.end
