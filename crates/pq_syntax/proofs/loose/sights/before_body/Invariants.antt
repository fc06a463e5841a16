use Rattle.std.proofs.Common.{◌≡◌, ◌+◌, ◌-◌, drop, length}
use Rattle.pq_syntax.specs.Loose.{before_body}
use Rattle.pq_syntax.specs.Words.{words}
use Rattle.pq_syntax.proofs.loose.sights.before_body.Given as goal

abbrev pub invariant-head : goal.invariant-head
invariant-head l = l.end + before_body l.text (drop l.end (words l.text l.tokens)) ≡ l.from + before_body l.text (drop l.from (words l.text l.tokens))

abbrev pub decreases-head : goal.decreases-head
decreases-head l = length l.tokens - l.end
