use Rattle.std.proofs.Common.{◌≡◌, ◌++◌, length}
use denote.Shadow.{shadow}
use denote.Text.{Utf8}
use Rattle.pq_rules.specs.sums.Names.{names}
use Rattle.pq_rules.proofs.sums.names.names_in.Given as goal

abbrev pub invariant-pieces : goal.invariant-pieces
invariant-pieces l = (l.found.items ++ names l.left ≡ names l.text) × shadow (Utf8 l.left)

abbrev pub decreases-pieces : goal.decreases-pieces
decreases-pieces l = length l.left
