use Rattle.std.proofs.Common.{◌-◌, length}
use Rattle.std.specs.Str.{IsCharBoundary}
use Rattle.pq_syntax.proofs.LexedOn.{Left}
use Rattle.pq_syntax.proofs.loose.going_on.lex_on.Given as goal

abbrev pub invariant-parts : goal.invariant-parts
invariant-parts l = record { boundary : IsCharBoundary l.text l.from; left : Left l.text l.from l.tokens.items }

abbrev pub decreases-parts : goal.decreases-parts
decreases-parts l = length l.text - l.from
