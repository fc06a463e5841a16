use Rattle.pq_lex.specs.aux.Blocks.{IsPlaced}
use Rattle.pq_lex.proofs.blocks.first_place.Given as goal

abbrev pub invariant-walk : goal.invariant-walk
invariant-walk l = IsPlaced l.blocks l.index l.start l.place.offset

abbrev pub decreases-walk : goal.decreases-walk
decreases-walk l = l.index
