use Rattle.std.proofs.Common.{[], map}
use Rattle.pq_syntax.proofs.Walk.{Walked}
use Rattle.pq_schema.specs.aux.Asked.{AreAsked}
use Rattle.pq_schema.specs.aux.Inside.{IsNear, used}
use Rattle.pq_schema.proofs.Answered.{AreNested, first}
use Rattle.pq_schema.proofs.Inside.{AllFit, emit, keep}
use Rattle.pq_schema.proofs.search.walk.find_under.Given as goal

-- the walk so far, whose open scopes are scopes of the file, each in the one before
abbrev pub invariant-items : goal.invariant-items
invariant-items l =
    Walked keep (l.outward.root.now, []) (emit l.files) l.nodes l.stack l.item (map used l.walk.uses.items)
    × AllFit l.outward.root.now l.stack
    × IsNear l.files l.walk.near
    × AreNested l.outward.root.now l.stack
    × AreAsked l.files (first l.outward.root.now l.stack).1 l.walk.asked.items
