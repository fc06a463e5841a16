use Rattle.std.proofs.Common.{◌≡◌, drop}
use Rattle.pq_schema.specs.Resolution.{dotted, scopes}
use Rattle.pq_schema.specs.aux.Asked.{AreAsked}
use Rattle.pq_schema.specs.aux.Inside.{dotted_from}
use Rattle.pq_schema.proofs.search.search.find_dotted.Given as goal

-- the scopes so far do not decide; what is kept is right
abbrev pub invariant-scopes : goal.invariant-scopes
invariant-scopes l =
    let files = l.origin.files.now in
    let leads = l.origin.scope.now.1 in
    let outer = dotted files (scopes l.origin.outward.root.now) l.first l.name in
    (dotted_from files leads outer l.first l.name ≡ dotted_from files (drop l.i leads) outer l.first l.name)
    × AreAsked files leads l.asked.items
