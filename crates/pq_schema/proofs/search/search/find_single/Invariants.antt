use Rattle.std.proofs.Common.{◌≡◌, drop}
use Rattle.pq_schema.specs.Resolution.{unless_type, single, scopes}
use Rattle.pq_schema.specs.aux.Asked.{AreAsked}
use Rattle.pq_schema.specs.aux.Hits.{found_at}
use Rattle.pq_schema.specs.aux.Inside.{single_from}
use Rattle.pq_schema.proofs.search.search.find_single.Given as goal

-- the scopes so far give `best`, which stays unless an outer scope has a type; what is kept is right
abbrev pub invariant-scopes : goal.invariant-scopes
invariant-scopes l =
    let files = l.origin.files.now in
    let leads = l.origin.scope.now.1 in
    let outer = single files (scopes l.origin.outward.root.now) l.name in
    (single_from files leads outer l.name ≡ unless_type (found_at l.best) (single_from files (drop l.i leads) outer l.name))
    × AreAsked files leads l.asked.items
