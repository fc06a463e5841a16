use Rattle.std.proofs.Common.{ltb, rules}
use Rattle.pq_core.specs.declared.store.rising.Place.{Place}
use Rattle.std.proofs.lemmas.List.Sorted.{IsPartitionPoint-from_clause, IsPartitionedBy-ltb}
use Rattle.pq_core.proofs.Slots.{rises_weakly, nowhere_end, nowhere_between, place_here}
use Rattle.pq_core.proofs.store.rising.place_of.Goals as goal

pub returns-then-first-places-clause-none : goal.returns-then-first-places-clause-none
returns-then-first-places-clause-none g c =
    let xs = c.args.places.now in
    let n = c.args.number in
    let point = IsPartitionPoint-from_clause (λ (p : Place g.row.T.Denot). ltb p.number n) _ _ c.partition_point-first.ensures.partitioned
    (IsPartitionedBy-ltb (λ (p : Place g.row.T.Denot). p.number) xs n (rises_weakly xs c.requires)) (λ a r q k. search rules) in
    nowhere_end xs n c.partition_point-first.result point.0 c.if-first-places.true

pub returns-then-places-first-clause-none : goal.returns-then-places-first-clause-none
returns-then-places-first-clause-none g c =
    let xs = c.args.places.now in
    let n = c.args.number in
    let point = IsPartitionPoint-from_clause (λ (p : Place g.row.T.Denot). ltb p.number n) _ _ c.partition_point-first.ensures.partitioned
    (IsPartitionedBy-ltb (λ (p : Place g.row.T.Denot). p.number) xs n (rises_weakly xs c.requires)) (λ a r q k. search rules) in
    nowhere_between xs n c.partition_point-first.result c.index-places-first.result c.requires point.0 point.1 c.if-places-first.true

pub returns-clause-here : goal.returns-clause-here
returns-clause-here g c = (c.if-first-places.false, place_here c.args.places.now c.args.number c.partition_point-first.result c.index-places-first.result c.if-places-first.false)
