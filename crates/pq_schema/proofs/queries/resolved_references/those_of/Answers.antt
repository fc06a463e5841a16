use Rattle.std.proofs.Common.{◌≡◌, ◌-◌, length, drop, take, leb, ltb, rules, subst, sym, arith}
use Rattle.std.specs.List.Sorted.{IsNonDecreasingBy}
use Rattle.std.proofs.lemmas.List.{length-drop, take_all}
use Rattle.std.proofs.lemmas.List.Sorted.{IsPartitionPoint-from_clause, IsPartitionedBy-leb, IsPartitionedBy-ltb}
use Rattle.pq_schema.specs.OfItem.{item_of}
use Rattle.pq_schema.specs.declared.queries.resolved.ResolvedReference.{ResolvedReference}
use Rattle.pq_schema.proofs.ItemRanges.{found_in, left_rises}
use Rattle.pq_schema.proofs.queries.resolved_references.those_of.Goals as goal

pub returns : goal.returns
returns c =
    let rs = c.args.references.now in
    let item = c.args.item in
    let first = c.partition_point-first.result in
    let count = c.partition_point-count.result in
    let from = take (length rs - first) (drop first rs) in
    let same : from ≡ drop first rs = take_all (length rs - first) (drop first rs) (omega (arith, length-drop first rs)) in
    let low = IsPartitionPoint-from_clause (λ (r : ResolvedReference). ltb r.item item) _ _ c.partition_point-first.ensures.partitioned
    (IsPartitionedBy-ltb item_of rs item c.requires) (λ a r q k. search rules) in
    let high = IsPartitionPoint-from_clause (λ (r : ResolvedReference). leb r.item item) _ _ c.partition_point-count.ensures.partitioned
    (IsPartitionedBy-leb item_of from item (subst (IsNonDecreasingBy item_of) (sym same) (left_rises rs first c.requires))) (λ a r q k. search rules) in
    record { of = found_in rs from item first count same c.partition_point-first.ensures.bound c.partition_point-count.ensures.bound low.0 high.1 }
