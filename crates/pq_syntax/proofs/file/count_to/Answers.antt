use Rattle.std.proofs.Common.{get_or, leb, rules, arith}
use Rattle.std.proofs.lemmas.List.Sorted.{IsPartitionPoint-from_clause, IsPartitionedBy-leb}
use Rattle.std.proofs.lemmas.Bool.{leb-true, leb-false}
use Rattle.pq_syntax.specs.declared.tree.Node.{Node}
use Rattle.pq_syntax.proofs.TypesInOrder.{starts_rise}
use Rattle.pq_syntax.proofs.file.count_to.Goals as goal

pub returns-clause-low : goal.returns-clause-low
returns-clause-low c =
    let point = IsPartitionPoint-from_clause (λ (n : Node). leb n.span.start c.args.offset) _ _ c.partition_point.ensures.partitioned
    (IsPartitionedBy-leb (λ (n : Node). n.span.start) c.args.nodes.now c.args.offset (starts_rise c.args.nodes.now c.requires)) (λ a r q k. search rules) in
    λ k d below. leb-true (get_or c.args.nodes.now k d).span.start c.args.offset (point.0 k d (omega arith) below)

pub returns-clause-others : goal.returns-clause-others
returns-clause-others c =
    let point = IsPartitionPoint-from_clause (λ (n : Node). leb n.span.start c.args.offset) _ _ c.partition_point.ensures.partitioned
    (IsPartitionedBy-leb (λ (n : Node). n.span.start) c.args.nodes.now c.args.offset (starts_rise c.args.nodes.now c.requires)) (λ a r q k. search rules) in
    λ k d from within. leb-false (get_or c.args.nodes.now k d).span.start c.args.offset (point.1 k d from within)
