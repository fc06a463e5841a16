use Rattle.std.proofs.Common.{[], rules, arith}
use Rattle.std.proofs.lemmas.List.Sorted.{IsPartitionPoint-from_clause}
use Rattle.pq_schema.proofs.PartSearch.{above, is_up_to, not_true, parted_to}
use Rattle.pq_schema.proofs.search.along.count_to.Goals as goal

pub returns : goal.returns
returns c =
    let t = c.args.name.now in
    let point = IsPartitionPoint-from_clause (is_up_to t) _ _ c.partition_point.ensures.partitioned
    (parted_to c.args.parts.now c.requires t) (λ a r q k. search rules) in
    record {
      within = c.partition_point.ensures.bound;
      low = λ k below. not_true _ (point.0 k ([], 0) (omega arith) below);
      others = λ k from within. above _ (point.1 k ([], 0) from within);
    }
