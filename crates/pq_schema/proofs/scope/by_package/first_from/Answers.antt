use Rattle.std.proofs.Common.{ℕ, List, [], rules, arith}
use Rattle.std.specs.Cmp.Lexicographic.{slice_cmp}
use Rattle.std.specs.Ordering.{nat_cmp, is_lt}
use Rattle.std.proofs.lemmas.Cmp.{nat_list_cmp_total}
use Rattle.std.proofs.lemmas.List.Sorted.{IsPartitionPoint-from_clause}
use Rattle.pq_schema.specs.aux.InPackage.{dotted}
use Rattle.pq_schema.proofs.Rising.{parted}
use Rattle.pq_schema.proofs.scope.by_package.first_from.Goals as goal

pub returns : goal.returns
returns c =
    let t = dotted c.args.name.now in
    let point = IsPartitionPoint-from_clause (λ (e : List ℕ × ℕ). is_lt (slice_cmp nat_cmp e.0 t)) _ _ c.partition_point.ensures.partitioned
    (parted (slice_cmp nat_cmp) nat_list_cmp_total c.args.packages.now c.requires t) (λ a r q k. search rules) in
    record {
      within = c.partition_point.ensures.bound;
      less = λ k below. point.0 k ([], 0) (omega arith) below;
      others = λ k from within. point.1 k ([], 0) from within;
    }
