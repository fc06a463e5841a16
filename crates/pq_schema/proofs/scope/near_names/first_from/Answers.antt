use Rattle.std.proofs.Common.{ℕ, rules}
use Rattle.std.specs.Prelude.{nat_lt}
use Rattle.std.proofs.lemmas.List.Sorted.{IsPartitionPoint-from_clause}
use Rattle.pq_schema.proofs.NearNames.{codes_parted, is_from}
use Rattle.pq_schema.proofs.scope.near_names.first_from.Goals as goal

pub returns : goal.returns
returns c =
    record {
      from = λ sorted. is_from c.args.names.now c.args.code c.partition_point.result
          (IsPartitionPoint-from_clause (λ (e : ℕ × ℕ). nat_lt e.0 c.args.code) _ _ c.partition_point.ensures.partitioned
          (codes_parted c.args.names.now c.args.code sorted) (λ a r q k. search rules));
    }
