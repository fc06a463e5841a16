use Rattle.std.proofs.Common.{ℕ, List, drop, rules}
use Rattle.std.specs.Cmp.Lexicographic.{slice_cmp}
use Rattle.std.specs.Ordering.{nat_cmp, is_lt}
use Rattle.std.proofs.lemmas.List.Sorted.{IsPartitionPoint-from_clause}
use Rattle.pq_schema.specs.aux.InPackage.{dotted}
use Rattle.pq_schema.proofs.PackageRanges.{first_is}
use Rattle.pq_schema.proofs.scope.package_range.PackageRange.first_from.Goals as goal

pub returns : goal.returns
returns c =
    let r = c.args.self.now in
    let part = dotted c.args.name.now in
    record {
      within = c.partition_point.ensures.bound;
      first = λ files lead range.
          first_is lead part r.entries.now r.count range.count range.begin range.sorted _ c.partition_point.ensures.bound
          (λ parted. IsPartitionPoint-from_clause (λ (e : List ℕ × ℕ). is_lt (slice_cmp nat_cmp (drop r.count e.0) part)) _ _
          c.partition_point.ensures.partitioned parted (λ a b f k. search rules));
    }
