use Rattle.std.proofs.Common.{◌-◌, [], length, drop, take, refl, ap, ◌∙◌, rules}
use Rattle.std.proofs.lemmas.List.{get_or_default}
use Rattle.std.proofs.lemmas.List.Sorted.{IsPartitionPoint-from_clause}
use Rattle.std.proofs.lemmas.Option.{slice_get-get_or}
use Rattle.pq_schema.specs.aux.InPackage.{dotted}
use Rattle.pq_schema.specs.aux.PackageRange.{begins_after}
use Rattle.pq_schema.proofs.PackageRanges.{inside_found}
use Rattle.pq_schema.proofs.scope.package_range.PackageRange.inside.Goals as goal

pub returns-in-Some : goal.returns-in-Some
returns-in-Some c =
    let r = c.args.self.now in
    let name = c.args.name.now in
    let e = c.in-Some.entry.now in
    let first = c.first_from-first.result in
    let from = take (length r.entries.now - first) (drop first r.entries.now) in
    record {
      range = λ files lead range. inside_found files lead name r _ first c.partition_point-number.result range (c.first_from-first.ensures.first files lead range)
          c.partition_point-number.ensures.bound
          (λ parted. IsPartitionPoint-from_clause (begins_after r.count (dotted name)) from _ c.partition_point-number.ensures.partitioned parted (λ a b f k. search rules))
          refl
          (λ some begins. c.count_inside.ensures.count (ap (begins_after r.count (dotted name))
          (c.in-Some.ensures.item.1 ∙ get_or_default (take c.partition_point-number.result from) 0 e ([], 0) some) ∙ begins));
    }

pub returns-in-None : goal.returns-in-None
returns-in-None c =
    let r = c.args.self.now in
    let name = c.args.name.now in
    let first = c.first_from-first.result in
    let from = take (length r.entries.now - first) (drop first r.entries.now) in
    let none = c.in-None.ensures.value in
    record {
      range = λ files lead range. inside_found files lead name r _ first c.partition_point-number.result range (c.first_from-first.ensures.first files lead range)
          c.partition_point-number.ensures.bound
          (λ parted. IsPartitionPoint-from_clause (begins_after r.count (dotted name)) from _ c.partition_point-number.ensures.partitioned parted (λ a b f k. search rules))
          refl
          (λ some begins. let there = slice_get-get_or (take c.partition_point-number.result from) 0 ([], 0) some in cc);
    }
