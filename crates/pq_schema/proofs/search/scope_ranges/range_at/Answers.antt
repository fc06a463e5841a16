use Rattle.std.proofs.Common.{ℕ, sym, subst, take}
use Rattle.pq_schema.specs.declared.scope.package_range.PackageRange.{PackageRange}
use Rattle.pq_schema.specs.aux.PackageRange.{IsRange}
use Rattle.pq_schema.proofs.ScopeRanges.{range_there}
use Rattle.pq_schema.proofs.search.scope_ranges.range_at.Goals as goal

pub returns-then-entry-start : goal.returns-then-entry-start
returns-then-entry-start c =
    let e = c.in-Some.entry.now in
    record {
      range = λ files lead all.
          subst (λ (n : ℕ). IsRange files (take n lead) e.1) c.if-entry-start.true
          (subst (λ (x : ℕ × PackageRange). IsRange files (take x.0 lead) x.1) (sym (c.in-Some.ensures.lookup.3.1 e))
          (range_there files lead c.args.ranges.now c.place_of.result e all c.in-Some.ensures.lookup.3.0));
    }
