use Rattle.std.proofs.Common.{ℕ, List, sym, subst, take}
use Rattle.std.specs.Prelude.{IfSome}
use Rattle.pq_schema.specs.declared.scope.package_range.PackageRange.{PackageRange}
use Rattle.pq_schema.specs.aux.Along.{Contents}
use Rattle.pq_schema.specs.aux.NameParts.{leading}
use Rattle.pq_schema.specs.aux.PackageRange.{AreRanges, IsRange}
use Rattle.pq_schema.proofs.ScopeRanges.{packages_some}
use Rattle.pq_schema.proofs.search.along.Along.packages_at.Goals as goal

pub returns : goal.returns
returns c =
    let files = c.self.inside.files.now in
    let lead = leading c.self.inside.root.now in
    let ranges = subst (λ (rs : List (ℕ × PackageRange)). AreRanges files lead rs) (sym c.deref.ensures.value) c.self.invariant.4 in
    record {
      range = subst (λ (a : Contents). IfSome c.range_at.result (λ r. IsRange a.files (take c.args.start (leading a.root)) r)) c.self.view_is
          (packages_some files lead c.deref.result.now c.args.start c.range_at.result ranges c.range_at.ensures.range);
    }
