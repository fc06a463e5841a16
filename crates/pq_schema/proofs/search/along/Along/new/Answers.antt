use Rattle.std.proofs.Common.{ℕ, List, subst, ◌∙◌}
use Rattle.pq_schema.specs.declared.scope.scope.FileDefs.{FileDefs}
use Rattle.pq_schema.specs.aux.Fronts.{AreFronts}
use Rattle.pq_schema.specs.aux.PackageRange.{AreRanges}
use Rattle.pq_schema.proofs.search.along.Along.new.Goals as goal

pub invariant_of-result : goal.invariant_of-result
invariant_of-result c = (
  c.in_ok-parts.ensures.along,
  subst (λ (fs : List FileDefs). AreFronts c.in_ok-fronts.fronts.items fs c.args.root.now) c.as_slice.ensures.value c.in_ok-fronts.ensures.fronts,
  c.in_ok-lead.ensures.lead,
  c.packages_in.ensures.range,
  subst (λ (l : List ℕ). AreRanges c.args.files.now l c.in_ok-ranges.ranges.items) (c.as_str-2.ensures.same ∙ c.in_ok-lead.ensures.lead) c.in_ok-ranges.ensures.ranges,
)
