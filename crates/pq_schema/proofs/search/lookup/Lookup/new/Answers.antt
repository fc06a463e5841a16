use Rattle.std.proofs.Common.{ℕ, List, length, sym, ap, subst}
use Rattle.pq_schema.specs.declared.scope.scope.FileDefs.{FileDefs}
use Rattle.pq_schema.specs.aux.NearNames.{IsNamesOf}
use Rattle.pq_schema.proofs.search.lookup.Lookup.new.Goals as goal

pub invariant_of-result : goal.invariant_of-result
invariant_of-result c =
    let names = c.in_ok-names.names.items in
    let files = c.args.files.now in (
      subst (λ (ks : List ℕ). IsNamesOf names files ks) c.deref-2.ensures.value
          (subst (λ (fs : List FileDefs). IsNamesOf names fs c.deref-2.result.now) c.as_slice-2.ensures.value c.in_ok-names.ensures.names),
      λ roots. c.in_ok-all.ensures.near files roots (ap length (sym c.as_slice-count.ensures.value)),
      λ roots. c.in_ok-all.ensures.near files roots (ap length (sym c.as_slice-count.ensures.value)),
    )
