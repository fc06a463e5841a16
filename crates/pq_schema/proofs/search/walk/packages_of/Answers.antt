use Rattle.std.proofs.Common.{ℕ, List, Some, sym, ap, subst, ◌∙◌}
use Rattle.pq_schema.specs.declared.scope.package_range.PackageRange.{PackageRange}
use Rattle.pq_schema.specs.declared.scope.scope.FileDefs.{FileDefs}
use Rattle.pq_schema.specs.aux.Asked.{AreAsked}
use Rattle.pq_schema.specs.aux.Inside.{AreInner}
use Rattle.pq_schema.specs.aux.NameParts.{leading}
use Rattle.pq_schema.specs.aux.PackageRange.{IsRange}
use Rattle.pq_schema.proofs.OpenedPackages.{around_package, around_scope, opened_range, some_name}
use Rattle.pq_schema.proofs.search.walk.packages_of.Goals.{in-Some+in_ok-outer-in-Some, in-None}
use Rattle.pq_schema.proofs.search.walk.packages_of.Goals as goal

pub returns : goal.returns
returns c =
    let asked = c.args.asked.now in
    let range : (files : List FileDefs) (root : List ℕ) (scope : List ℕ × List (List ℕ)) → IsRange files (leading root) c.args.outermost
    → AreInner scope.1 root scope.0 → AreAsked files scope.1 asked → IsRange files (leading scope.0) c.match-last.outer =
    elim c.match-last.branch [
      | in-Some+in_ok-outer-in-Some w ↦ λ files root scope outermost inner are.
          around_scope files root scope asked w.in-Some.scope.now c.match-last.outer w.in-Some.ensures.value
          (w.in_ok-outer-in-Some.was ∙ ap Some (sym w.outer-is)) inner are
      | in-None w ↦ λ files root scope outermost inner are.
          subst (λ (r : PackageRange). IsRange files (leading scope.0) r) (sym w.outer-is)
          (around_package files root scope asked c.args.outermost w.in-None.ensures.value outermost inner are)
    ] in
    record {
      packages = λ files root scope outermost inner are.
          opened_range files scope c.args.name.now c.match-last.outer c.inside.result (some_name c.args.name.now (sym c.is_empty.ensures ∙ c.if-is_empty.false))
          c.inside.ensures.range (range files root scope outermost inner are);
    }
