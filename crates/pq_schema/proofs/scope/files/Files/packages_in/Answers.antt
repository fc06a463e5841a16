use Rattle.std.proofs.Common.{ℕ, List, [], sym, subst, ◌∙◌}
use Rattle.pq_schema.specs.declared.scope.scope.FileDefs.{FileDefs}
use Rattle.pq_schema.specs.aux.Grouping.{IsIndex}
use Rattle.pq_schema.specs.aux.NameParts.{leading}
use Rattle.pq_schema.specs.aux.PackageRange.{IsRange}
use Rattle.pq_schema.proofs.PackageRanges.{dotted_leads}
use Rattle.pq_schema.proofs.scope.files.Files.packages_in.Goals as goal

pub returns : goal.returns
returns c =
    let files = c.self.inside.files.items in
    let index = subst (λ (xs : List (List ℕ × ℕ)). IsIndex xs files) (sym c.deref.ensures.value) c.self.invariant.0 in
    let range = c.inside.ensures.range files [] (c.all-all.ensures.range files index) in
    record {
      range = subst (λ (fs : List FileDefs). IsRange fs (leading c.args.root.now) c.inside.result) c.self.view_is
          (subst (λ (l : List ℕ). IsRange files l c.inside.result) (dotted_leads c.args.root.now (sym c.is_empty.ensures ∙ c.if-is_empty.false)) range);
    }
