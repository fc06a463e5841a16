use Rattle.std.proofs.Common.{ℕ, List, ◌++◌, sym, ap, subst, ◌∙◌, append-nil}
use Rattle.std.specs.List.{concat}
use Rattle.std.proofs.lemmas.Result.{IfOk-weaker}
use Rattle.pq_schema.specs.declared.scope.scope.FileDefs.{FileDefs}
use Rattle.pq_schema.specs.Resolution.{found}
use Rattle.pq_schema.specs.aux.NameParts.{leading}
use Rattle.pq_schema.specs.aux.PackageRange.{IsRange}
use Rattle.pq_schema.proofs.search.outward.find_in_package.Goals as goal

pub find_below-requires : goal.find_below-requires
find_below-requires c =
    let root = c.args.along.now.root in
    let name = c.args.name.now in
    let parts = ap (λ (ps : List (List ℕ)). concat ps) c.from_ref-lead.ensures.value ∙ append-nil c.lead.result.now ∙ c.lead.ensures.lead in
    record {
      files = c.requires.files;
      front = (name, ap (λ (l : List ℕ). l ++ name) parts);
      packages = subst (λ (l : List ℕ). IsRange c.args.files.now l c.packages.result) (sym parts)
          (subst (λ (fs : List FileDefs). IsRange fs (leading root) c.packages.result) c.requires.files c.packages.ensures.range);
    }

pub returns : goal.returns
returns c =
    let name = c.args.name.now in
    let parts = ap (λ (ps : List (List ℕ)). concat ps) c.from_ref-lead.ensures.value ∙ append-nil c.lead.result.now ∙ c.lead.ensures.lead in
    record {
      is = IfOk-weaker c.find_below.result _ _ (λ hit h. h ∙ ap (λ (l : List ℕ). found c.args.files.now (l ++ name)) parts) c.find_below.ensures.is;
    }
