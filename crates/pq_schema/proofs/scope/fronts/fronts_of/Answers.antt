use Rattle.std.proofs.Common.{◌≡◌, ◌∙◌, List, ℕ, sym, ap, subst}
use Rattle.pq_schema.specs.Contents.{Defs}
use Rattle.pq_schema.specs.declared.scope.scope.FileDefs.{FileDefs}
use Rattle.pq_schema.specs.aux.Fronts.{BothBegin, DiffersAt}
use Rattle.pq_schema.specs.aux.NameParts.{leading}
use Rattle.pq_schema.proofs.CommonFronts.{fronts_more, no_fronts}
use Rattle.pq_schema.proofs.scope.fronts.fronts_of.Goals as goal

pub files-init : goal.files-init
files-init c = no_fronts c.in_ok-fronts.fronts.items c.args.files.now c.args._root.now (c.in_ok-fronts.ensures.items)

pub files-preserved : goal.files-preserved
files-preserved c =
    let f = c.index-files-i.result in
    let root = c.args._root.now in
    let n = c.common.result in
    let name : c.package_name-package.result.now ≡ f.defs.package_name =
    c.package_name-package.ensures.name ∙ ap (λ (d : Defs). d.package_name) (c.get.ensures.value ∙ ap (λ (x : FileDefs). x.defs) (sym c.index-files-i.is)) in
    fronts_more c.args.files.now c.files.fronts.items c.push.new.self.items c.files.i n f root c.files-test.true c.in_ok-push.ensures.items
    (sym c.index-files-i.is)
    (subst (λ (p : List ℕ). BothBegin n.0 (leading root) p) name (subst (λ (l : List ℕ). BothBegin n.0 l c.package_name-package.result.now) c.requires.lead c.common.ensures.both))
    (λ e. subst (λ (p : List ℕ). DiffersAt n.0 (leading root) p) name (subst (λ (l : List ℕ). DiffersAt n.0 l c.package_name-package.result.now) c.requires.lead (c.common.ensures.differ e)))
    c.files.invariant
