use Rattle.std.proofs.Common.{◌≡◌, ℕ, List, sym, ap, subst, ◌∙◌}
use Rattle.std.specs.List.Sorted.{IsPermutation}
use Rattle.pq_schema.specs.Contents.{Defs}
use Rattle.pq_schema.specs.declared.scope.scope.FileDefs.{FileDefs}
use Rattle.pq_schema.specs.aux.Grouping.{IsBelow}
use Rattle.pq_schema.specs.aux.InPackage.{AllBelow, dotted}
use Rattle.pq_schema.proofs.Grouping.{roots_more, roots_all, below_more, below_end}
use Rattle.pq_schema.proofs.scope.by_package.packages_of.Goals as goal

pub files-preserved : goal.files-preserved
files-preserved c =
    let files = c.args.files.now in
    let item = c.index-files-place.result in
    let root : c.in_ok-root.root ≡ dotted item.defs.package_name =
    c.in_ok-root.ensures.copy ∙ c.root.ensures.name ∙ ap (λ (d : Defs). dotted d.package_name) c.get.ensures.value
    ∙ ap (λ (f : FileDefs). dotted f.defs.package_name) (sym c.index-files-place.is) in
    let below : IsBelow item =
    subst IsBelow (sym c.index-files-place.is) (subst (λ (d : Defs). AllBelow d.package_name d.definitions) c.get.ensures.value c.root.ensures.below) in
    record {
      entries = roots_more files c.files.place c.files.packages.items c.push.new.self.items item c.in_ok-root.root c.files-test.true
          c.index-files-place.is root c.in_ok-push.ensures.items c.files.invariant.entries;
      below = λ rest. c.files.invariant.below (below_more files c.files.place item c.files-test.true c.index-files-place.is below rest);
    }

pub returns : goal.returns
returns c =
    let files = c.args.files.now in
    let all = roots_all files c.files.place c.files.packages.items c.files-test.false c.files.invariant.entries in
    record {
      index = record {
        same = subst (λ (es : List (List ℕ × ℕ)). IsPermutation es c.sort.new.self.items) all c.in_ok-sort.ensures.permutation;
        sorted = c.in_ok-sort.ensures.sorted;
        below = c.files.invariant.below (below_end files c.files.place c.files-test.false);
      };
    }
