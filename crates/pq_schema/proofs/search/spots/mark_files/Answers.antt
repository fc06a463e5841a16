use Rattle.std.proofs.Common.{List, take, ap, subst, ◌∙◌}
use Rattle.pq_schema.specs.aux.Spots.{AreMarked}
use Rattle.pq_schema.specs.declared.define.definitions.Definition.{Definition}
use Rattle.pq_schema.specs.declared.scope.scope.FileDefs.{FileDefs}
use Rattle.pq_schema.proofs.Marks.{each_more, each_weaker, marks_stay}
use Rattle.pq_schema.proofs.search.spots.mark_files.Goals as goal

pub files-preserved : goal.files-preserved
files-preserved c =
    let fs = c.args.files.now in
    let new = c.mark_each.new.marks in
    let root = c.args.root.now in
    let f = c.index-files-i.result in
    record {
      count = c.mark_each.ensures.count ∙ c.files.invariant.count;
      marked = record {
        each = each_more (λ (x : FileDefs). AreMarked new root x.defs.definitions) fs c.files.i f c.files-test.true
            (each_weaker (λ (x : FileDefs). AreMarked c.files.marks root x.defs.definitions) (λ (x : FileDefs). AreMarked new root x.defs.definitions) (take c.files.i fs)
            (λ x are. marks_stay c.files.marks new root x.defs.definitions c.mark_each.ensures.stay are) c.files.invariant.marked.each)
            (subst (λ (ds : List Definition). AreMarked new root ds) (c.definitions.ensures.value ∙ ap (λ x. x.definitions) c.get.ensures.value) c.mark_each.ensures.marked);
      };
    }
