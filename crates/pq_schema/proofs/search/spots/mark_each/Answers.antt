use Rattle.std.proofs.Common.{take, ◌∙◌}
use Rattle.pq_schema.specs.aux.Spots.{IsMarked}
use Rattle.pq_schema.specs.declared.define.definitions.Definition.{Definition}
use Rattle.pq_schema.proofs.Marks.{each_more, marks_stay}
use Rattle.pq_schema.proofs.search.spots.mark_each.Goals as goal

pub definitions-preserved : goal.definitions-preserved
definitions-preserved c =
    let ds = c.args.definitions.now in
    let new = c.mark.new.marks in
    let root = c.args.root.now in
    let d = c.index-definitions-i.result in
    record {
      count = c.mark.ensures.count ∙ c.definitions.invariant.count;
      stay = λ k h. c.mark.ensures.stay k (c.definitions.invariant.stay k h);
      marked = record {
        each = each_more (λ (x : Definition). IsMarked new root x.full_name) ds c.definitions.i d c.definitions-test.true
            (marks_stay c.definitions.marks new root (take c.definitions.i ds) c.mark.ensures.stay c.definitions.invariant.marked).each
            c.mark.ensures.marked;
      };
    }
