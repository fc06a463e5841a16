use Rattle.std.proofs.Common.{ap, ◌∙◌}
use Rattle.pq_view.specs.aux.Sights.{seen}
use Rattle.pq_view.specs.aux.Touched.{edited}
use Rattle.pq_view.proofs.Editing.{edited_more, edited_all}
use Rattle.pq_view.proofs.edits.edits_of.Goals as goal

pub names-init : goal.names-init
names-init c = ap (λ es. edited (seen c.args.before.now) (seen c.args.after.now) es c.args.names.now) c.new-edits.ensures.empty

pub names-preserved : goal.names-preserved
names-preserved c =
    edited_more (seen c.args.before.now) (seen c.args.after.now) c.names.edits c.add_name.new.edits c.args.names.now c.names.name-index c.name-item.result
    c.names-test.true c.name-item.is c.in_ok-add_name.ensures.added ∙ c.names.invariant

pub returns : goal.returns
returns c = record {
  edits = c.into_vec.ensures.edits ∙ edited_all (seen c.args.before.now) (seen c.args.after.now) c.names.edits c.args.names.now c.names.name-index c.names-test.false ∙ c.names.invariant;
}
