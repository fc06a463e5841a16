use Rattle.std.proofs.Common.{refl}
use Rattle.std.specs.Prelude.{option_to_list, find, bytes_eq}
use Rattle.pq_schema.specs.Answers.{picked}
use Rattle.pq_schema.specs.declared.scope.scope.FileDefs.{FileDefs}
use Rattle.pq_schema.proofs.Gathering.{gathered_more, gathered_all, picked_more, picked_step}
use Rattle.pq_schema.proofs.scope.collected.pick_many.Goals as goal

pub names-preserved : goal.names-preserved
names-preserved c =
    let files = c.args.files.now in
    gathered_more (λ n. option_to_list (find (λ (f : FileDefs). bytes_eq f.file n) files)) (picked files) (picked_more files) _ _ _ _ _ _ c.names-test.true
    (picked_step files _ c.in_ok-index.ensures.first _ _ _ _ c.in_ok-push_named.ensures.added c.name-item.is)
    c.names.invariant

pub returns : goal.returns
returns c = record { picked = gathered_all (picked c.args.files.now) refl _ _ _ _ c.names-test.false c.names.invariant }
