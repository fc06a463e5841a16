use Rattle.std.proofs.Common.{refl, [], ◌∷◌}
use Rattle.pq_schema.proofs.Gathering.{gathered_more, gathered_all, pushed}
use Rattle.pq_schema.proofs.scope.collected.copy_files.Goals as goal

pub files-preserved : goal.files-preserved
files-preserved c =
    gathered_more (λ f. f ∷ []) (λ fs. fs) (λ f fs. refl) _ _ _ _ _ _ c.files-test.true
    (pushed (λ f. f) _ _ _ _ _ c.in_ok-push.ensures.items c.in_ok-copy_file.ensures.copy c.file-item.is) c.files.invariant

pub returns : goal.returns
returns c = record { copy = gathered_all (λ fs. fs) refl _ _ _ _ c.files-test.false c.files.invariant }
