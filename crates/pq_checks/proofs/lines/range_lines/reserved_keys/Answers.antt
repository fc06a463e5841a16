use Rattle.std.proofs.Common.{ap, ◌∙◌}
use Rattle.std.proofs.lemmas.Result.{IfOk-weaker}
use Rattle.pq_checks.specs.aux.Cover.{is_covered}
use Rattle.pq_checks.specs.aux.Lines.{key_cmp}
use Rattle.pq_checks.proofs.lines.range_lines.reserved_keys.Goals as goal

pub returns-clause-same : goal.returns-clause-same
returns-clause-same c =
    IfOk-weaker c.stairs.result _ _ (λ s h k. h k ∙ ap (λ ps. is_covered key_cmp ps k) c.in_ok-keys.ensures) c.stairs.ensures.same
