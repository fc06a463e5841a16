use Rattle.std.proofs.Common.{refl, sym, ◌∙◌}
use Rattle.pq_core.proofs.Lists.{some_one}
use Rattle.pq_core.proofs.store.rising.change.Goals as goal

pub returns-in-Some-clause-open : goal.returns-in-Some-clause-open
returns-in-Some-clause-open g c =
    λ value e. (c.f.result, c.f.new.arg2, refl, record { shown = _; shows = some_one _ _ (sym c.in-Some.is ∙ e); left = _; met = c.f.ensures; leaves = refl }, refl)
