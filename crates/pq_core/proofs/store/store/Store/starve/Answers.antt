use Rattle.std.proofs.Common.{sym, ◌∙◌}
use Rattle.pq_core.proofs.StepOfRun.{no_run_goes}
use Rattle.pq_core.proofs.StoreAccepting.{false_true}
use Rattle.pq_core.proofs.store.store.Store.starve.Goals as goal

pub returns-then-not-has_run-clause-moved : goal.returns-then-not-has_run-clause-moved
returns-then-not-has_run-clause-moved g c =
    no_run_goes g.R.Key.Ord.cmp (g.R.Rules.machine c.args.self.now.rules) g.M.Stamp.point c.args.self.now c.args.run (λ h. false_true (sym c.if-not-has_run.true ∙ c.has_run.ensures.1 h))

pub end_by-requires : goal.end_by-requires
end_by-requires g c =
    let here = c.has_run.ensures.0 c.if-not-has_run.false in
    record { may = (here.0, here.1, tt) }
