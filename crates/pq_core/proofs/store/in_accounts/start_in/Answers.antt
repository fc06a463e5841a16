use Rattle.std.proofs.Common.{◌≡◌, ℕ, rules}
use Rattle.pq_core.specs.Accounts.{IsStage, with_stage}
use Rattle.pq_core.specs.declared.store.account.Stage.TheVariants.{Waiting, Running}
use Rattle.pq_core.proofs.store.in_accounts.start_in.Goals as goal

pub returns : goal.returns
returns g c =
    let w = c.requires.1 in
    let r = c.update.ensures.«open» w.account w.here in
    let s : (accepted : ℕ) × IsStage w.account c.args.number (Waiting c.in-Some.request accepted) × (r.1 ≡ with_stage w.account c.args.number (Running (record { run = c.args.run; accepted = accepted }))) = search rules in
    (record { account = w.account; here = w.here; accepted = s.0; waits = s.1 }, rw (← s.2) r.4)
