use Rattle.pq_core.proofs.Told.{request_told}
use Rattle.pq_core.specs.Told.{told_ledger}
use Rattle.pq_core.proofs.lanes.cores.Core.request_of.Goals as goal

pub returns : goal.returns
returns g c =
    rw (← c.self.view_is) (λ l s. request_told g.O.Outbox.puts l c.args.run c.request_of.result (c.request_of.ensures (told_ledger g.O.Outbox.puts l) s.store))
