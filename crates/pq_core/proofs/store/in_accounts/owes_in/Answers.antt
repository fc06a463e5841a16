use Rattle.std.proofs.Common.{◌<◌, length, sym}
use Rattle.pq_core.proofs.MadeCounts.{account_tells}
use Rattle.pq_core.proofs.store.in_accounts.owes_in.Goals as goal

pub returns-in-Some : goal.returns-in-Some
returns-in-Some g c =
    account_tells (λ account. 0 < length account.stages) c.args.accounts.now.items c.args.client c.in-Some.account.now c.owes.result (sym (c.in-Some.ensures {u = tt})) c.owes.ensures
