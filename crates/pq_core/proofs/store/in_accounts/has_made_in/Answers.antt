use Rattle.std.proofs.Common.{sym}
use Rattle.pq_core.proofs.MadeCounts.{account_tells}
use Rattle.pq_core.specs.aux.Accounts.{HasMade}
use Rattle.pq_core.proofs.store.in_accounts.has_made_in.Goals as goal

pub returns-in-Some : goal.returns-in-Some
returns-in-Some g c =
    account_tells (λ account. HasMade account) c.args.accounts.now.items c.args.client c.in-Some.account.now c.has_made.result (sym (c.in-Some.ensures {u = tt})) c.has_made.ensures
