use Rattle.std.proofs.Common.{rules}
use Rattle.pq_core.specs.aux.Withdrawing.{IsWithdrawnIn}
use Rattle.pq_core.proofs.store.in_accounts.withdraw_in.Goals as goal

pub returns : goal.returns
returns g c =
    let w = c.requires.waits.1 in
    let here = rw (← c.number.ensures) at w.here in
    let r = c.update.ensures.«open» w.account here in
    let s : IsWithdrawnIn c.args.client c.args.number c.args.now w.account r.1 = search rules in
    (w.account, r.1, w.here, s, rw (← c.number.ensures) r.4)
