use Rattle.pq_mail.proofs.Relays.{gets, nothing}
use Rattle.pq_mail.proofs.ends.GetEnd.try_get.Goals as goal

pub try_recv_as-requires-clause-rule : goal.try_recv_as-requires-clause-rule
try_recv_as-requires-clause-rule g c = (gets g.T.Item.fits _ _ c.self.invariant.1, nothing g.T.Item.fits _ _)
