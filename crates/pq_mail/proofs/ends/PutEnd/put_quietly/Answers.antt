use Rattle.std.proofs.Common.{ℕ, List, length, sym, ap, subst}
use Rattle.crossbeam_channel.specs.Claims.{view}
use Rattle.crossbeam_channel.specs.Fifo.{Pushes}
use Rattle.pq_mail.specs.aux.Lines.{Relayed, Put}
use Rattle.pq_mail.proofs.Relays.{puts, holds}
use Rattle.pq_mail.proofs.ends.PutEnd.put_quietly.Goals as goal

pub try_send_as-requires-clause-rule : goal.try_send_as-requires-clause-rule
try_send_as-requires-clause-rule g c =
    let p = c.self.inside.pass in let i = c.self.invariant in
    let fit : g.T.Item.fits (length (view p).put) c.args.item = subst (λ (l : List g.row.T.Denot). g.T.Item.fits (length l) c.args.item) (sym (ap (λ s. s.items) c.self.view_is)) c.requires.fits in
    (subst (λ (n : ℕ). Pushes (Relayed g.T.Item.fits) n p.id (view p) c.args.item (Put (view p) c.args.item)) (sym i.2) (puts g.T.Item.fits p.id (view p) c.args.item i.1 fit), holds g.T.Item.fits p.id (view p) i.1)
