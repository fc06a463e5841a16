use Rattle.std.proofs.Common.{◌≡◌, ◌≤◌, length, arith}
use Rattle.pq_play.proofs.Finishing.{closing_start, closing_next, gathers}
use Rattle.pq_play.proofs.run.close_all.Goals as goal

pub close-requires : goal.close-requires
close-requires g c = let p = c.clients.invariant c.requires.0 c.requires.1 in (p.v, p.stood)

pub clients-init : goal.clients-init
clients-init g c = λ w s. closing_start 0 g.R.Key.Ord.cmp (g.R.Rules.machine c.args.rules.now) c.args.rules.now w _ _ _ _ s

pub clients-preserved : goal.clients-preserved
clients-preserved g c = λ w s. closing_next 0 g.R.Key.Ord.cmp (g.R.Rules.machine c.args.rules.now) c.args.rules.now w _ _ _ _ _ _ _ _ _ _ c.new.ensures (c.clients.invariant w s) (c.close.ensures 0)

pub returns : goal.returns
returns g c = λ w s.
    let places : length c.args.sheet.now.seats.items ≡ length w.ledger.clients = s.fits.aligned.places in
    let past : length w.ledger.clients ≤ c.clients.place = omega (arith, c.len-count.ensures, c.args.sheet.now.seats.ok.0, c.clients-test.false) in
    gathers 0 g.R.Key.Ord.cmp (g.R.Rules.machine c.args.rules.now) c.args.rules.now w c.clients.place _ _ _ _ past (c.clients.invariant w s)
