use Rattle.std.proofs.Common.{◌≡◌, map, take}
use Rattle.pq_links.proofs.bare.bare_all.Given as goal

abbrev pub invariant-each : goal.invariant-each
invariant-each g l = l.bare.items ≡ map g.T.Bare.bares (take l.item-index l.items)
