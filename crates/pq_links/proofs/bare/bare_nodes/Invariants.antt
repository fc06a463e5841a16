use Rattle.std.proofs.Common.{◌≡◌, map, take}
use Rattle.pq_links.specs.Bare.{bare}
use Rattle.pq_links.proofs.bare.bare_nodes.Given as goal

abbrev pub invariant-nodes : goal.invariant-nodes
invariant-nodes l = l.copies.items ≡ map bare (take l.node-index l.nodes)
