use Rattle.std.proofs.Common.{◌≡◌, drop}
use Rattle.pq_links.specs.aux.Adding.{add_firsts, same_name}
use Rattle.pq_links.proofs.linked.names.add_names.Given as goal

abbrev pub invariant-each_name : goal.invariant-each_name
invariant-each_name l = add_firsts same_name l.names (drop l.name-index l.more) ≡ add_firsts same_name l.fn.names l.more
