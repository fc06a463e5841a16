use Rattle.std.proofs.Common.{◌≡◌, drop, []}
use Rattle.pq_links.specs.Visibility.{reached}
use Rattle.pq_links.specs.aux.Adding.{add_first, add_firsts, same_name}
use Rattle.pq_links.proofs.linked.names.reached_by.Given as goal

abbrev pub invariant-each_pair : goal.invariant-each_pair
invariant-each_pair l = add_firsts same_name l.names (reached (drop l.pair-index l.pairs)) ≡ add_firsts same_name (add_first same_name [] l.file) (reached l.pairs)
