use Rattle.std.proofs.Common.{◌≡◌, drop, []}
use Rattle.std.specs.Ordering.{eq_by_cmp}
use Rattle.pq_links.specs.Files.{import_statements}
use Rattle.pq_links.specs.aux.Adding.{add_firsts}
use Rattle.pq_links.specs.contracts.links.ImportOrd.TheImpl as import_order
use Rattle.pq_links.proofs.import_list.imports_in.Given as goal

abbrev pub invariant-each_node : goal.invariant-each_node
invariant-each_node l =
    add_firsts (eq_by_cmp import_order.ghosts.cmp) l.imports (import_statements (drop l.node-index l.nodes))
    ≡ add_firsts (eq_by_cmp import_order.ghosts.cmp) [] (import_statements l.nodes)
