use Rattle.std.proofs.Common.{refl, ap, ◌∙◌}
use Rattle.std.specs.Prelude.{option_to_list}
use Rattle.std.specs.Ordering.{eq_by_cmp}
use Rattle.pq_links.specs.Files.{import_of, import_statements}
use Rattle.pq_links.specs.aux.Adding.{add_firsts}
use Rattle.pq_links.specs.contracts.links.ImportOrd.TheImpl as import_order
use Rattle.pq_links.proofs.AddSteps.{adds_more, adds_all}
use Rattle.pq_links.proofs.ImportSteps.{imports_more, added_imports}
use Rattle.pq_links.proofs.import_list.imports_in.Goals as goal

pub each_node-init : goal.each_node-init
each_node-init c =
    ap (λ is. add_firsts (eq_by_cmp import_order.ghosts.cmp) is (import_statements c.args.nodes.now)) c.new-imports.ensures.empty

pub each_node-preserved : goal.each_node-preserved
each_node-preserved c =
    adds_more (eq_by_cmp import_order.ghosts.cmp) (λ n. option_to_list (import_of n.statement)) import_statements imports_more _ _ _ _ _ _ c.each_node-test.true
    (c.in_ok-add_import.ensures.added ∙ ap (λ n. add_firsts (eq_by_cmp import_order.ghosts.cmp) c.each_node.imports (option_to_list (import_of n.statement))) c.node-item.is) c.each_node.invariant

pub returns : goal.returns
returns c = record {
  imports = c.new.ensures ∙ c.into_vec.ensures.items
      ∙ adds_all (eq_by_cmp import_order.ghosts.cmp) import_statements refl _ _ _ _ c.each_node-test.false c.each_node.invariant
      ∙ added_imports c.args.nodes.now;
}
