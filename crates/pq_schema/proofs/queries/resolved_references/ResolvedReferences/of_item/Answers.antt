use Rattle.std.proofs.Common.{List, subst, sym, ◌∙◌}
use Rattle.pq_schema.specs.OfItem.{IsOfItem}
use Rattle.pq_schema.specs.declared.queries.resolved.ResolvedReference.{ResolvedReference}
use Rattle.pq_schema.proofs.ItemRanges.{whole_of}
use Rattle.pq_schema.proofs.queries.resolved_references.ResolvedReferences.of_item.Goals as goal

-- the order is not known, so the part is the whole list
pub returns-else-self : goal.returns-else-self
returns-else-self c = record {
  of = subst (λ (xs : List ResolvedReference). IsOfItem c.args.self.now c.args.item xs) (sym (c.deref-else-self.ensures.value ∙ c.self.view_is))
      (whole_of c.args.self.now c.args.item);
}
