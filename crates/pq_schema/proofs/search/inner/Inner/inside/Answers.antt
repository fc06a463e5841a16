use Rattle.std.proofs.Common.{◌∙◌}
use Rattle.std.proofs.lemmas.Result.{IfOk-weaker}
use Rattle.pq_schema.proofs.Inside.{opened_is}
use Rattle.pq_schema.proofs.search.inner.Inner.inside.Goals as goal

pub returns : goal.returns
returns c =
    let name = c.args.name.now in
    record {
      inside = IfOk-weaker c.new.result _ _
          (λ s h. h ∙ opened_is name c.self.inside.scope c.self.inside.leads.items c.in_ok-leads.leads.items c.copy_leads.new.out.items c.deref.result.now c.in_ok-inside.field-0 _ c.args.self.now
          c.name.result.now c.as_str.result.now c.name.ensures.name c.as_str.ensures.same c.next_in-next.ensures.next
          (c.in_ok-leads.ensures.leads c.self.inside.scope c.parts.ensures.parts)
          c.in_ok-copy_leads.ensures.copy c.deref.ensures.value c.in_ok-inside.ensures.name c.self.view_is)
          c.new.ensures.value;
    }
