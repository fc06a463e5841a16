use Rattle.std.proofs.Common.{◌≡◌, ◌++◌, drop}
use Rattle.pq_schema.proofs.search.inner.copy_leads.Given as goal

abbrev pub invariant-leads : goal.invariant-leads
invariant-leads l = l.out.items ++ drop l.lead-index l.leads ≡ l.fn.out.items ++ l.leads
