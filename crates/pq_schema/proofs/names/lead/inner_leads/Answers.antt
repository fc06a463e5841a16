use Rattle.std.proofs.Common.{◌≡◌, ◌++◌, ℕ, List, Option, Bor, map, sym, subst, ◌∙◌, append-nil}
use Rattle.std.specs.Option.{option_copied}
use Rattle.pq_schema.specs.Definitions.{qualified}
use Rattle.pq_schema.specs.aux.NameParts.{leading}
use Rattle.pq_schema.specs.aux.Scopes.{before}
use Rattle.pq_schema.proofs.Inside.{leads_more}
use Rattle.pq_schema.proofs.names.lead.inner_leads.Goals as goal

pub scopes-preserved : goal.scopes-preserved
scopes-preserved c root is =
    let old = c.scopes.leads.items in
    let whole = map leading (map (qualified root) (before (option_copied c.args.next))) in
    let so_far = subst (λ (o : Option (Bor (List ℕ))). old ++ map leading (map (qualified root) (before (option_copied o))) ≡ whole) c.in-Some.is (c.scopes.invariant root is) in
    leads_more root (option_copied c.outer-inner.result) c.in-Some.scope.now c.in_ok-inner_lead-in-Some.field-0 old c.push.new.self.items whole
    c.outer-inner.ensures.prefixes (c.in_ok-inner_lead-in-Some.ensures.lead root is) c.in_ok-push-in-Some.ensures.items so_far

pub returns-in-None : goal.returns-in-None
returns-in-None c = record {
  leads = λ root is.
      let old = c.scopes.leads.items in
      let whole = map leading (map (qualified root) (before (option_copied c.args.next))) in
      sym (append-nil old)
      ∙ subst (λ (o : Option (Bor (List ℕ))). old ++ map leading (map (qualified root) (before (option_copied o))) ≡ whole) c.in-None.is (c.scopes.invariant root is);
}
