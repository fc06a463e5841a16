use Rattle.std.proofs.Common.{◌<◌, ℕ, List, [], get_or, length, sym, ap, subst, ◌∙◌}
use Rattle.std.proofs.lemmas.List.{get_or_default}
use Rattle.pq_schema.proofs.search.inner.Inner.lead.Goals as goal

pub returns : goal.returns
returns c =
    let leads = c.self.inside.leads.items in
    let within : c.args.at < length leads = subst (λ (s : List ℕ × List (List ℕ)). c.args.at < length s.1) (sym c.self.view_is) c.requires.at in
    record {
      lead = c.get.ensures.value ∙ c.index.ensures ∙ get_or_default leads c.args.at c.index.result.now [] within
          ∙ ap (λ (s : List ℕ × List (List ℕ)). get_or s.1 c.args.at []) c.self.view_is;
    }
