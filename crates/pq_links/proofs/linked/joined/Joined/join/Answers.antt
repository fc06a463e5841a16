use Rattle.std.proofs.Common.{◌≡◌, List, [], ◌∷◌, ◌++◌, ap, ◌∙◌}
use Rattle.std.proofs.lemmas.Result.{IfOk-weaker}
use Rattle.pq_links.specs.Visibility.{links_by}
use Rattle.pq_links.specs.declared.links.Import.{Import}
use Rattle.pq_links.specs.declared.links.Links.{Links}
use Rattle.pq_links.proofs.linked.joined.Joined.join.Goals as goal

pub returns : goal.returns
returns c = record {
  links =
      let pairs : c.as_slice.result.now ≡ c.args.self.now.1 = c.as_slice.ensures.value ∙ ap (λ (j : List Import × List (Import × Links)). j.1) c.self.view_is in
      IfOk-weaker c.join.result _ _
      (λ l e. e ∙ ap (λ (ps : List (Import × Links)). links_by c.args.file.now (ps ++ (c.args.last.now, c.args.links.now) ∷ [])) pairs)
      c.join.ensures.links;
}
