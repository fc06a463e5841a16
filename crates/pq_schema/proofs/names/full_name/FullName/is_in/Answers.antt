use Rattle.std.proofs.Common.{◌≡◌, ℕ, ◌<◌, length, get_or, true≢false, List, sym, subst, ◌∙◌, lit<}
use Rattle.std.specs.List.{concat}
use Rattle.std.proofs.lemmas.Str.Pattern.{contains_char}
use Rattle.pq_schema.specs.aux.RightIn.{IsRoot}
use Rattle.pq_schema.proofs.RightIn.{right_in}
use Rattle.pq_schema.proofs.names.full_name.FullName.is_in.Goals as goal

pub returns : goal.returns
returns c =
    let text = c.as_str.result.now in
    let simple = c.self.inside.name in
    let has = contains_char 46 text c.contains.result c.contains.ensures.cases (lit< tt) in
    record {
      inside = λ is.
          right_in (concat c.self.inside.scope) simple c.args.root.now c.args.self.now (sym c.self.view_is)
          (λ i within dot.
          let here = subst (λ (s : List ℕ). (i < length s) × (get_or s i 0 ≡ 46)) (sym c.as_str.ensures.same) (within, dot) in
          true≢false (sym (has.1 i here.0 here.1) ∙ c.if-contains.false))
          (subst (λ (ps : List (List ℕ)). IsRoot (concat ps) c.args.root.now) (c.as_slice.ensures ∙ c.get.ensures.value) (c.is_scope.ensures.scope is));
    }
