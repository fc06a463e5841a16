use Rattle.std.proofs.Common.{◌++◌, [], ◌∷◌, cond, get_or, List, ℕ, sym, ap, ◌∙◌}
use Rattle.std.specs.Prelude.{filter}
use Rattle.std.proofs.lemmas.List.{take_all}
use Rattle.std.proofs.lemmas.List.Elements.{filter_more}
use Rattle.pq_links.specs.aux.Adding.{is_not}
use Rattle.pq_links.proofs.OnceOnly.{firsts_after}
use Rattle.pq_links.proofs.file_names.names_after.Goals as goal

pub names-preserved : goal.names-preserved
names-preserved c =
    let file = c.args.file.now in
    let names = c.as_slice-others.result.now in
    let i = c.names.name-index in
    let name = get_or names i c.name-item.result in
    c.in_ok-push_other.ensures.added
    ∙ ap (λ (n : List ℕ). c.names.all.items ++ cond (is_not file n) (n ∷ []) []) c.name-item.is
    ∙ ap (λ (ns : List (List ℕ)). ns ++ cond (is_not file name) (name ∷ []) []) c.names.invariant
    ∙ ap (λ (ns : List (List ℕ)). file ∷ ns) (sym (filter_more (is_not file) names i c.name-item.result c.names-test.true))

pub returns : goal.returns
returns c = record {
  names = c.names.invariant
      ∙ ap (λ ns. c.args.file.now ∷ filter (is_not c.args.file.now) ns) (take_all c.names.name-index c.as_slice-others.result.now c.names-test.false ∙ c.as_slice-others.ensures.value)
      ∙ firsts_after c.args.file.now c.args.names.now c.as_slice-others.ensures.once;
}
