use Rattle.std.proofs.Common.{◌++◌, [], ◌∷◌, cond, get_or, List, ℕ, sym, ap, ◌∙◌}
use Rattle.std.specs.Prelude.{filter}
use Rattle.std.proofs.lemmas.List.{take_all}
use Rattle.std.proofs.lemmas.List.Elements.{filter_more}
use Rattle.pq_schema.specs.aux.FirstOf.{is_other_at}
use Rattle.pq_schema.proofs.scope.files.others_of.Goals as goal

pub places-preserved : goal.places-preserved
places-preserved c =
    let other = is_other_at c.args.file.now c.args.files.now in
    let places = c.args.places.now in
    let i = c.places.place-index in
    let k = get_or places i 0 in
    c.in_ok-push_other.ensures.added
    ∙ ap (λ (ks : List ℕ). ks ++ cond (other k) (k ∷ []) []) c.places.invariant
    ∙ sym (filter_more other places i 0 c.places-test.true)

pub returns : goal.returns
returns c =
    let places = c.args.places.now in
    record {
      others = c.places.invariant ∙ ap (filter (is_other_at c.args.file.now c.args.files.now)) (take_all c.places.place-index places c.places-test.false);
    }
