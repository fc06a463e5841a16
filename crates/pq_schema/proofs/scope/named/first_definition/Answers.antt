use Rattle.std.proofs.Common.{◌+◌, List, ℕ, get_or, drop, sym, ap, ◌∙◌}
use Rattle.std.proofs.lemmas.List.{drop_more, drop_all}
use Rattle.pq_schema.specs.aux.FirstOf.{definition_in, first_near}
use Rattle.pq_schema.specs.aux.Hits.{placed}
use Rattle.pq_schema.proofs.FirstNear.{is_placed, near_none, near_some}
use Rattle.pq_schema.proofs.scope.named.first_definition.Goals as goal

pub places-preserved : goal.places-preserved
places-preserved c =
    let answer = definition_in c.args.name.now in
    let files = c.args.files.now in
    let places = c.args.places.now in
    let i = c.places.place-index in
    let found = c.definition_at-found.result in
    c.places.invariant
    ∙ ap (λ (ks : List ℕ). first_near answer files ks) (drop_more places i 0 c.places-test.true)
    ∙ near_none answer files (get_or places i 0) (drop (i + 1) places) (placed found) c.definition_at-found.ensures.is
    (is_placed found ∙ sym c.is_some.ensures ∙ c.if-is_some.false)

pub returns-then-is_some : goal.returns-then-is_some
returns-then-is_some c =
    let answer = definition_in c.args.name.now in
    let files = c.args.files.now in
    let places = c.args.places.now in
    let i = c.places.place-index in
    let found = c.definition_at-found.result in
    record {
      first = near_some answer files (get_or places i 0) (drop (i + 1) places) (placed found) c.definition_at-found.ensures.is
          (is_placed found ∙ sym c.is_some.ensures ∙ c.if-is_some.true)
          ∙ sym (c.places.invariant ∙ ap (λ (ks : List ℕ). first_near answer files ks) (drop_more places i 0 c.places-test.true));
    }

pub returns : goal.returns
returns c =
    let answer = definition_in c.args.name.now in
    let files = c.args.files.now in
    let places = c.args.places.now in
    record {
      first = sym (c.places.invariant ∙ ap (λ (ks : List ℕ). first_near answer files ks) (drop_all c.places.place-index places c.places-test.false));
    }
