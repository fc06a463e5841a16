use Rattle.std.proofs.Common.{◌++◌, ℕ, List, Option, Bor, map, sym, ap, ◌∙◌, append-nil}
use Rattle.std.specs.Prelude.{filter}
use Rattle.std.specs.Option.{option_copied}
use Rattle.pq_schema.specs.aux.NameParts.{leading}
use Rattle.pq_schema.specs.aux.Spots.{is_kept}
use Rattle.pq_schema.proofs.Marks.{kept_step}
use Rattle.pq_schema.proofs.Walks.{further, no_further}
use Rattle.pq_schema.proofs.search.spots.marked_scopes.Goals as goal

pub scopes-preserved : goal.scopes-preserved
scopes-preserved c =
    let keep = is_kept c.args.marks.now in
    let inner = option_copied c.scopes.inner in
    let next = option_copied c.outer-inner.result in
    ap (λ (ss : List (List ℕ)). c.add_spot.new.spots.items ++ map leading (filter keep ss))
    (sym (further inner next c.in-Some.scope.now (ap (λ (o : Option (Bor (List ℕ))). option_copied o) c.in-Some.is) c.outer-inner.ensures.prefixes))
    ∙ kept_step keep inner c.scope_or_empty.result.now c.scopes.spots.items c.add_spot.new.spots.items _
    c.scope_or_empty.ensures.scope c.in_ok-add_spot.ensures.spot c.scopes.invariant

pub returns-in-None : goal.returns-in-None
returns-in-None c =
    let keep = is_kept c.args.marks.now in
    let inner = option_copied c.scopes.inner in
    record {
      spots = sym (append-nil c.add_spot.new.spots.items)
          ∙ ap (λ (ss : List (List ℕ)). c.add_spot.new.spots.items ++ map leading (filter keep ss))
          (sym (no_further inner (ap (λ (o : Option (Bor (List ℕ))). option_copied o) c.in-None.is)))
          ∙ kept_step keep inner c.scope_or_empty.result.now c.scopes.spots.items c.add_spot.new.spots.items _
          c.scope_or_empty.ensures.scope c.in_ok-add_spot.ensures.spot c.scopes.invariant;
    }
