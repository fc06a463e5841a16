use Rattle.std.proofs.Common.{◌≡◌, ◌⊎◌, ℕ, List, Option, Bor, true, ap, subst}
use Rattle.std.specs.Option.{option_copied}
use Rattle.pq_rules.specs.Relations.{In}
use Rattle.pq_schema.specs.aux.Scopes.{is_among}
use Rattle.pq_schema.proofs.Around.{near_walked}
use Rattle.pq_schema.proofs.Near.{near_step, near_end}
use Rattle.pq_schema.proofs.Walks.{further, no_further}
use Rattle.pq_schema.proofs.scope.by_package.places_near.Goals as goal

pub scopes-preserved : goal.scopes-preserved
scopes-preserved c = λ root k among at.
    let inner = option_copied c.scopes.inner in
    subst (λ (ss : List (List ℕ)). In k c.add_places.new.near.items ⊎ (is_among root ss ≡ true))
    (further inner (option_copied c.outer-inner.result) c.in-Some.scope.now (ap (λ (o : Option (Bor (List ℕ))). option_copied o) c.in-Some.is) c.outer-inner.ensures.prefixes)
    (near_step c.args.packages.now inner c.scope_or_empty-scope.result.now root k c.scopes.near.items c.add_places.new.near.items c.scope_or_empty-scope.ensures.scope
    c.in_ok-add_places.ensures.kept c.in_ok-add_places.ensures.places (c.scopes.invariant root k among at) at)

pub returns-in-None : goal.returns-in-None
returns-in-None c =
    let inner = option_copied c.scopes.inner in
    record {
      places = λ root k among at.
          near_end _ root k c.add_places.new.near.items (no_further inner (ap (λ (o : Option (Bor (List ℕ))). option_copied o) c.in-None.is))
          (near_step c.args.packages.now inner c.scope_or_empty-scope.result.now root k c.scopes.near.items c.add_places.new.near.items c.scope_or_empty-scope.ensures.scope
          c.in_ok-add_places.ensures.kept c.in_ok-add_places.ensures.places (c.scopes.invariant root k among at) at);
    }

pub returns-then-searches-eq0 : goal.returns-then-searches-eq0
returns-then-searches-eq0 c = record {
  places = λ root k among at.
      near_walked c.args.packages.now (option_copied c.scopes.inner) c.scope_or_empty-scope.result.now root k c.scopes.near.items c.add_around.new.near.items c.scope_or_empty-scope.ensures.scope
      c.in_ok-add_around.ensures.kept c.in_ok-add_around.ensures.places (c.scopes.invariant root k among at) at;
}
