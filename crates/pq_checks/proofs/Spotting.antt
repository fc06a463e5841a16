-- The walk that gives each statement with what contains it, and what is listed of these.
use Rattle.std.proofs.Common.{◌≡◌, List, [], ◌∷◌, map, refl, sym, ap, ◌∙◌}
use Rattle.std.specs.Prelude.{flat_map}
use Rattle.std.proofs.lemmas.List.Folds.{flat_map-map}
use Rattle.pq_syntax.specs.Places.{Item, Place, kept}
use Rattle.pq_syntax.proofs.Walk.{given}
use Rattle.pq_checks.specs.Owners.{around_of, Site}
use Rattle.pq_syntax.specs.declared.tree.Statement.{Statement}
use Rattle.pq_checks.specs.Members.{Sited, sited_at, each_at}
use Rattle.pq_checks.specs.aux.Spots.{outside, opened, in_spot, sited_by, sited_in}
use Rattle.pq_checks.specs.declared.tree.spots.Around.{Around}
use Rattle.pq_checks.specs.declared.tree.spots.Spot.{Spot}

-- what the walk keeps of an item
abbrev pub keep : Item → Around → Around
keep i outer = opened outer i.number i.node.statement

-- what the walk gives at an item
abbrev pub emit : Around → Item → List Sited
emit a i = (record { item = i.number; around = a }, i.node) ∷ []

kept_is : (is : List Item) → kept keep outside is ≡ around_of is
unfolding kept
kept_is [] = refl
kept_is (i ∷ outer) = ap (λ (a : Around). opened a i.number i.node.statement) (kept_is outer)

-- what the walk gives is each statement with what contains it
pub given_seen : (ps : List Place) → given keep outside emit ps ≡ map sited_at ps
given_seen [] = refl
given_seen (p ∷ ps) =
    ap (λ (a : Around). (record { item = p.item.number; around = a }, p.item.node) ∷ given keep outside emit ps) (kept_is p.within)
    ∙ ap (λ (xs : List Sited). sited_at p ∷ xs) (given_seen ps)

-- what is listed of each spot is what is listed of each statement
pub spotted : {A : Type 0} (f : Site → Statement → List A) (spots : List Spot) → flat_map (in_spot f) spots ≡ each_at f (sited_in spots)
spotted f spots = sym (flat_map-map (λ (s : Sited). f s.0 s.1.statement) sited_by spots)
