-- Auxiliary: the turn after an answer to the query of links, computed before the part changes (used
-- by proofs and invariants only).
use Rattle.std.specs.Prelude.{ℕ, List, [], ◌∷◌, ◌++◌}
use Rattle.pq_rules.specs.declared.turn.Turn.{Turn}
use Rattle.pq_rules.specs.declared.turn.Turn.TheVariants.{Ask, Done}
use Rattle.pq_links.specs.Visibility.{links_by, no_links}
use Rattle.pq_links.specs.declared.links.Import.{Import}
use Rattle.pq_links.specs.declared.links.Links.{Links}

-- `follows linked f j l` is the turn, without its part, after the links of the first import that is
-- left in `j` were read as `l`
abbrev pub follows : {K : Type 0} → (List ℕ → K) → List ℕ → List Import × List (Import × Links) → Links → Turn K (Unit {0}) Links
follows linked f ([], pairs) l = Done no_links
follows linked f (i ∷ [], pairs) l = Done (links_by f (pairs ++ (i, l) ∷ []))
follows linked f (i ∷ (j ∷ is), pairs) l = Ask (linked j.file) tt

-- `first_turn linked f is` is the turn, without its part, after the imports of the file `f` were
-- read as `is`
abbrev pub first_turn : {K : Type 0} → (List ℕ → K) → List ℕ → List Import → Turn K (Unit {0}) Links
first_turn linked f [] = Done (links_by f [])
first_turn linked f (i ∷ is) = Ask (linked i.file) tt
