-- Auxiliary: the statements of a tree, each with what contains it, as the walk keeps them (used by
-- proofs and invariants only).
use Rattle.std.specs.Prelude.{ℕ, false, cond, List, Some, None, map}
use Rattle.pq_syntax.specs.declared.tree.Statement.{Statement}
use Rattle.pq_checks.specs.Members.{Sited}
use Rattle.pq_checks.specs.Owners.{is_enum, is_oneof, Site}
use Rattle.pq_checks.specs.declared.tree.spots.Around.{Around}
use Rattle.pq_checks.specs.declared.tree.spots.Spot.{Spot}

-- `outside` is what contains a statement at file level: nothing
abbrev pub outside : Around
outside = record { holder = None; owner = None; in_enum = false }

-- `opened a number s` is what contains a statement in the body of the statement `s` of the number
-- `number`, which `a` contains
abbrev pub opened : Around → ℕ → Statement → Around
opened a number s = record { holder = Some number; owner = cond (is_oneof s) a.owner (Some number); in_enum = is_enum s }

-- `seen s` is the number of the statement of the spot `s`, and what contains it
abbrev pub seen : Spot → Site
seen s = record { item = s.item; around = s.around }

-- `in_spot f s` is what `f` lists of the statement of the spot `s`
abbrev pub in_spot : {A : Type 0} → (Site → Statement → List A) → Spot → List A
in_spot f s = f (seen s) s.node.now.statement

-- `sited_by s` is the statement of the spot `s`, with its number and what contains it, and
-- `sited_in spots` lists those of `spots`
abbrev pub sited_by : Spot → Sited
sited_by s = (seen s, s.node.now)

abbrev pub sited_in : List Spot → List Sited
sited_in spots = map sited_by spots
