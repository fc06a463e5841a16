-- Auxiliary: the part of the query of links, and what it becomes with an answer (used by proofs and
-- invariants only).
use Rattle.std.specs.Prelude.{List, [], ◌∷◌, ◌++◌, length, drop}
use Rattle.pq_links.specs.declared.links.Import.{Import}
use Rattle.pq_links.specs.declared.links.Links.{Links}

-- `joined_view imports pairs` is what contracts see of a part with all `imports` of a file and the
-- first of them as `pairs`, each with its links: the imports that are left, and `pairs`
abbrev pub joined_view : List Import → List (Import × Links) → List Import × List (Import × Links)
joined_view imports pairs = (drop (length pairs) imports, pairs)

-- `join_read j l` is the part `j` after the links of the first import that is left were read as `l`
abbrev pub join_read : List Import × List (Import × Links) → Links → List Import × List (Import × Links)
join_read ([], pairs) l = ([], pairs)
join_read (i ∷ is, pairs) l = (is, pairs ++ (i, l) ∷ [])
