-- Auxiliary: the part of the query of scopes, and the turn after an answer, computed before the
-- part changes (used by proofs and invariants only).
use Rattle.std.specs.Prelude.{ℕ, cond, bytes_eq, List, [], ◌∷◌, ◌++◌, Option, Some, None, length, drop}
use Rattle.pq_rules.specs.declared.turn.Turn.{Turn}
use Rattle.pq_rules.specs.declared.turn.Turn.TheVariants.{Ask, Done}
use Rattle.pq_links.specs.declared.links.Links.{Links}
use Rattle.pq_schema.specs.Contents.{Defs}
use Rattle.pq_schema.specs.ScopeContents.{Scope}
use Rattle.pq_schema.specs.Answers.{scope_by}
use Rattle.pq_schema.specs.declared.scope.scope.FileDefs.{FileDefs}

-- `Collecting` is the names of the visible files; the files of which the definitions are to be
-- asked; and those before them, with their definitions
abbrev pub Collecting : Type 0
Collecting = List (List ℕ) × (List (List ℕ) × List FileDefs)

-- `collected_view links files` is what contracts see of a part with the links `links` and the
-- first files of their reach as `files`
abbrev pub collected_view : Links → List FileDefs → Collecting
collected_view links files = (links.visible, (drop (length files) links.reach, files))

-- `collect_read c d` is the part `c` after the definitions of the first file that is left were read
-- as `d`
abbrev pub collect_read : Collecting → Defs → Collecting
collect_read (visible, ([], files)) d = (visible, ([], files))
collect_read (visible, (n ∷ ns, files)) d = (visible, (ns, files ++ record { file = n; defs = d } ∷ []))

-- `collect_follows defs c d` is the turn, without its part, after the definitions of the first file
-- that is left in `c` were read as `d`
abbrev pub collect_follows : {K : Type 0} → (List ℕ → K) → Collecting → Defs → Turn K (Unit {0}) Scope
collect_follows defs (visible, ([], files)) d = Done (scope_by visible files)
collect_follows defs (visible, (n ∷ [], files)) d = Done (scope_by visible (files ++ record { file = n; defs = d } ∷ []))
collect_follows defs (visible, (n ∷ (x ∷ ns), files)) d = Ask (defs x) tt

-- `first_of a b` is `a`, or `b` if `a` is `None`
abbrev pub first_of : Option Defs → Option Defs → Option Defs
first_of (Some d) b = Some d
first_of None b = b

-- `defs_if f n` is the definitions of the file `f`, if it has the name `n`
abbrev pub defs_if : FileDefs → List ℕ → Option Defs
defs_if f n = cond (bytes_eq f.file n) (Some f.defs) None

-- `defs_named files n` is the definitions of the first file of `files` with the name `n`
abbrev pub defs_named : List FileDefs → List ℕ → Option Defs
defs_named [] n = None
defs_named (f ∷ fs) n = first_of (defs_if f n) (defs_named fs n)

-- `named n d` is the file `n` with the definitions `d`
abbrev pub named : List ℕ → Defs → FileDefs
named n d = record { file = n; defs = d }
