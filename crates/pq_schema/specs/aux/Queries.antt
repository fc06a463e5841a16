-- Auxiliary: the turns of the three queries, as functions of the key makers of a sum of queries and
-- of what the sum's readers say of an answer. The public laws tie them to `specs/Answers`.
use Rattle.std.specs.Prelude.{ℕ, List, [], ◌∷◌, ◌++◌, map, length}
use Rattle.pq_rules.specs.declared.turn.Turn.{Turn}
use Rattle.pq_rules.specs.declared.turn.Turn.TheVariants.{Ask, Done}
use Rattle.pq_syntax.specs.declared.tree.Node.{Node}
use Rattle.pq_links.specs.declared.links.Links.{Links}
use Rattle.pq_schema.specs.Contents.{Defs}
use Rattle.pq_schema.specs.ScopeContents.{Scope}
use Rattle.pq_schema.specs.Compile.{resolved_in}
use Rattle.pq_schema.specs.Answers.{scope_by}
use Rattle.pq_schema.specs.Definitions.{defs_of}
use Rattle.pq_schema.specs.References.{references_of}
use Rattle.pq_schema.specs.declared.queries.resolved.ResolvedReference.{ResolvedReference}
use Rattle.pq_schema.specs.declared.queries.resolved.ResolvedPart.{ResolvedPart}
use Rattle.pq_schema.specs.declared.queries.resolved.ResolvedPart.TheVariants.{ReadScope, ReadTree}
use Rattle.pq_schema.specs.declared.scope.scope.FileDefs.{FileDefs}
use Rattle.pq_schema.specs.declared.queries.scopes.ScopePart.{ScopePart}
use Rattle.pq_schema.specs.declared.queries.scopes.ScopePart.TheVariants.{ReadLinks, Collect}

-- `defs_level`, `scope_level` and `resolved_level` are the levels of the queries' keys
abbrev pub defs_level : ℕ
defs_level = 5

abbrev pub scope_level : ℕ
scope_level = 6

abbrev pub resolved_level : ℕ
resolved_level = 7

-- `defs_starts items f` is the first turn of the definitions of the file `f`: it asks for the tree
-- without spans
abbrev pub defs_starts : {K : Type 0} → (List ℕ → K) → List ℕ → Turn K (Unit {0}) Defs
defs_starts items f = Ask (items f) tt

-- `defs_advances nodes` is the turn after that: it is done with the definitions of the statements
-- `nodes`
abbrev pub defs_advances : {K : Type 0} → List Node → Turn K (Unit {0}) Defs
defs_advances nodes = Done (defs_of nodes)

-- `collect_next defs visible left files` is the turn of a scope that asks the definitions of the
-- first file of `left`. Without one it is done with the scope by `files`.
abbrev pub collect_next : {K : Type 0} → (List ℕ → K) → List (List ℕ) → List (List ℕ) → List FileDefs → Turn K ScopePart Scope
collect_next defs visible [] files = Done (scope_by visible files)
collect_next defs visible (n ∷ ns) files = Ask (defs n) (Collect (visible, (n ∷ ns, files)))

-- `scope_starts linked f` is the first turn of the scope of the file `f`: it asks for its links
abbrev pub scope_starts : {K : Type 0} → (List ℕ → K) → List ℕ → Turn K ScopePart Scope
scope_starts linked f = Ask (linked f) ReadLinks

-- `scope_advances defs links read part` is the turn after an answer, read as `links` and as the
-- definitions `read`
abbrev pub scope_advances : {K : Type 0} → (List ℕ → K) → Links → Defs → ScopePart → Turn K ScopePart Scope
scope_advances defs links read ReadLinks = collect_next defs links.visible links.reach []
scope_advances defs links read (Collect (visible, ([], files))) = Done (scope_by visible files)
scope_advances defs links read (Collect (visible, (n ∷ ns, files))) =
    collect_next defs visible ns (files ++ record { file = n; defs = read } ∷ [])

-- `scope_left part` is what is left to ask at `part`
abbrev pub scope_left : ScopePart → ℕ × ℕ
scope_left ReadLinks = (1, 0)
scope_left (Collect (visible, (left, files))) = (0, length left)

-- `resolved_starts scope f` is the first turn of the resolved references of the file `f`: it asks
-- for its scope
abbrev pub resolved_starts : {K : Type 0} → (List ℕ → K) → List ℕ → Turn K ResolvedPart (List ResolvedReference)
resolved_starts scope f = Ask (scope f) (ReadScope f)

-- `resolved_by scope nodes` is the resolved references of the statements `nodes` in the scope
-- `scope`
abbrev pub resolved_by : Scope → List Node → List ResolvedReference
resolved_by scope nodes = map (resolved_in scope) (references_of nodes)

-- `resolved_advances items scope nodes part` is the turn after an answer, read as `scope` and as
-- the statements `nodes`
abbrev pub resolved_advances : {K : Type 0} → (List ℕ → K) → Scope → List Node → ResolvedPart → Turn K ResolvedPart (List ResolvedReference)
resolved_advances items scope nodes (ReadScope f) = Ask (items f) (ReadTree scope)
resolved_advances items scope nodes (ReadTree read) = Done (resolved_by read nodes)

-- `resolved_left part` is what is left to ask at `part`
abbrev pub resolved_left : ResolvedPart → ℕ × ℕ
resolved_left (ReadScope f) = (1, 0)
resolved_left (ReadTree read) = (0, 0)
