-- Auxiliary: the turns of the query of a file's checks, as functions of what a sum of queries
-- offers it. The public law `checks_by_answers` ties them to `specs/Answers`.
use Rattle.std.specs.Prelude.{ℕ, List, [], ◌∷◌, ◌++◌, length, drop, slice_get, Option, Some, None, unwrap_or}
use Rattle.pq_rules.specs.declared.turn.Turn.{Turn}
use Rattle.pq_rules.specs.declared.turn.Turn.TheVariants.{Ask, Done}
use Rattle.pq_links.specs.declared.file_items.FileItems.{FileItems}
use Rattle.pq_links.specs.declared.links.Import.{Import}
use Rattle.pq_schema.specs.Contents.{Defs}
use Rattle.pq_schema.specs.ScopeContents.{Scope}
use Rattle.pq_schema.specs.declared.queries.resolved.ResolvedReference.{ResolvedReference}
use Rattle.pq_checks.specs.Answers.{CheckWords}
use Rattle.pq_checks.specs.Surroundings.{state_of}
use Rattle.pq_checks.specs.aux.Gathering.{checked_of}
use Rattle.pq_checks.specs.declared.queries.checked.CheckPart.{CheckPart}
use Rattle.pq_checks.specs.declared.queries.checked.CheckPart.TheVariants.{ReadItems, ReadImports, ReadLinks, ReadDefs, ReadScope, ReadReferences, ReadState, ReadNext}
use Rattle.pq_checks.specs.declared.queries.checked.Stage.{Stage}
use Rattle.pq_checks.specs.declared.queries.checked.Stage.TheVariants.{ForStates, ForLinks}
use Rattle.pq_checks.specs.declared.errors.fault.Fault.{Fault}
use Rattle.pq_checks.specs.declared.queries.gathered.Known.{Known}
use Rattle.pq_checks.specs.declared.queries.gathered.LinkedFile.{LinkedFile}
use Rattle.pq_checks.specs.declared.around.surroundings.Imported.{Imported}

-- `check_level` is the level of the query's keys
abbrev pub check_level : ℕ
check_level = 8

-- `check_starts items f` is the first turn of the checks of the file `f`: it asks for its tree
-- without spans
abbrev pub check_starts : {K : Type 0} → (List ℕ → K) → List ℕ → Turn K CheckPart (List Fault)
check_starts items f = Ask (items f) (ReadItems f)

-- `link_next linked k ring first imported` is the turn after the states `imported` of the imported
-- files: a bad file, which has a `ring`, asks the links of its `first` import; any other is done
abbrev pub link_next : {K : Type 0} → (List ℕ → K) → Known → Option (List (List ℕ)) → Option Import → List Imported → Turn K Stage (List Fault)
link_next linked k (Some ring) (Some i) imported = Ask (linked i.file) (ForLinks k.linked.imports)
link_next linked k (Some ring) None imported = Done (checked_of k imported None)
link_next linked k None first imported = Done (checked_of k imported None)

-- `staged linked items k next imported` is the turn that asks for the tree of the file of the import
-- `next`, or that after the states `imported` if there is none
abbrev pub staged : {K : Type 0} → (List ℕ → K) → (List ℕ → K) → Known → Option Import → List Imported → Turn K Stage (List Fault)
staged linked items k (Some i) imported = Ask (items i.file) ForStates
staged linked items k None imported = link_next linked k k.linked.ring (slice_get k.linked.imports 0) imported

-- `placed k left imported t` is the turn `t` with its part: `left` are the imports of which the
-- states are to be read, and `imported` the states so far
abbrev pub placed : {K : Type 0} → Known → List Import → List Imported → Turn K Stage (List Fault) → Turn K CheckPart (List Fault)
placed k left imported (Ask q ForStates) = Ask q (ReadState k left imported)
placed k left imported (Ask q (ForLinks waiting)) = Ask q (ReadNext k waiting imported)
placed k left imported (Done v) = Done v

-- `with_state first file imported` is `imported` and the state of the file of the import `first`,
-- which is `file` without spans
abbrev pub with_state : Option Import → FileItems → List Imported → List Imported
with_state None file imported = imported
with_state (Some i) file imported = imported ++ record { file = i.file; state = state_of file } ∷ []

-- `state_follows linked items k first second file imported` is the turn after the answer that the
-- file of the import `first` is `file`: the state of that of `second` is next
abbrev pub state_follows : {K : Type 0} → (List ℕ → K) → (List ℕ → K) → Known → Option Import → Option Import → FileItems → List Imported → Turn K Stage (List Fault)
state_follows linked items k None second file imported = Done (checked_of k imported None)
state_follows linked items k (Some i) second file imported = staged linked items k second (with_state (Some i) file imported)

-- `link_follows linked k first second ring imported` is the turn, without its part, after the links
-- of the import `first`: a `ring` names the next file; else the links of `second` are asked
abbrev pub link_follows : {K : Type 0} → (List ℕ → K) → Known → Option Import → Option Import → Option (List (List ℕ)) → List Imported → Turn K (Unit {0}) (List Fault)
link_follows linked k None second ring imported = Done (checked_of k imported None)
link_follows linked k (Some i) second (Some ring) imported = Done (checked_of k imported (Some i.file))
link_follows linked k (Some i) (Some j) None imported = Ask (linked j.file) tt
link_follows linked k (Some i) None None imported = Done (checked_of k imported None)

-- `link_placed k left imported t` is the turn `t` with its part
abbrev pub link_placed : {K : Type 0} → Known → List Import → List Imported → Turn K (Unit {0}) (List Fault) → Turn K CheckPart (List Fault)
link_placed k left imported (Ask q u) = Ask q (ReadNext k left imported)
link_placed k left imported (Done v) = Done v

-- `references_turn linked items l d s references` is the turn after the `references` of the file
-- `l` with the definitions `d` and the scope `s`
abbrev pub references_turn : {K : Type 0} → (List ℕ → K) → (List ℕ → K) → LinkedFile → Defs → Scope → List ResolvedReference → Turn K CheckPart (List Fault)
references_turn linked items l d s references =
    let k : Known = record { linked = l; defs = d; scope = s; references = references } in
    placed k l.imports [] (staged linked items k (slice_get l.imports 0) [])

-- `check_advances w part a` is the turn after the answer `a` at `part`
abbrev pub check_advances : {K A : Type 0} → CheckWords K A → CheckPart → A → Turn K CheckPart (List Fault)
check_advances w (ReadItems f) a = Ask (w.imports f) (ReadImports f (w.itemed a))
check_advances w (ReadImports f p) a = Ask (w.linked f) (ReadLinks f p (unwrap_or (w.imported a) []))
check_advances w (ReadLinks f p is) a = Ask (w.defs f) (ReadDefs (record { file = f; items = p; imports = is; ring = w.ring a }))
check_advances w (ReadDefs l) a = Ask (w.scope l.file) (ReadScope l (w.defined a))
check_advances w (ReadScope l d) a = Ask (w.resolved l.file) (ReadReferences l d (w.scoped a))
check_advances w (ReadReferences l d s) a =
    references_turn w.linked w.items l d s (w.referred a)
check_advances w (ReadState k left imported) a =
    placed k (drop 1 left) (with_state (slice_get left 0) (w.itemed a) imported)
    (state_follows w.linked w.items k (slice_get left 0) (slice_get left 1) (w.itemed a) imported)
check_advances w (ReadNext k left imported) a =
    link_placed k (drop 1 left) imported (link_follows w.linked k (slice_get left 0) (slice_get left 1) (w.ring a) imported)

-- `check_left part` is what is left to ask at `part`
abbrev pub check_left : CheckPart → ℕ × ℕ
check_left (ReadItems f) = (7, 0)
check_left (ReadImports f p) = (6, 0)
check_left (ReadLinks f p is) = (5, 0)
check_left (ReadDefs l) = (4, 0)
check_left (ReadScope l d) = (3, 0)
check_left (ReadReferences l d s) = (2, 0)
check_left (ReadState k left imported) = (1, length left)
check_left (ReadNext k left imported) = (0, length left)
