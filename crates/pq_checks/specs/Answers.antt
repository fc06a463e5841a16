-- What the query of a file's checks asks and ends in, by the answers that it reads. The public law
-- `checks_by_answers` states this of every sum of queries, whatever its keys and answers are.
--
-- `es` is the questions of a run in order, each with its answer.
use Rattle.std.specs.Prelude.{ℕ, ◌≡◌, List, [], ◌∷◌, Option, Some, None, unwrap_or}
use Rattle.pq_links.specs.declared.file_items.FileItems.{FileItems}
use Rattle.pq_links.specs.declared.links.Import.{Import}
use Rattle.pq_schema.specs.Contents.{Defs}
use Rattle.pq_schema.specs.ScopeContents.{Scope}
use Rattle.pq_schema.specs.declared.queries.resolved.ResolvedReference.{ResolvedReference}
use Rattle.pq_checks.specs.Compile.{file_faults}
use Rattle.pq_checks.specs.Surroundings.{Surroundings, other_files, state_of}
use Rattle.pq_checks.specs.declared.errors.fault.Fault.{Fault}
use Rattle.pq_checks.specs.declared.around.surroundings.Imported.{Imported}

-- `CheckWords K A` is what a sum of queries with the keys `K` and the answers `A` offers the query:
-- the keys that it asks of a file, and what it reads of an answer
pub record CheckWords (K A : Type 0) : Type 0 where
  pub items : List ℕ → K
  pub imports : List ℕ → K
  pub linked : List ℕ → K
  pub defs : List ℕ → K
  pub scope : List ℕ → K
  pub resolved : List ℕ → K
  pub itemed : A → FileItems
  pub imported : A → Option (List Import)
  pub ring : A → Option (List (List ℕ))
  pub defined : A → Defs
  pub scoped : A → Scope
  pub referred : A → List ResolvedReference

-- `AsksStates w is es rest imported` is that the first questions are for the trees of the files of
-- the imports `is` without spans, in order, that `rest` is the other questions, and that `imported`
-- is these files, each with the state of its answer
abbrev pub AsksStates : {K A : Type 0} → CheckWords K A → List Import → List (K × A) → List (K × A) → List Imported → Type 0
AsksStates w [] es rest imported = (rest ≡ es) × (imported ≡ [])
AsksStates w (i ∷ is) [] rest imported = ⊥
AsksStates w (i ∷ is) (e ∷ es) rest imported =
    (more : List Imported) × (e.0 ≡ w.items i.file) × (imported ≡ record { file = i.file; state = state_of (w.itemed e.1) } ∷ more) × AsksStates w is es rest more

-- `if_ring ring P Q` is `P` if there is a `ring`, and else `Q`
abbrev pub if_ring : Option (List (List ℕ)) → Type 0 → Type 0 → Type 0
if_ring (Some ring) P Q = P
if_ring None P Q = Q

-- `AsksNext w is es next` is that the questions are for the links of the files of the imports `is`,
-- in order, up to the first that is answered by a cycle, and that `next` is the name of that
-- import, or `None` if there is none
abbrev pub AsksNext : {K A : Type 0} → CheckWords K A → List Import → List (K × A) → Option (List ℕ) → Type 0
AsksNext w [] es next = (es ≡ []) × (next ≡ None)
AsksNext w (i ∷ is) [] next = ⊥
AsksNext w (i ∷ is) (e ∷ es) next =
    (e.0 ≡ w.linked i.file) × if_ring (w.ring e.1) ((es ≡ []) × (next ≡ Some i.file)) (AsksNext w is es next)

-- `AsksLinks w ring is es next` is that the questions are those of `AsksNext` in a bad file, which
-- has a `ring`, and that there are none in a good one, which has no next file
abbrev pub AsksLinks : {K A : Type 0} → CheckWords K A → Option (List (List ℕ)) → List Import → List (K × A) → Option (List ℕ) → Type 0
AsksLinks w (Some ring) is es next = AsksNext w is es next
AsksLinks w None is es next = (es ≡ []) × (next ≡ None)

-- `surroundings_by f imported ring next defs scope references` is the surroundings of the file `f`
-- by what was read of it and of the files that it imports
abbrev pub surroundings_by : List ℕ → List Imported → Option (List (List ℕ)) → Option (List ℕ) → Defs → Scope → List ResolvedReference → Surroundings
surroundings_by f imported ring next defs scope references = record {
  imported = imported;
  ring = ring;
  next = next;
  definitions = defs.definitions;
  others = other_files f scope;
  references = references;
}

-- `AreChecksBy w f es v` is that the questions are for the tree without spans, the imports, the
-- links, the definitions, the scope and the resolved references of the file `f`, then for the tree
-- without spans of each import, and in a bad file for the links of each import up to the first
-- cycle; and that `v` is the errors of the file by these answers
abbrev pub AreChecksBy : {K A : Type 0} → CheckWords K A → List ℕ → List (K × A) → List Fault → Type 0
AreChecksBy {K = K} {A = A} w f es v =
    (a b c d s r : A) × (states links : List (K × A)) × (imported : List Imported) × (next : Option (List ℕ))
    × (es ≡ (w.items f, a) ∷ (w.imports f, b) ∷ (w.linked f, c) ∷ (w.defs f, d) ∷ (w.scope f, s) ∷ (w.resolved f, r) ∷ states)
    × AsksStates w (unwrap_or (w.imported b) []) states links imported
    × AsksLinks w (w.ring c) (unwrap_or (w.imported b) []) links next
    × (v ≡ file_faults (surroundings_by f imported (w.ring c) next (w.defined d) (w.scoped s) (w.referred r)) (w.itemed a))
