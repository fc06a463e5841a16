-- What each query asks and ends in, by the answers that it reads. The public laws state these of
-- every sum of queries, whatever its keys and answers are.
--
-- `es` is the questions of a run in order, each with its answer.
use Rattle.std.specs.Prelude.{ℕ, ◌≡◌, bytes_eq, List, [], ◌∷◌, map, filter_map, find}
use Rattle.pq_links.specs.Files.{nodes_in}
use Rattle.pq_links.specs.declared.file_items.FileItems.{FileItems}
use Rattle.pq_links.specs.declared.links.Links.{Links}
use Rattle.pq_schema.specs.Contents.{Defs}
use Rattle.pq_schema.specs.ScopeContents.{Scope}
use Rattle.pq_schema.specs.Definitions.{defs_of}
use Rattle.pq_schema.specs.References.{references_of}
use Rattle.pq_schema.specs.Compile.{resolved_in}
use Rattle.pq_schema.specs.declared.queries.resolved.ResolvedReference.{ResolvedReference}
use Rattle.pq_schema.specs.declared.scope.scope.FileDefs.{FileDefs}

-- `AreDefsBy items itemed f es v` is that the one question is for what the file `f` is without
-- spans, and that `v` is the definitions of that
abbrev pub AreDefsBy : {K A : Type 0} → (List ℕ → K) → (A → FileItems) → List ℕ → List (K × A) → Defs → Type 0
AreDefsBy {A = A} items itemed f es v = (a : A) × (es ≡ (items f, a) ∷ []) × (v ≡ defs_of (nodes_in (itemed a)))

-- `picked files names` lists the files of `files` with the names `names`, in the order of these
abbrev pub picked : List FileDefs → List (List ℕ) → List FileDefs
picked files names = filter_map (λ n. find (λ (f : FileDefs). bytes_eq f.file n) files) names

-- `scope_by visible files` is the scope of a file that reaches the files `files` and sees those of
-- them with the names `visible`
abbrev pub scope_by : List (List ℕ) → List FileDefs → Scope
scope_by visible files = record { visible = picked files visible; reach = files }

-- `AsksDefs defs defined names es files` is that the questions are for the definitions of the files
-- `names`, in order, and that `files` is these files, each with the definitions of its answer
abbrev pub AsksDefs : {K A : Type 0} → (List ℕ → K) → (A → Defs) → List (List ℕ) → List (K × A) → List FileDefs → Type 0
AsksDefs defs defined [] [] files = files ≡ []
AsksDefs defs defined [] (e ∷ es) files = ⊥
AsksDefs defs defined (n ∷ ns) [] files = ⊥
AsksDefs defs defined (n ∷ ns) (e ∷ es) files =
    (more : List FileDefs) × (e.0 ≡ defs n) × (files ≡ record { file = n; defs = defined e.1 } ∷ more) × AsksDefs defs defined ns es more

-- `IsScopeBy linked defs links defined f es s` is that the first question is for the links of the
-- file `f`, the others are for the definitions of each file that it reaches, in order, and `s` is
-- the scope of the file by these
abbrev pub IsScopeBy : {K A : Type 0} → (List ℕ → K) → (List ℕ → K) → (A → Links) → (A → Defs) → List ℕ → List (K × A) → Scope → Type 0
IsScopeBy linked defs links defined f [] s = ⊥
IsScopeBy linked defs links defined f (e ∷ es) s =
    (files : List FileDefs) × (e.0 ≡ linked f) × AsksDefs defs defined (links e.1).reach es files × (s ≡ scope_by (links e.1).visible files)

-- `AreResolvedBy scope items scoped itemed f es rs` is that the questions are for the scope of the
-- file `f` and for what it is without spans, and that `rs` is its type references, each with what
-- it resolves to in that scope
abbrev pub AreResolvedBy : {K A : Type 0} → (List ℕ → K) → (List ℕ → K) → (A → Scope) → (A → FileItems) → List ℕ → List (K × A) → List ResolvedReference → Type 0
AreResolvedBy {A = A} scope items scoped itemed f es rs =
    (a b : A) × (es ≡ (scope f, a) ∷ (items f, b) ∷ []) × (rs ≡ map (resolved_in (scoped a)) (references_of (nodes_in (itemed b))))
