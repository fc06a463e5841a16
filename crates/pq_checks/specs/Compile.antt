-- What the sources say of the errors of a file. No query is named here. `loose` is whether braces are
-- read.
use Rattle.std.specs.Prelude.{ℕ, Bool, ◌≡◌, List, [], map, Option, Some, None}
use Rattle.pq_inputs.specs.Sources.{Sources}
use Rattle.pq_links.specs.Files.{graph_of, items_in}
use Rattle.pq_links.specs.ImportGraph.{Graph, IsGood, IsNext, IsRingOf, imported}
use Rattle.pq_links.specs.declared.file_items.FileItems.{FileItems}
use Rattle.pq_links.specs.declared.file_items.FileItems.TheVariants.{Absent, Fault as SyntaxFault, Other, Tree}
use Rattle.pq_schema.specs.Compile.{IsScope, AreResolved, defs_at}
use Rattle.pq_schema.specs.ScopeContents.{Scope}
use Rattle.pq_checks.specs.Faults.{faults}
use Rattle.pq_checks.specs.Surroundings.{Surroundings, other_files, state_of}
use Rattle.pq_checks.specs.declared.around.surroundings.Imported.{Imported}
use Rattle.pq_checks.specs.declared.errors.fault.Fault.{Fault}

-- `imported_at loose files f` lists the files that the file `f` imports, each with its state
abbrev pub imported_at : Bool → Sources → List ℕ → List Imported
imported_at loose files f =
    map (λ (h : List ℕ). record { file = h; state = state_of (items_in loose files h) }) (imported (graph_of loose files) f)

-- `IsRingAt g f ring next` is that `ring` and `next` are the ring of imports into which the file
-- `f` leads and its first bad import, or both `None` if `f` is good
abbrev pub IsRingAt : Graph → List ℕ → Option (List (List ℕ)) → Option (List ℕ) → Type 0
IsRingAt g f None None = IsGood g f
IsRingAt g f None (Some next) = ⊥
IsRingAt g f (Some ring) None = ⊥
IsRingAt g f (Some ring) (Some next) = IsRingOf g f ring × IsNext g f next

-- `AreSurroundings loose files f s` is that `s` is what the checks of the file `f` know beside its tree
pub record AreSurroundings (loose : Bool) (files : Sources) (f : List ℕ) (s : Surroundings) : Type 0 where
  pub imported_are : s.imported ≡ imported_at loose files f
  pub ring_is : IsRingAt (graph_of loose files) f s.ring s.next
  pub definitions_are : s.definitions ≡ (defs_at loose files f).definitions
  pub others_are : (scope : Scope) × IsScope loose files f scope × (s.others ≡ other_files f scope)
  pub references_are : AreResolved loose files f s.references

-- `file_faults s i` lists the errors of a file that is `i` without spans, with the surroundings
-- `s`. The table has no line for a syntax error: only a tree has errors of it.
abbrev pub file_faults : Surroundings → FileItems → List Fault
file_faults s Absent = []
file_faults s (SyntaxFault nodes) = []
file_faults s (Other nodes) = []
file_faults s (Tree nodes) = faults s nodes

-- `AreFaults loose files f fs` is that `fs` lists the errors of the file `f`
abbrev pub AreFaults : Bool → Sources → List ℕ → List Fault → Type 0
AreFaults loose files f fs =
    (s : Surroundings) × AreSurroundings loose files f s × (fs ≡ file_faults s (items_in loose files f))
