-- What the checks of a file know beside its tree: its imports' files, its definitions, what its
-- type references resolve to, and the definitions that it sees.
use Rattle.std.specs.Prelude.{ℕ, cond, bytes_eq, List, [], ◌∷◌, Option}
use Rattle.pq_links.specs.declared.file_items.FileItems.{FileItems}
use Rattle.pq_links.specs.declared.file_items.FileItems.TheVariants.{Absent, Fault, Other, Tree}
use Rattle.pq_schema.specs.declared.define.definitions.Definition.{Definition}
use Rattle.pq_schema.specs.declared.queries.resolved.ResolvedReference.{ResolvedReference}
use Rattle.pq_schema.specs.declared.scope.scope.FileDefs.{FileDefs}
pub use Rattle.pq_schema.specs.Others.{other_files, first_with}
use Rattle.pq_checks.specs.declared.around.surroundings.FileState.{FileState}
use Rattle.pq_checks.specs.declared.around.surroundings.FileState.TheVariants.{Missing, Unreadable, Readable}
use Rattle.pq_checks.specs.declared.around.surroundings.Imported.{Imported}

-- `state_of i` is the state of a file that is `i` without spans
abbrev pub state_of : FileItems → FileState
state_of Absent = Missing
state_of (Fault nodes) = Unreadable
state_of (Other nodes) = Readable
state_of (Tree nodes) = Readable

-- `Surroundings` is what the checks of a file know beside its tree
pub record Surroundings : Type 0 where
  -- the files that it imports, each with its state
  pub imported : List Imported
  -- the ring of imports into which a bad file leads, and its first bad import; `None` of a good
  -- file
  pub ring : Option (List (List ℕ))
  pub next : Option (List ℕ)
  -- the definitions of the file, in text order
  pub definitions : List Definition
  -- the other files that it sees, in order, with their definitions
  pub others : List FileDefs
  -- the type references of the file, in text order, with what they resolve to
  pub references : List ResolvedReference

-- `state_in imported file` is the state of the file named `file` among `imported`; a file that is
-- not among them counts as readable
abbrev pub state_in : List Imported → List ℕ → FileState
state_in [] file = Readable
state_in (i ∷ is) file = cond (bytes_eq i.file file) i.state (state_in is file)
