-- The sources: a finite map from file names to texts, or absence, and durabilities. A history is
-- the list of the sources at each revision. (The inputs of a query engine: the Salsa book, "The
-- red-green algorithm", "Durability".)
use Rattle.std.specs.Prelude.{◌≡◌, ℕ, ◌+◌, List, [], ◌∷◌, slice_get, Option, Some, None, bytes_eq, cond}
use Rattle.pq_inputs.specs.declared.durability.Durability.{Durability}
use Rattle.pq_inputs.specs.declared.durability.Durability.TheVariants.{Low}

-- `File` is a file: its text, or None where it is absent, and its durability
pub record File : Type 0 where
  pub text : Option (List ℕ)
  pub durability : Durability

-- `Sources` are the files that were ever set, by name, each once, in the order in which they were
-- first set
abbrev pub Sources : Type 0
Sources = List (List ℕ × File)

-- `never_set` is a file that was never set: absent, and of durability Low
abbrev pub never_set : File
never_set = record { text = None; durability = Low }

-- `file_in sources name` is the file of this name in `sources`
unfoldable pub file_in : Sources → List ℕ → File
file_in [] name = never_set
file_in (e ∷ es) name = cond (bytes_eq e.0 name) e.1 (file_in es name)

-- `with_file sources name file` is `sources` with `file` as the file of this name
unfoldable pub with_file : Sources → List ℕ → File → Sources
with_file [] name file = (name, file) ∷ []
with_file (e ∷ es) name file = cond (bytes_eq e.0 name) ((name, file) ∷ es) (e ∷ with_file es name file)

-- `Table` is what contracts see of inputs: the sources now, the last revision, the history (the
-- sources at each revision from 0 on), and the number of files that can be set
pub record Table : Type 0 where
  pub files : Sources
  pub revision : ℕ
  pub history : List Sources
  pub limit : ℕ

-- `ChangesAt history name revision` says that the file of this name differs, in text or durability,
-- between `revision` and the next one
pub record ChangesAt (history : List Sources) (name : List ℕ) (revision : ℕ) : Type 0 where
  pub before : Sources
  pub after : Sources
  pub was : slice_get history revision ≡ Some before
  pub is : slice_get history (revision + 1) ≡ Some after
  pub differs : file_in before name ≡ file_in after name → ⊥
