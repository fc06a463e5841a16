-- Auxiliary: what the table keeps of its files and of their last changes, and its invariant (used
-- by proofs and invariants only).
use Rattle.std.specs.Prelude.{◌≡◌, ℕ, ◌+◌, ◌≤◌, cond, List, [], ◌∷◌, length, slice_get, Option, Some, None}
use Rattle.std.specs.Str.{bytes_eq}
use Rattle.pq_inputs.specs.declared.durability.Durability.{Durability}
use Rattle.pq_inputs.specs.declared.durability.Durability.TheVariants.{Low, Medium, High}
use Rattle.pq_inputs.specs.Sources.{File, Sources, never_set, with_file}
use Rattle.pq_inputs.specs.Changes.{IsLastChange, IsLastChangeOf}
use Rattle.pq_inputs.specs.Refusal.{most_files, last_revision}

-- `Entry` is what is kept of a file: the file, and the revision of its last change
pub record Entry : Type 0 where
  pub file : File
  pub changed : ℕ

-- `Entries` are the entries of the files that were ever set, by name
abbrev pub Entries : Type 0
Entries = List (List ℕ × Entry)

-- `blank` is the entry of a file that was never set
abbrev pub blank : Entry
blank = record { file = never_set; changed = 0 }

-- `lookup entries name` is the entry of the file of this name, or None where it was never set
unfoldable pub lookup : Entries → List ℕ → Option Entry
lookup [] name = None
lookup (e ∷ es) name = cond (bytes_eq e.0 name) (Some e.1) (lookup es name)

-- `entry_in entries name` is the entry of the file of this name
unfoldable pub entry_in : Entries → List ℕ → Entry
entry_in [] name = blank
entry_in (e ∷ es) name = cond (bytes_eq e.0 name) e.1 (entry_in es name)

-- `with_entry entries name entry` is `entries` with `entry` for the file of this name
unfoldable pub with_entry : Entries → List ℕ → Entry → Entries
with_entry [] name entry = (name, entry) ∷ []
with_entry (e ∷ es) name entry = cond (bytes_eq e.0 name) ((name, entry) ∷ es) (e ∷ with_entry es name entry)

-- `side_by_side names entries` pairs the names with the entries
unfoldable pub side_by_side : List (List ℕ) → List Entry → Entries
side_by_side [] entries = []
side_by_side (n ∷ ns) [] = []
side_by_side (n ∷ ns) (e ∷ es) = (n, e) ∷ side_by_side ns es

-- `sources_of entries` are the sources that the entries keep
unfoldable pub sources_of : Entries → Sources
sources_of [] = []
sources_of (e ∷ es) = (e.0, e.1.file) ∷ sources_of es

-- `Marks` are the revisions of the last changes, one for each durability
pub record Marks : Type 0 where
  pub low : ℕ
  pub medium : ℕ
  pub high : ℕ

-- `mark_of marks durability` is the revision for this durability
abbrev pub mark_of : Marks → Durability → ℕ
mark_of m Low = m.low
mark_of m Medium = m.medium
mark_of m High = m.high

-- `IsKept limit entries revision marks history` is the invariant of inputs that take as many files
-- as `limit` says
pub record IsKept (limit : ℕ) (entries : Entries) (revision : ℕ) (marks : Marks) (history : List Sources) : Type 0 where
  pub few : length entries ≤ limit
  pub limited : limit ≤ most_files
  pub bounded : revision ≤ last_revision
  pub counted : length history ≡ revision + 1
  pub first : slice_get history 0 ≡ Some []
  pub latest : slice_get history revision ≡ Some (sources_of entries)
  pub made : (earlier : ℕ) (before after : Sources)
      → slice_get history earlier ≡ Some before → slice_get history (earlier + 1) ≡ Some after
      → (name : List ℕ) × (file : File) × (after ≡ with_file before name file)
  pub changes : (name : List ℕ) → IsLastChange history name (entry_in entries name).changed
  pub of_level : (durability : Durability) → IsLastChangeOf history durability (mark_of marks durability)
