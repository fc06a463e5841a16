-- What an event of an editor does to a view, and the edits of the sources that follow from it.
use Rattle.std.specs.Prelude.{◌≡◌, ◌⊎◌, ℕ, List, map, cond, bytes_eq, Contains, Option}
use Rattle.std.specs.List.{IsDistinct}
use Rattle.pq_view.specs.Views.{View, Texts, source}
use Rattle.pq_view.specs.declared.edits.Edit.{Edit}

-- `with_text path text texts` is `texts` with `text` as that of the file at `path`
abbrev pub with_text : List ℕ → Option (List ℕ) → Texts → Texts
with_text path text texts = λ q. cond (bytes_eq path q) text (texts q)

-- `with_document path text v` is `v` after the document at `path` has `text`, or was closed
abbrev pub with_document : List ℕ → Option (List ℕ) → View → View
with_document path text v = record { roots = v.roots; disk = v.disk; documents = with_text path text v.documents }

-- `with_file path text v` is `v` after the disk has `text` at `path`, or nothing
abbrev pub with_file : List ℕ → Option (List ℕ) → View → View
with_file path text v = record { roots = v.roots; disk = with_text path text v.disk; documents = v.documents }

-- `with_disk disk v` is `v` where `disk` is all that is known of the disk
abbrev pub with_disk : Texts → View → View
with_disk disk v = record { roots = v.roots; disk = disk; documents = v.documents }

-- `with_roots roots v` is `v` with these roots
abbrev pub with_roots : List (List ℕ) → View → View
with_roots roots v = record { roots = roots; disk = v.disk; documents = v.documents }

-- `Differs before after name` is that the source of `name` differs between two views
abbrev pub Differs : View → View → List ℕ → Type 0
Differs before after name = source before name ≡ source after name → ⊥

-- `AreEdits before after edits` is that `edits` make the sources of the view `after` of those of
-- `before`: each edit sets a file whose source differs to its source after; each file that no edit
-- sets has the source that it had; and no two edits set the same file
pub record AreEdits (before after : View) (edits : List Edit) : Type 0 where
  pub right : (e : Edit) → Contains edits e → (e.text ≡ source after e.name) × Differs before after e.name
  pub all : (name : List ℕ) → (source before name ≡ source after name) ⊎ Contains (map (λ (e : Edit). e.name) edits) name
  pub once : IsDistinct bytes_eq (map (λ (e : Edit). e.name) edits)
