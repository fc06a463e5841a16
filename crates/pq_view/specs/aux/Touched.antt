-- The names that a change can touch, and the edits of names.
use Rattle.std.specs.Prelude.{◌≡◌, ◌⊎◌, ℕ, Bool, true, false, bytes_eq, cond, List, [], ◌∷◌, ◌++◌, is_some, map, flat_map, Contains, Option, Some, None}
use Rattle.std.specs.List.{IsDistinct, filter, list_any}
use Rattle.std.specs.BTreeSet.{BTreeSet, contains}
use Rattle.std.specs.Cmp.Lexicographic.{slice_cmp}
use Rattle.std.specs.Ordering.{nat_cmp}
use Rattle.pq_view.specs.Views.{Texts, View, below, names_of, source, text_at}
use Rattle.pq_view.specs.Edits.{Differs}
use Rattle.pq_view.specs.declared.edits.Edit.{Edit}

-- `open_below documents roots name` is the paths of the file `name` below `roots` at which a document
-- is open
abbrev pub open_below : Texts → List (List ℕ) → List ℕ → List (List ℕ)
open_below documents roots name = filter (λ q. is_some (documents q)) (map (λ root. below root name) roots)

-- `touched_by documents roots name` is the names that a change of the file `name` touches: that name,
-- and the paths of the file below `roots` at which a document is open
abbrev pub touched_by : Texts → List (List ℕ) → List ℕ → List (List ℕ)
touched_by documents roots name = name ∷ open_below documents roots name

-- `touched v path` is the names that a change at `path` touches
abbrev pub touched : View → List ℕ → List (List ℕ)
touched v path = path ∷ flat_map (touched_by v.documents v.roots) (names_of v path)

-- `SameBut path before after` is that two views differ at most at `path`
pub record SameBut (path : List ℕ) (before after : View) : Type 0 where
  pub roots : before.roots ≡ after.roots
  pub texts : (q : List ℕ) → bytes_eq q path ≡ false → text_at before q ≡ text_at after q
  pub documents : (q : List ℕ) → bytes_eq q path ≡ false → before.documents q ≡ after.documents q

-- `same_text a b` is whether two texts are the same, or both absent
abbrev pub same_text : Option (List ℕ) → Option (List ℕ) → Bool
same_text None None = true
same_text None (Some b) = false
same_text (Some a) None = false
same_text (Some a) (Some b) = bytes_eq a b

-- `edit_at before after name` is the edit of `name`, if its source differs
abbrev pub edit_at : View → View → List ℕ → Option Edit
edit_at before after name = cond (same_text (source before name) (source after name)) None (Some (record { name = name; text = source after name }))

-- `is_edited es name` is whether one of the edits `es` sets the file `name`
abbrev pub is_edited : List Edit → List ℕ → Bool
is_edited es name = list_any (λ (e : Edit). bytes_eq name e.name) es

-- `add_edit es e` is `es` with `e` as its last edit, unless one of `es` sets the same file
abbrev pub add_edit : List Edit → Option Edit → List Edit
add_edit es None = es
add_edit es (Some e) = cond (is_edited es e.name) es (es ++ e ∷ [])

-- `edited before after es names` is `es` after the edits of `names`, in order
unfoldable pub edited : View → View → List Edit → List (List ℕ) → List Edit
edited before after es [] = es
edited before after es (n ∷ ns) = edited before after (add_edit es (edit_at before after n)) ns

-- `IsDone before after names es` is that `es` are the edits of `names`
pub record IsDone (before after : View) (names : List (List ℕ)) (es : List Edit) : Type 0 where
  pub right : (e : Edit) → Contains es e → (e.text ≡ source after e.name) × Differs before after e.name
  pub all : (name : List ℕ) → list_any (bytes_eq name) names ≡ true → (source before name ≡ source after name) ⊎ (is_edited es name ≡ true)
  pub once : IsDistinct bytes_eq (map (λ (e : Edit). e.name) es)

-- `HasNames named es` is that the set `named` has the files of the edits `es`
abbrev pub HasNames : BTreeSet (List ℕ) → List Edit → Type 0
HasNames named es = (q : List ℕ) → contains (slice_cmp nat_cmp) named q ≡ is_edited es q
