-- The lists of diagnostics that are owed to an editor: one to each open document.
use Rattle.std.specs.Prelude.{◌≡◌, ℕ, List, map, bytes_eq, Contains, IsSome}
use Rattle.std.specs.List.{IsDistinct}
use Rattle.pq_view.specs.Views.{View, name_of}
use Rattle.pq_view.specs.declared.owed.Owed.{Owed}

-- `AreOwed v owed` is that `owed` are the lists owed to the documents of the view `v`: each is owed
-- to an open document, under the name by which its diagnostics are asked; each open document has
-- one; and no two are owed to the same document
pub record AreOwed (v : View) (owed : List Owed) : Type 0 where
  pub right : (o : Owed) → Contains owed o → IsSome (v.documents o.path) × (o.name ≡ name_of v o.path)
  pub all : (path : List ℕ) → IsSome (v.documents path) → Contains (map (λ (o : Owed). o.path) owed) path
  pub once : IsDistinct bytes_eq (map (λ (o : Owed). o.path) owed)
