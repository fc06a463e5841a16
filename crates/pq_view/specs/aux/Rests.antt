-- What is left of a path after a folder.
use Rattle.std.specs.Prelude.{◌≡◌, ◌≢◌, ℕ, List, Option, Some, None}
use Rattle.pq_view.specs.Views.{below}

-- `IsRest path root rest` is that `rest` is what is left of `path` after the folder `root` and a slash
abbrev pub IsRest : List ℕ → List ℕ → Option (List ℕ) → Type 0
IsRest path root None = (name : List ℕ) → path ≢ below root name
IsRest path root (Some name) = path ≡ below root name
