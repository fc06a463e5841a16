-- What is shown below one root.
use Rattle.std.specs.Prelude.{ℕ, List, Option, Some, None, option_map}
use Rattle.pq_view.specs.Views.{below, name_below}

-- `shown_below root face path` is the path below `face` of the file at `path`, if that lies below
-- `root` and there is a face
abbrev pub shown_below : List ℕ → Option (List ℕ) → List ℕ → Option (List ℕ)
shown_below root None path = None
shown_below root (Some face) path = option_map (below face) (name_below path root)
