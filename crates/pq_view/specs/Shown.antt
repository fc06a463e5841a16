-- The path by which an editor knows a file. A root is the path of a folder with all links followed.
-- Beside it stands its face: the path of the same folder as the editor or the user wrote it.
use Rattle.std.specs.Prelude.{ℕ, List, [], ◌∷◌, option_map, unwrap_or}
use Rattle.pq_view.specs.Views.{below, name_below}

-- `shown_path roots faces path` is the path by which the editor knows the file at `path`: the name
-- of the file below the first of `roots` below which it lies, below the face of that root, which is
-- at the same index of `faces`; and `path` itself, where no root with a face is such
unfoldable pub shown_path : List (List ℕ) → List (List ℕ) → List ℕ → List ℕ
shown_path [] faces path = path
shown_path (root ∷ roots) [] path = path
shown_path (root ∷ roots) (face ∷ faces) path =
    unwrap_or (option_map (below face) (name_below path root)) (shown_path roots faces path)
