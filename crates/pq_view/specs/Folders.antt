-- The folders that a file of the build tool names as roots of imports.
use Rattle.std.specs.Prelude.{ℕ, Bool, ◌||◌, bytes_eq, List, []}
use Rattle.pq_view.specs.Nearest.{is_plain}

-- `is_folder folder` is whether `folder` is a folder below the file's own, or that folder itself: it
-- is empty, or each of its parts between slashes leads to a folder
abbrev pub is_folder : List ℕ → Bool
is_folder folder = bytes_eq folder [] || is_plain folder
