-- The root that a missing import shows: the folder below which the file of that name lies that is
-- nearest to the importing file.
use Rattle.std.specs.Prelude.{◌≡◌, ◌≢◌, ℕ, zero, suc, ◌≤◌, Bool, true, false, cond, not, ◌||◌, ◌==◌, bytes_eq, List, [], ◌∷◌, Contains, IsTrue, Option, Some, None}
use Rattle.std.specs.List.{list_any, slice_split}
use Rattle.std.specs.Cmp.Lexicographic.{slice_cmp}
use Rattle.std.specs.Ordering.{nat_cmp}
use Rattle.std.specs.declared.cmp.Ordering.TheVariants.{Less}
use Rattle.pq_view.specs.Views.{below, slash}

-- ---- names

-- `is_no_step part` is whether `part` leads from a folder to nothing in it: it is empty, `.` or `..`
abbrev pub is_no_step : List ℕ → Bool
is_no_step part = bytes_eq part [] || bytes_eq part (46 ∷ []) || bytes_eq part (46 ∷ 46 ∷ [])

-- `is_plain name` is whether each part of `name` between slashes leads to a file or folder
abbrev pub is_plain : List ℕ → Bool
is_plain name = not (list_any is_no_step (slice_split (λ b. b == slash) name))

-- ---- how near two files are

-- `common_more is_slash n` is the length of a common folder with one byte more at its front: the
-- folder after that byte has the length `n`, and the byte is a slash if `is_slash`
abbrev pub common_more : Bool → ℕ → ℕ
common_more is_slash (suc n) = suc (suc n)
common_more true zero = 1
common_more false zero = 0

-- `common_folder a b` is the length in bytes of the longest folder in which the files at `a` and `b`
-- both lie, with the slash at its end: of the longest text that ends with a slash and with which
-- both begin
unfoldable pub common_folder : List ℕ → List ℕ → ℕ
common_folder [] b = 0
common_folder (x ∷ xs) [] = 0
common_folder (x ∷ xs) (y ∷ ys) = cond (x == y) (common_more (x == slash) (common_folder xs ys)) 0

-- ---- the nearest

-- `IsNearest paths importer name root` is that the file `name` below `root` is the nearest to the
-- file at `importer`: no other file of that name among `paths` has a longer common folder with it,
-- and among those whose common folder is as long it is the least by bytes
pub record IsNearest (paths : List (List ℕ)) (importer name root : List ℕ) : Type 0 where
  pub found : Contains paths (below root name)
  pub nearest : (other : List ℕ) → Contains paths (below other name)
      → common_folder importer (below other name) ≤ common_folder importer (below root name)
  pub least : (other : List ℕ) → Contains paths (below other name)
      → common_folder importer (below other name) ≡ common_folder importer (below root name)
      → slice_cmp nat_cmp (below other name) (below root name) ≢ Less

-- `IsRootOf paths importer name root` is that `root` is the folder of the file `name` that is the
-- nearest to the file at `importer`; it is `None` exactly if `name` is not plain or no path ends so
abbrev pub IsRootOf : List (List ℕ) → List ℕ → List ℕ → Option (List ℕ) → Type 0
IsRootOf paths importer name None = IsTrue (is_plain name) → (root : List ℕ) → ¬ Contains paths (below root name)
IsRootOf paths importer name (Some root) = IsTrue (is_plain name) × IsNearest paths importer name root
