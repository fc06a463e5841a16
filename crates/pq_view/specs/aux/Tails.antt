-- The paths that are kept by their bytes from the last to the first.
use Rattle.std.specs.Prelude.{◌≡◌, ◌≢◌, ℕ, List, [], ◌∷◌, ◌++◌, cond, map, reverse, Option, Some, None}
use Rattle.std.specs.BTreeMap.{BTreeMap}
use Rattle.std.specs.BTreeMap.Range.{entries_between}
use Rattle.std.specs.Cmp.Lexicographic.{slice_cmp}
use Rattle.std.specs.Ordering.{is_lt, nat_cmp, on, then_cmp}
use Rattle.std.specs.declared.cmp.Ordering.{Ordering}
use Rattle.std.specs.declared.ops.Bound.TheVariants.{Included, Excluded}
use Rattle.std.specs.List.{AllByRecursion}
use Rattle.pq_view.specs.Nearest.{common_folder}
use Rattle.pq_view.specs.Views.{below, slash}

-- `by_bytes` compares two texts by their bytes
abbrev pub by_bytes : List ℕ → List ℕ → Ordering
by_bytes = slice_cmp nat_cmp

-- `texts_of es` is the texts of the entries `es`
abbrev pub texts_of : List (List ℕ × List ℕ) → List (List ℕ)
texts_of es = map (λ e. e.1) es

-- `AreReversed es` is that the key of each of the entries `es` is the bytes of its text from the last
-- to the first
abbrev pub AreReversed : List (List ℕ × List ℕ) → Type 0
AreReversed es = AllByRecursion (λ e. e.0 ≡ reverse e.1) es

-- `bound name end` is the bytes of `name` from the last to the first, and `end`
abbrev pub bound : List ℕ → ℕ → List ℕ
bound name end = reverse name ++ end ∷ []

-- `ending m name` is the entries of `m` whose keys begin with `name` and a slash from the last byte
-- to the first: those from it on that are before the same text with the byte after the slash
abbrev pub ending : BTreeMap (List ℕ) (List ℕ) → List ℕ → List (List ℕ × List ℕ)
ending m name = entries_between by_bytes (Included (bound name slash)) (Excluded (bound name 48)) m.entries

-- `by_nearness importer a b` compares two paths: `Less` if the file at `a` is nearer to the one at
-- `importer` than that at `b`, or as near and less by bytes
abbrev pub by_nearness : List ℕ → List ℕ → List ℕ → Ordering
by_nearness importer = then_cmp (on (common_folder importer) (λ m n. nat_cmp n m)) by_bytes

-- `nearer importer best path` is `path`, if it is nearer than `best`, else `best`
abbrev pub nearer : List ℕ → Option (List ℕ) → List ℕ → Option (List ℕ)
nearer importer None path = Some path
nearer importer (Some best) path = cond (is_lt (by_nearness importer path best)) (Some path) (Some best)

-- `chosen importer best paths` is the nearest of `best` and `paths`
unfoldable pub chosen : List ℕ → Option (List ℕ) → List (List ℕ) → Option (List ℕ)
chosen importer best [] = best
chosen importer best (p ∷ ps) = chosen importer (nearer importer best p) ps

-- `IsRoot path name root` is that `root` is the folder below which the file at `path` has the name
-- `name`
abbrev pub IsRoot : List ℕ → List ℕ → Option (List ℕ) → Type 0
IsRoot path name None = (root : List ℕ) → path ≢ below root name
IsRoot path name (Some root) = path ≡ below root name
