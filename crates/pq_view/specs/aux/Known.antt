-- The names that a change of the roots can touch.
use Rattle.std.specs.Prelude.{◌≡◌, ℕ, false, bytes_eq, List, ◌∷◌, ◌++◌, map, filter_map, flat_map, None, string_bytes}
use Rattle.std.specs.BTreeMap.{BTreeMap, keys}
use Rattle.std.specs.List.{list_any}
use Rattle.std.specs.declared.string.String.{String}
use Rattle.pq_view.specs.Views.{View, name_below}

-- `paths_of m` is the paths of the map `m`
abbrev pub paths_of : {X Y : Type 0} → BTreeMap (String Y) X → List (List ℕ)
paths_of m = map string_bytes (keys m)

-- `known_by old new path` is `path` and its names below the roots `old` and `new`
abbrev pub known_by : List (List ℕ) → List (List ℕ) → List ℕ → List (List ℕ)
known_by old new path = path ∷ (filter_map (name_below path) old ++ filter_map (name_below path) new)

-- `known_names old new disk documents` is the paths `disk` and `documents`, and their names
abbrev pub known_names : List (List ℕ) → List (List ℕ) → List (List ℕ) → List (List ℕ) → List (List ℕ)
known_names old new disk documents = flat_map (known_by old new) disk ++ flat_map (known_by old new) documents

-- `IsKnown v disk documents` is that `v` has no texts but at the paths `disk` and `documents`
pub record IsKnown (v : View) (disk documents : List (List ℕ)) : Type 0 where
  pub on_disk : (q : List ℕ) → list_any (bytes_eq q) disk ≡ false → v.disk q ≡ None
  pub open_at : (q : List ℕ) → list_any (bytes_eq q) documents ≡ false → v.documents q ≡ None
