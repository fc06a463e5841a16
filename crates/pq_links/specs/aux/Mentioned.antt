-- Auxiliary: the names of the files that texts import, which bound what a key's evaluation may ask
-- (used by proofs and invariants only).
use Rattle.std.specs.Prelude.{ℕ, Bool, List, [], ◌∷◌, ◌++◌, map, Option, unwrap_or}
use Rattle.pq_inputs.specs.Sources.{Sources}
use Rattle.pq_links.specs.Files.{read_file, file_imports, items_of}
use Rattle.pq_links.specs.ImportGraph.{file_of}

-- `mentioned loose text` is the names of the files that a file with `text` imports
abbrev pub mentioned : Bool → Option (List ℕ) → List (List ℕ)
mentioned loose text = map file_of (unwrap_or (file_imports (items_of (read_file loose text))) [])

-- `all_mentioned loose files` is the names of the files that any file imports
abbrev pub all_mentioned : Bool → Sources → List (List ℕ)
all_mentioned loose [] = []
all_mentioned loose (e ∷ es) = mentioned loose e.1.text ++ all_mentioned loose es
