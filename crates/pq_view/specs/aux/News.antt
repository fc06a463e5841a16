-- The paths to read again, from the maps of two looks.
use Rattle.std.specs.Prelude.{ℕ, Bool, not, List, is_some}
use Rattle.std.specs.BTreeMap.{BTreeMap, get_by_text}
use Rattle.std.specs.declared.string.String.{String}
use Rattle.pq_view.specs.Looks.{is_news}
use Rattle.pq_view.specs.declared.looks.Look.{Look}

-- `is_news_at earlier later path` is whether the file at `path` has to be read again
abbrev pub is_news_at : {Y : Type 0} → BTreeMap (String Y) Look → BTreeMap (String Y) Look → List ℕ → Bool
is_news_at earlier later path = is_news (get_by_text earlier path) (get_by_text later path)

-- `is_gone later path` is whether the later look has no file at `path`
abbrev pub is_gone : {Y : Type 0} → BTreeMap (String Y) Look → List ℕ → Bool
is_gone later path = not (is_some (get_by_text later path))
