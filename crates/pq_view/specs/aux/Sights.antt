-- What a sight shows: a view, with the changes that are laid over it.
use Rattle.std.specs.Prelude.{List, ℕ, cond, Option, Some, None, option_copied}
use Rattle.std.specs.BTreeMap.{get_by_text}
use Rattle.pq_view.specs.Views.{View, Texts, name_below, is_placed}
use Rattle.pq_view.specs.Edits.{with_text}
use Rattle.pq_view.specs.declared.sight.Change.{Change}
use Rattle.pq_view.specs.declared.sight.Layer.{Layer}
use Rattle.pq_view.specs.declared.sight.Sight.{Sight}

-- `overlay change texts` is `texts` after `change`
abbrev pub overlay : Option Change → Texts → Texts
overlay None texts = texts
overlay (Some c) texts = with_text c.path.now (option_copied c.text) texts

-- `layer_text layer` is the texts of a layer
abbrev pub layer_text : Layer → Texts
layer_text layer = overlay layer.change (get_by_text layer.texts.now)

-- `seen sight` is the view that a sight shows
abbrev pub seen : Sight → View
seen s = record { roots = s.roots.now; disk = layer_text s.disk; documents = layer_text s.documents }

-- `only is name` is `name`, if `is`
abbrev pub kept_name : View → List ℕ → Option (List ℕ) → Option (List ℕ)
kept_name v path None = None
kept_name v path (Some name) = cond (is_placed v path name) (Some name) None

-- `placed_below v path root` is the name of the file at `path` below `root`, if it is the file of
-- that name
abbrev pub placed_below : View → List ℕ → List ℕ → Option (List ℕ)
placed_below v path root = kept_name v path (name_below path root)
