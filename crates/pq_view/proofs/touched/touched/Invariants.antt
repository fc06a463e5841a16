use Rattle.std.proofs.Common.{◌≡◌, ◌∷◌, take}
use Rattle.std.specs.Prelude.{filter_map, flat_map}
use Rattle.std.specs.BTreeMap.{get_by_text}
use Rattle.pq_view.specs.Views.{name_below}
use Rattle.pq_view.specs.aux.Touched.{touched_by}
use Rattle.pq_view.proofs.touched.touched.Given as goal

abbrev pub invariant-roots : goal.invariant-roots
invariant-roots l = l.names.items ≡ l.path ∷ flat_map (touched_by (get_by_text l.documents) l.roots) (filter_map (name_below l.path) (take l.root-index l.roots))
