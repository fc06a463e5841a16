use Rattle.std.proofs.Common.{◌≡◌, ◌++◌, take}
use Rattle.std.specs.BTreeMap.{get_by_text}
use Rattle.pq_view.specs.aux.Touched.{open_below}
use Rattle.pq_view.proofs.touched.push_below.Given as goal

abbrev pub invariant-roots : goal.invariant-roots
invariant-roots l = l.names.items ≡ l.initial.names.items ++ open_below (get_by_text l.documents) (take l.root-index l.roots) l.name
