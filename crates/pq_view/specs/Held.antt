-- What contracts see of a view that the program holds.
use Rattle.std.specs.BTreeMap.{get_by_text}
use Rattle.pq_view.specs.Views.{View}
use Rattle.pq_view.specs.declared.view.View.{View as Held}

-- `view_of held` is the view that `held` is: its roots, and the texts of the disk and of the
-- documents by their paths
abbrev pub view_of : Held → View
view_of held = record { roots = held.roots.items; disk = get_by_text held.disk; documents = get_by_text held.documents }
