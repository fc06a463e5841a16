use Rattle.std.proofs.Common.{◌≡◌, [], drop}
use Rattle.pq_view.specs.aux.Sights.{seen}
use Rattle.pq_view.specs.aux.Touched.{edited}
use Rattle.pq_view.proofs.edits.edits_of.Given as goal

abbrev pub invariant-names : goal.invariant-names
invariant-names l = edited (seen l.before) (seen l.after) l.edits (drop l.name-index l.names) ≡ edited (seen l.before) (seen l.after) [] l.names
