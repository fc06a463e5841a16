use Rattle.std.proofs.Common.{◌≡◌, ◌∷◌, take}
use Rattle.std.specs.Prelude.{filter}
use Rattle.pq_links.specs.aux.Adding.{is_not}
use Rattle.pq_links.proofs.file_names.names_after.Given as goal

abbrev pub invariant-names : goal.invariant-names
invariant-names l = l.all.items ≡ l.file ∷ filter (is_not l.file) (take l.name-index l.others)
