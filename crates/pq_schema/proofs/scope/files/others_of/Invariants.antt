use Rattle.std.proofs.Common.{◌≡◌, take}
use Rattle.std.specs.Prelude.{filter}
use Rattle.pq_schema.specs.aux.FirstOf.{is_other_at}
use Rattle.pq_schema.proofs.scope.files.others_of.Given as goal

abbrev pub invariant-places : goal.invariant-places
invariant-places l = l.others.items ≡ filter (is_other_at l.file l.files) (take l.place-index l.places)
