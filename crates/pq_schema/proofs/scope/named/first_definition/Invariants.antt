use Rattle.std.proofs.Common.{◌≡◌, drop}
use Rattle.pq_schema.specs.aux.FirstOf.{definition_in, first_near}
use Rattle.pq_schema.proofs.scope.named.first_definition.Given as goal

abbrev pub invariant-places : goal.invariant-places
invariant-places l =
    first_near (definition_in l.name) l.files l.places ≡ first_near (definition_in l.name) l.files (drop l.place-index l.places)
