-- Auxiliary: what the program's look-ups answer, in the words of the resolution.
use Rattle.std.specs.Prelude.{ℕ, List, Option, Some, None}
use Rattle.pq_schema.specs.Resolution.{Found, Meaning, Lookup}
use Rattle.pq_schema.specs.Resolution.Found.{FoundType, FoundOther, FoundNothing}
use Rattle.pq_schema.specs.Resolution.Meaning.{Defined, Undefined}
use Rattle.pq_schema.specs.Resolution.Lookup.{IsType, IsNotFound, IsNotVisible, IsNotAType}
use Rattle.pq_schema.specs.declared.define.definitions.Definition.{Definition}
use Rattle.pq_schema.specs.declared.scope.named.Place.{Place}
use Rattle.pq_schema.specs.declared.search.search.Hit.{Hit}
use Rattle.pq_schema.specs.declared.search.search.Hit.TheVariants.{«Type» as TypeHit, Other as OtherHit, Nothing as NothingHit}
use Rattle.pq_schema.specs.declared.search.search.Outcome.{Outcome}
use Rattle.pq_schema.specs.declared.search.search.Outcome.TheVariants.{«Type» as TypeOutcome, NotFound as NotFoundOutcome, NotVisible as NotVisibleOutcome, NotAType as NotATypeOutcome}

-- `meaning_at place` is the meaning of a full name whose first definition is at `place`
abbrev pub meaning_at : Option Place → Meaning
meaning_at None = Undefined
meaning_at (Some p) = Defined p.file.now p.definition.now

-- `placed place` is the file and the definition at `place`
abbrev pub placed : Option Place → Option (List ℕ × Definition)
placed None = None
placed (Some p) = Some (p.file.now, p.definition.now)

-- `found_at hit` is what a search ends in that ends in `hit`
abbrev pub found_at : Hit → Found
found_at (TypeHit p) = FoundType p.file.now p.definition.now
found_at OtherHit = FoundOther
found_at NothingHit = FoundNothing

-- `lookup_at outcome` is what a name resolves to where the look-up ends in `outcome`
abbrev pub lookup_at : Outcome → Lookup
lookup_at (TypeOutcome p) = IsType p.file.now p.definition.now
lookup_at NotFoundOutcome = IsNotFound
lookup_at (NotVisibleOutcome file) = IsNotVisible file.now
lookup_at NotATypeOutcome = IsNotAType
