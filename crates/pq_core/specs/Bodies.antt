-- What contracts see of the body of a change.
use Rattle.std.specs.Prelude.{string_bytes}
use Rattle.std.specs.Option.{option_map}
use Rattle.pq_core.specs.Changes.{BodyView, set, ranged}
use Rattle.pq_core.specs.declared.values.request.Body.{Body}
use Rattle.pq_core.specs.declared.values.request.Body.TheVariants.{Set, Ranged}

-- `body_view body` is `body`, with texts as bytes and lists of changes as lists
abbrev pub body_view : Body → BodyView
body_view (Set text) = set (option_map string_bytes text)
body_view (Ranged changes) = ranged changes.items
