-- The order of tokens in a text: each has at least one byte, and they follow one another without
-- overlap.
use Rattle.std.specs.Prelude.{ℕ, ◌<◌, ◌≤◌, List, [], ◌∷◌}
use Rattle.pq_lex.specs.declared.token.Token.{Token}

-- `InOrder from end tokens` is: each of `tokens` has at least one byte, the first starts at offset
-- `from` or later, each further one at its predecessor's end or later, and the last ends at offset
-- `end` or before.
abbrev pub InOrder : ℕ → ℕ → List Token → Type 0
InOrder from end [] = from ≤ end
InOrder from end (t ∷ ts) = (from ≤ t.span.start) × (t.span.start < t.span.end) × InOrder t.span.end end ts
