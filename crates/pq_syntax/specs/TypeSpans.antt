-- The types that statements refer to, and the one statement of a file whose types can hold an
-- offset. An offset counts the bytes of a text before it.
use Rattle.std.specs.Prelude.{ℕ, ◌≡◌, ◌<◌, ◌≤◌, List, Some, slice_get}
use Rattle.pq_lex.specs.declared.token.Span.{Span}
use Rattle.pq_syntax.specs.declared.tree.Node.{Node}
use Rattle.pq_syntax.specs.declared.tree.Statement.{Statement}
use Rattle.pq_syntax.specs.declared.tree.Statement.TheVariants.{Field, MapField, Method}

-- `AllTypes P s` is that `P` holds of the span of each type that the statement `s` refers to: of the
-- type of a field, of the type of a map field's values, of the input and the output of a method
unfoldable pub AllTypes : (Span → Type 0) → Statement → Type 0
AllTypes P (Field label kind name number options) = P kind.span
AllTypes P (MapField key value name number options) = P value.span
AllTypes P (Method name input output) = P input.type_name.span × P output.type_name.span
AllTypes P _ = Unit {0}

-- `IsApart offset at` is that the span `at`, both ends included, does not hold `offset`: if it
-- starts at `offset` or before it, it ends before `offset`
abbrev pub IsApart : ℕ → Span → Type 0
IsApart offset at = at.start ≤ offset → at.end < offset

-- `IsOnlyAt nodes offset n` is that each type which another of the statements `nodes` than number
-- `n` refers to is apart from `offset`. Statements count from 0.
abbrev pub IsOnlyAt : List Node → ℕ → ℕ → Type 0
IsOnlyAt nodes offset n = (m : ℕ) (node : Node) → slice_get nodes m ≡ Some node → (m ≡ n → ⊥) → AllTypes (IsApart offset) node.statement
