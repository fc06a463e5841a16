-- Auxiliary: statements, and the types that they refer to, come one after the other.
use Rattle.std.specs.Prelude.{ℕ, ◌<◌, ◌≤◌, List, get_or, length}
use Rattle.pq_lex.specs.declared.token.Span.{Span}
use Rattle.pq_syntax.specs.TypeSpans.{AllTypes}
use Rattle.pq_syntax.specs.declared.tree.Node.{Node}

-- `LiesIn low high at` is that the span `at` starts at `low` or after it, and ends at `high` or
-- before it
pub record LiesIn (low high : ℕ) (at : Span) : Type 0 where
  pub from : low ≤ at.start
  pub to : at.end ≤ high

-- `Reaches node high` is that `node` starts at `high` or before it, and that each type which it
-- refers to lies between its start and `high`
pub record Reaches (node : Node) (high : ℕ) : Type 0 where
  pub start : node.span.start ≤ high
  pub types : AllTypes (LiesIn node.span.start high) node.statement

-- `Precedes node later` is that `later` starts after the start of `node`, and after the end of each
-- type which `node` refers to
pub record Precedes (node later : Node) : Type 0 where
  pub high : ℕ
  pub reaches : Reaches node high
  pub before : high < later.span.start

-- `RiseTo nodes count high` is that each of the first `count` of `nodes` precedes those of them that
-- come after it, and reaches `high` or less
pub record RiseTo (nodes : List Node) (count high : ℕ) : Type 0 where
  pub reaches : (m : ℕ) (d : Node) → m < count → Reaches (get_or nodes m d) high
  pub apart : (m n : ℕ) (d : Node) → m < n → n < count → Precedes (get_or nodes m d) (get_or nodes n d)

-- `TypesRise nodes` is that each of `nodes` precedes those after it, and that no type starts before
-- the statement that refers to it
abbrev pub TypesRise : List Node → Type 0
TypesRise nodes = (high : ℕ) × RiseTo nodes (length nodes) high
