-- Auxiliary (used by proofs and private clauses only): where a text is cut.
use Rattle.std.specs.Prelude.{◌≡◌, ◌≤◌, ℕ, max, List}
use Rattle.std.specs.String.Boundary.{IsSplitPoint}
use Rattle.pq_lex.specs.declared.position.Position.{Position}
use Rattle.pq_session.specs.Cuts.{cut_offset}

-- `IsCut text start end from to` is: `from` and `to` are the offsets of `start` and `end`, cut to
-- `text`, in order, and `text` may be cut at both.
pub record IsCut (text : List ℕ) (start end : Position) (from to : ℕ) : Type 0 where
  pub first : from ≡ cut_offset text start
  pub last : to ≡ max (cut_offset text start) (cut_offset text end)
  pub ordered : from ≤ to
  pub first_split : IsSplitPoint text from
  pub last_split : IsSplitPoint text to
