-- Auxiliary: what a search of a text's lines finds (used by proofs and by contracts of private
-- functions only).
use Rattle.std.specs.Prelude.{◌≡◌, ℕ, ◌≤◌, true, List, length, Option, Some, None, MatchOption}
use Rattle.pq_lex.specs.declared.position.Position.{Position}
use Rattle.pq_lex.specs.Lines.{line_number, starts_line, IsOffset}
use Rattle.pq_lex.specs.TextChanges.{replace_between, offset_of}

-- `IsLine text n start` is: the line number `n` of `text` starts at offset `start`.
pub record IsLine (text : List ℕ) (n start : ℕ) : Type 0 where
  pub within : start ≤ length text
  pub starts : starts_line text start ≡ true
  pub number : line_number text start ≡ n

-- `IsLineFound text n found` is: `found` is the start of the line number `n`, or `None` if `text`
-- has no such line.
abbrev pub IsLineFound : List ℕ → ℕ → Option ℕ → Type 0
IsLineFound text n found =
    MatchOption found
    ((o : ℕ) → o ≤ length text → line_number text o ≡ n → ⊥)
    (λ start. IsLine text n start)

-- `Bounds text start end from to` is: `from` and `to` are the offsets of the positions `start` and
-- `end`, in order.
pub record Bounds (text : List ℕ) (start end : Position) (from to : ℕ) : Type 0 where
  pub first : IsOffset text start (Some from)
  pub last : IsOffset text end (Some to)
  pub ordered : from ≤ to

-- `AreBounds text start end found` is: `found` is these two offsets, or `None` if `text` has no
-- offset for one of the positions, or they are not in order.
abbrev pub AreBounds : List ℕ → Position → Position → Option (ℕ × ℕ) → Type 0
AreBounds text start end found =
    MatchOption found
    ((new : List ℕ) → replace_between text (offset_of text start) (offset_of text end) new ≡ None)
    (λ b. Bounds text start end b.0 b.1)
