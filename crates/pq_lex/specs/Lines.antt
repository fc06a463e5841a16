-- The lines and columns of a text's offsets (Language Server Protocol 3.17, "Position" and "Text
-- Documents"). A line ends at LF, CR LF or CR, and a column counts the UTF-16 code units of the
-- text's UTF-8.
use Rattle.std.specs.Prelude.{◌≡◌, ℕ, zero, suc, ◌+◌, ◌≤◌, ◌==◌, Bool, true, not, ◌&&◌, ◌||◌, cond, List, [], ◌∷◌, length, drop, map, min, sum, slice_index, slice_range, nat_lt, Option, Some, None}
use Rattle.pq_lex.specs.declared.position.Position.{Position}
use Rattle.pq_lex.specs.Ascii.{line_feed, carriage_return}
use Rattle.pq_lex.specs.Classes.{is_continuation}

-- `starts_line text offset` is whether a line starts at `offset`: 0, after an LF, and after a CR
-- that no LF follows.
unfoldable pub starts_line : List ℕ → ℕ → Bool
starts_line text zero = true
starts_line text (suc i) =
    slice_index text i == line_feed
    || (slice_index text i == carriage_return && not (slice_index text (suc i) == line_feed))

-- `line_number text offset` is the number of the line of `offset`: how many lines start after 0, up
-- to `offset`.
unfoldable pub line_number : List ℕ → ℕ → ℕ
line_number text zero = 0
line_number text (suc i) = cond (starts_line text (suc i)) (suc (line_number text i)) (line_number text i)

-- `line_start text offset` is the offset at which the line of `offset` starts.
unfoldable pub line_start : List ℕ → ℕ → ℕ
line_start text zero = 0
line_start text (suc i) = cond (starts_line text (suc i)) (suc i) (line_start text i)

-- `line_len bytes` is how many of `bytes` come before the first LF or CR.
unfoldable pub line_len : List ℕ → ℕ
line_len [] = 0
line_len (b ∷ bs) = cond (b == line_feed || b == carriage_return) 0 (suc (line_len bs))

-- `end_of_line text start` is the offset before the terminator of the line that starts at offset
-- `start`.
abbrev pub end_of_line : List ℕ → ℕ → ℕ
end_of_line text start = start + line_len (drop start text)

-- `line_end text offset` is the offset before the terminator of the line of `offset`.
abbrev pub line_end : List ℕ → ℕ → ℕ
line_end text offset = end_of_line text (line_start text offset)

-- `character_start text offset` is the offset of the first byte of the character at `offset`.
unfoldable pub character_start : List ℕ → ℕ → ℕ
character_start text zero = 0
character_start text (suc i) = cond (is_continuation (slice_index text (suc i))) (character_start text i) (suc i)

-- `units_of b` is the UTF-16 units of the character whose first byte is `b`, and 0 for a later byte
-- of a character. In UTF-8 (RFC 3629) a later byte is 80 to BF, and a character of two units has
-- four bytes, the first F0 or more.
abbrev pub units_of : ℕ → ℕ
units_of b = cond (nat_lt b 0x80) 1 (cond (nat_lt b 0xC0) 0 (cond (nat_lt b 0xF0) 1 2))

-- `units bytes` is the UTF-16 units of the characters whose first bytes are among `bytes`.
abbrev pub units : List ℕ → ℕ
units bytes = sum (map units_of bytes)

-- `position_of text offset` is the position of `offset`: its line, and the units from that line's
-- start to its character. An offset inside the line's terminator counts as the terminator's.
abbrev pub position_of : List ℕ → ℕ → Position
position_of text offset = record {
  line = line_number text offset;
  character = units (slice_range text (line_start text offset) (character_start text (min offset (line_end text offset))));
}

-- `IsBefore text p offset` is: `offset` is the start of a character or of the terminator on the
-- line of the position `p`, and its column is that of `p` or before it.
pub record IsBefore (text : List ℕ) (p : Position) (offset : ℕ) : Type 0 where
  pub within : offset ≤ length text
  pub start : character_start text offset ≡ offset
  pub ahead : offset ≤ line_end text offset
  pub line : line_number text offset ≡ p.line
  pub column : (position_of text offset).character ≤ p.character

-- `IsOffset text p o` is: `o` is the largest offset at or before the position `p`, or `None` if
-- `text` has no such line.
abbrev pub IsOffset : List ℕ → Position → Option ℕ → Type 0
IsOffset text p None = (o : ℕ) → o ≤ length text → line_number text o ≡ p.line → ⊥
IsOffset text p (Some o) = IsBefore text p o × ((q : ℕ) → IsBefore text p q → q ≤ o)
