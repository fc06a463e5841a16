-- Auxiliary: a text in blocks, as changes keep it (used by an invariant, by proofs and by contracts
-- of private functions only).
use Rattle.std.specs.Prelude.{◌≡◌, ℕ, ◌+◌, ◌<◌, ◌≤◌, ◌^◌, List, [], ◌∷◌, ◌++◌, drop, length, map, slice_index, slice_range, take, Option, None, MatchOption}
use Rattle.std.specs.List.{flat_map, replace_range}
use Rattle.pq_lex.specs.declared.blocks.Place.{Place}
use Rattle.pq_lex.specs.declared.position.Position.{Position}
use Rattle.pq_lex.specs.Lines.{end_of_line, line_len, line_number, units, units_of}
use Rattle.pq_lex.specs.TextChanges.{offset_of, replace_between}
use Rattle.pq_lex.specs.aux.LineSearch.{Bounds, IsLine}

-- A `BlockView` is a block: its bytes, and the byte after them, or 0 at the end of the text.
pub record BlockView : Type 0 where
  pub bytes : List ℕ
  pub next : ℕ

-- `lines_in bytes next` is how many lines start after the first of `bytes`, up to their end, if
-- the byte `next` comes after them.
abbrev pub lines_in : List ℕ → ℕ → ℕ
lines_in bytes next = line_number (bytes ++ next ∷ []) (length bytes)

-- `HasCounts bytes next count width first` is what a block keeps of its bytes: the lines that start
-- after its first byte, its UTF-16 units, and the bytes before its first LF or CR.
pub record HasCounts (bytes : List ℕ) (next count width first : ℕ) : Type 0 where
  pub lines : count ≡ lines_in bytes next
  pub units : width ≡ units bytes
  pub head : first ≡ line_len bytes

-- `text_of blocks` is the bytes of `blocks`.
abbrev pub text_of : List BlockView → List ℕ
text_of blocks = flat_map (λ b. b.bytes) blocks

-- `AreFollowed blocks rest` is: each of `blocks` has the byte after it, where `rest` comes after
-- them.
abbrev pub AreFollowed : List BlockView → List ℕ → Type 0
AreFollowed [] rest = Unit {0}
AreFollowed (b ∷ bs) rest = (b.next ≡ slice_index (text_of bs ++ rest) 0) × AreFollowed bs rest

-- `AreBlocks blocks` is: `blocks` are a text, with at least one block, and its units are a `usize`.
pub record AreBlocks (blocks : List BlockView) : Type 0 where
  pub followed : AreFollowed blocks []
  pub some : 0 < length blocks
  pub small : length (text_of blocks) ≤ 2 ^ 62

-- `IsPlaced blocks index start offset` is: the block `index` starts at the offset `start`, and
-- `offset` is in it or at its end.
pub record IsPlaced (blocks : List BlockView) (index start offset : ℕ) : Type 0 where
  pub within : index < length blocks
  pub at : start ≡ length (text_of (take index blocks))
  pub low : start ≤ offset
  pub high : offset ≤ length (text_of (take (index + 1) blocks))

-- `BlockOfLine blocks line index start left` is: the line number `line` starts in the block `index`,
-- which starts at the offset `start`, `left` lines before.
pub record BlockOfLine (blocks : List BlockView) (line index start left : ℕ) : Type 0 where
  pub within : index < length blocks
  pub at : start ≡ length (text_of (take index blocks))
  pub number : line_number (text_of blocks) start + left ≡ line
  pub high : line ≤ line_number (text_of blocks) (length (text_of (take (index + 1) blocks)))
  pub first : left ≡ 0 → start ≡ 0

-- `IsBlockOfLine blocks line found` is: `found` is such a block, or `None` if the text has fewer
-- lines.
abbrev pub IsBlockOfLine : List BlockView → ℕ → Option (ℕ × ℕ × ℕ) → Type 0
IsBlockOfLine blocks line found =
    MatchOption found
    (line_number (text_of blocks) (length (text_of blocks)) < line)
    (λ f. BlockOfLine blocks line f.0 f.1 f.2)

-- `IsStartOfLine blocks line found` is: `found` is the start of the line number `line`, or `None` if
-- the text has no such line.
abbrev pub IsStartOfLine : List BlockView → ℕ → Option Place → Type 0
IsStartOfLine blocks line found =
    MatchOption found
    ((o : ℕ) → o ≤ length (text_of blocks) → line_number (text_of blocks) o ≡ line → ⊥)
    (λ p. IsPlaced blocks p.index p.start p.offset × IsLine (text_of blocks) line p.offset)

-- `line_units text start` is the units of the bytes from `start` to the end of the line.
abbrev pub line_units : List ℕ → ℕ → List ℕ
line_units text start = map units_of (slice_range text start (end_of_line text start))

-- `ArePlaces blocks start end found` is: `found` is the places of the positions `start` and `end`, or
-- `None` if the text has no offset for one of them, or they are not in order.
abbrev pub ArePlaces : List BlockView → Position → Position → Option (Place × Place) → Type 0
ArePlaces blocks start end found =
    MatchOption found
    ((new : List ℕ) → replace_between (text_of blocks) (offset_of (text_of blocks) start) (offset_of (text_of blocks) end) new ≡ None)
    (λ p. IsPlaced blocks p.0.index p.0.start p.0.offset × IsPlaced blocks p.1.index p.1.start p.1.offset × Bounds (text_of blocks) start end p.0.offset p.1.offset)

-- `IsHolder blocks offset index start` is: `index` is the first block that ends at `offset` or after
-- it, and it starts at the offset `start`.
pub record IsHolder (blocks : List BlockView) (offset index start : ℕ) : Type 0 where
  pub within : index < length blocks
  pub at : start ≡ length (text_of (take index blocks))
  pub low : start ≤ offset
  pub high : offset ≤ length (text_of (take (index + 1) blocks))
  pub first : 0 < index → start < offset

-- `IsCut blocks bytes next` is: `blocks` are `bytes` in blocks, after which the byte `next` comes.
pub record IsCut (blocks : List BlockView) (bytes : List ℕ) (next : ℕ) : Type 0 where
  pub text : text_of blocks ≡ bytes
  pub followed : AreFollowed blocks (next ∷ [])
  pub some : 0 < length blocks

-- `IsPut blocks first last bytes next made` is: `made` is `blocks` with `bytes`, cut into blocks, in
-- place of the blocks from `first` to `last`.
pub record IsPut (blocks : List BlockView) (first last : ℕ) (bytes : List ℕ) (next : ℕ) (made : List BlockView) : Type 0 where
  pub pieces : List BlockView
  pub cut : IsCut pieces bytes next
  pub is : made ≡ take first blocks ++ (pieces ++ drop (last + 1) blocks)

-- `IsReplaced blocks from to new made` is: `made` is a text in blocks, that of `blocks` with `new` in
-- place of the bytes from `from` to `to`.
pub record IsReplaced (blocks : List BlockView) (from to : ℕ) (new : List ℕ) (made : List BlockView) : Type 0 where
  pub text : text_of made ≡ replace_range (text_of blocks) from to new
  pub followed : AreFollowed made []
  pub some : 0 < length made
