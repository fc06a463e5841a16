-- The text after ranged changes (Language Server Protocol 3.17, "DidChangeTextDocument
-- Notification" and "TextDocumentContentChangeEvent"). The changes of a notification are made in
-- their order, each on the text that the change before it left. A text is its UTF-8 bytes, and an
-- offset counts bytes. A position is a line and a column in UTF-16 code units, both from 0
-- ("Position").
use Rattle.std.specs.Prelude.{ℕ, zero, suc, ◌==◌, ◌&&◌, Bool, cond, List, [], ◌∷◌, length, nat_le, nat_lt, Option, Some, None}
use Rattle.std.specs.List.{replace_range}
use Rattle.pq_lex.specs.declared.position.Position.{Position}
use Rattle.pq_lex.specs.Lines.{line_number, line_end, character_start, position_of}

-- `TextChangeView` is one change: the start and the end of the range that it replaces, or `None` if
-- it replaces the whole text, and the new text.
pub record TextChangeView : Type 0 where
  pub range : Option (Position × Position)
  pub text : List ℕ

-- `is_before text p offset` is whether `offset` is the start of a character or of the terminator on
-- the line of the position `p`, and its column is that of `p` or before it. It is the test of
-- `IsBefore`.
abbrev pub is_before : List ℕ → Position → ℕ → Bool
is_before text p offset =
    character_start text offset == offset
    && (nat_le offset (line_end text offset)
    && (line_number text offset == p.line && nat_le (position_of text offset).character p.character))

-- `last_before text p most` is the largest offset up to `most` that is at or before the position
-- `p`, or `None` if there is none.
unfoldable pub last_before : List ℕ → Position → ℕ → Option ℕ
last_before text p zero = cond (is_before text p 0) (Some 0) None
last_before text p (suc i) = cond (is_before text p (suc i)) (Some (suc i)) (last_before text p i)

-- `offset_of text p` is the largest offset of `text` at or before the position `p`, or `None` if
-- `text` has no such line. A column past the end of its line is the line's end, before the
-- terminator. A column inside a character is the character's start.
abbrev pub offset_of : List ℕ → Position → Option ℕ
offset_of text p = last_before text p (length text)

-- `replace_between text start end new` is `text` with `new` in place of the bytes from the offset
-- `start` to the offset `end`. It is `None` if one of the offsets is `None`, or if `end` is less
-- than `start`.
abbrev pub replace_between : List ℕ → Option ℕ → Option ℕ → List ℕ → Option (List ℕ)
replace_between text None end new = None
replace_between text (Some i) None new = None
replace_between text (Some i) (Some j) new = cond (nat_lt j i) None (Some (replace_range text i j new))

-- `after_change text c` is the text after the change `c` of `text`, where `None` is no text. A
-- change of the whole text needs no text before it. A change with a range gives `None` if there is
-- no text, if the text has no line of the start or of the end, or if the end is before the start.
abbrev pub after_change : Option (List ℕ) → TextChangeView → Option (List ℕ)
after_change text c = elim c.range [
  | None ↦ Some c.text
  | Some r ↦ elim text [
    | None ↦ None
    | Some bytes ↦ replace_between bytes (offset_of bytes r.0) (offset_of bytes r.1) c.text
  ]
]

-- `apply text changes` is the text after `changes` of `text`, made in their order. It is `None` if
-- one of them gives `None`, whatever comes after it. Without changes it is `text`.
unfoldable pub apply : Option (List ℕ) → List TextChangeView → Option (List ℕ)
apply text [] = text
apply text (c ∷ cs) = elim (after_change text c) [ None ↦ None | Some bytes ↦ apply (Some bytes) cs ]
