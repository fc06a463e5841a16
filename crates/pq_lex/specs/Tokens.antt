-- The tokens of a text: which bytes are a piece, that the longest piece is taken, and the error
-- where there is none. (proto3 language specification, "Lexical elements" and "Comments".) A piece
-- is a token, or a separator between tokens.
use Rattle.std.specs.Prelude.{◌≡◌, ℕ, ◌+◌, ◌<◌, ◌≤◌, ◌==◌, ◌&&◌, ◌||◌, Bool, true, false, not, cond, List, [], ◌∷◌, length, Option, Some, None, ◌⊎◌}
use Rattle.pq_lex.specs.declared.bytes.Class.TheVariants.{Letter, Digit, Point, Slash, Mark}
use Rattle.pq_lex.specs.declared.bytes.Set.TheVariants.{Spaces, Words, Digits, Octals, Hexes, Lines, Continuations}
use Rattle.pq_lex.specs.declared.escapes.Escape.{Escape}
use Rattle.pq_lex.specs.declared.token.Kind.{Kind}
use Rattle.pq_lex.specs.declared.token.Kind.TheVariants.{Identifier, Integer, Float, Text, Symbol}
use Rattle.pq_lex.specs.declared.token.Span.{Span}
use Rattle.pq_lex.specs.declared.token.Token.{Token}
use Rattle.pq_lex.specs.declared.token.Code.{Code}
use Rattle.pq_lex.specs.declared.token.Code.TheVariants.{UnclosedComment, UnclosedString, BadEscape, NumberRunsOn, OtherCharacter}
use Rattle.pq_lex.specs.Ascii.{nul, line_feed, asterisk, plus_sign, minus_sign, full_stop, solidus, digit_0, upper_e, upper_x, backslash, lower_e, lower_x}
use Rattle.pq_lex.specs.Classes.{byte, at, in_set, is_quote}
use Rattle.pq_lex.specs.Escapes.{escape_at}
use Rattle.pq_lex.specs.Runs.{Run}

-- A `Piece` is a sort of piece: a separator, or a token of a kind.
pub data Piece : Type 0 where
  Separator : Piece
  Lexeme : Kind → Piece

-- `span start end` is the span from offset `start` to `end`.
abbrev pub span : ℕ → ℕ → Span
span start end = record { start = start; end = end }

-- `opens text i` is whether `/*` is at offset `i`.
abbrev pub opens : List ℕ → ℕ → Bool
opens text i = byte text i == solidus && byte text (i + 1) == asterisk

-- `closes text i` is whether `*/` is at offset `i`.
abbrev pub closes : List ℕ → ℕ → Bool
closes text i = byte text i == asterisk && byte text (i + 1) == solidus

-- `ClosesFirst text i k` is: `k` is the first offset from `i` on at which a comment closes.
pub record ClosesFirst (text : List ℕ) (i k : ℕ) : Type 0 where
  pub from : i ≤ k
  pub here : closes text k ≡ true
  pub before : (j : ℕ) → i ≤ j → j < k → closes text j ≡ false

-- `IsSeparator text i n` is: the bytes from offset `i` to `n` are U+FEFF at the start of `text` (EF
-- BB BF in UTF-8), blanks, a comment up to the end of its line, or a comment up to the first `*/`.
pub data IsSeparator (text : List ℕ) (i n : ℕ) : Type 0 where
  order_mark : i ≡ 0 → n ≡ 3 → byte text 0 ≡ 0xEF → byte text 1 ≡ 0xBB → byte text 2 ≡ 0xBF → IsSeparator text i n
  blanks : i < n → Run Spaces text i n → IsSeparator text i n
  line_comment : byte text i ≡ solidus → byte text (i + 1) ≡ solidus → Run Lines text (i + 2) n → IsSeparator text i n
  comment : opens text i ≡ true → (k : ℕ) → ClosesFirst text (i + 2) k → n ≡ k + 2 → IsSeparator text i n

-- `IsIdentifier text i n` is: the bytes from offset `i` to `n` are a letter or `_`, and letters,
-- digits and `_` after it.
pub record IsIdentifier (text : List ℕ) (i n : ℕ) : Type 0 where
  pub first : at text i ≡ Letter
  pub others : Run Words text (i + 1) n

-- `is_x b` is whether the byte `b`, after a 0, makes an integer hexadecimal.
abbrev pub is_x : ℕ → Bool
is_x b = b == lower_x || b == upper_x

-- `IsInteger text i n` is: the bytes from offset `i` to `n` are 1 to 9 and digits, 0 and octal
-- digits, or 0x and hexadecimal digits.
pub data IsInteger (text : List ℕ) (i n : ℕ) : Type 0 where
  decimal : at text i ≡ Digit → (byte text i == digit_0) ≡ false → Run Digits text (i + 1) n → IsInteger text i n
  octal : byte text i ≡ digit_0 → Run Octals text (i + 1) n → IsInteger text i n
  hexadecimal : byte text i ≡ digit_0 → is_x (byte text (i + 1)) ≡ true → i + 2 < n → Run Hexes text (i + 2) n → IsInteger text i n

-- `is_e b` is whether the byte `b` begins an exponent.
abbrev pub is_e : ℕ → Bool
is_e b = b == lower_e || b == upper_e

-- `is_sign b` is whether the byte `b` is a sign.
abbrev pub is_sign : ℕ → Bool
is_sign b = b == plus_sign || b == minus_sign

-- `exponent_digits text i` is the offset of the digits of the exponent whose letter is at offset
-- `i`.
abbrev pub exponent_digits : List ℕ → ℕ → ℕ
exponent_digits text i = cond (is_sign (byte text (i + 1))) (i + 2) (i + 1)

-- `IsExponent text i n` is: the bytes from offset `i` to `n` are an exponent: e or E, perhaps a
-- sign, and digits.
pub record IsExponent (text : List ℕ) (i n : ℕ) : Type 0 where
  pub letter : is_e (byte text i) ≡ true
  pub some : exponent_digits text i < n
  pub digits : Run Digits text (exponent_digits text i) n

-- `IsFloat text i n` is: the bytes from offset `i` to `n` are digits, a point and digits, of which
-- there is at least one, and perhaps an exponent; or digits and an exponent.
pub data IsFloat (text : List ℕ) (i n : ℕ) : Type 0 where
  pointed : (p q : ℕ) → Run Digits text i p → byte text p ≡ full_stop → Run Digits text (p + 1) q → i + 1 < q → ((n ≡ q) ⊎ IsExponent text q n) → IsFloat text i n
  raised : (p : ℕ) → i < p → Run Digits text i p → IsExponent text p n → IsFloat text i n

-- `is_plain quote b` is whether the byte `b` of a string with this `quote` means itself: it is not
-- `quote`, backslash, LF or NUL.
abbrev pub is_plain : ℕ → ℕ → Bool
is_plain quote b = not (b == quote || (b == backslash || (b == line_feed || b == nul)))

-- `Quoted text quote n i` is: a string with this `quote`, read up to offset `i`, goes on to a
-- closing quote and ends at `n`.
pub data Quoted (text : List ℕ) (quote n : ℕ) : ℕ → Type 0 where
  closed : {i : ℕ} → byte text i ≡ quote → n ≡ i + 1 → Quoted text quote n i
  plain : {i : ℕ} → is_plain quote (byte text i) ≡ true → Quoted text quote n (i + 1) → Quoted text quote n i
  escaped : {i : ℕ} → byte text i ≡ backslash → (e : Escape) → escape_at text i ≡ Some e → Quoted text quote n e.end → Quoted text quote n i

-- `IsText text i n` is: the bytes from offset `i` to `n` are a string.
pub record IsText (text : List ℕ) (i n : ℕ) : Type 0 where
  pub opened : is_quote (byte text i) ≡ true
  pub rest : Quoted text (byte text i) n (i + 1)

-- `IsSymbol text i n` is: the byte at offset `i` is a mark, a point, or a slash that opens no
-- comment, and `n` is after it.
pub record IsSymbol (text : List ℕ) (i n : ℕ) : Type 0 where
  pub one : n ≡ i + 1
  pub mark : (at text i ≡ Mark) ⊎ ((at text i ≡ Point) ⊎ (at text i ≡ Slash))
  pub alone : opens text i ≡ false

-- `Spells text p i n` is: the bytes from offset `i` to `n` are a piece of the sort `p`.
abbrev pub Spells : List ℕ → Piece → ℕ → ℕ → Type 0
Spells text Separator i n = IsSeparator text i n
Spells text (Lexeme Identifier) i n = IsIdentifier text i n
Spells text (Lexeme Integer) i n = IsInteger text i n
Spells text (Lexeme Float) i n = IsFloat text i n
Spells text (Lexeme Text) i n = IsText text i n
Spells text (Lexeme Symbol) i n = IsSymbol text i n

-- `IsLongest text p i n` is: a piece of the sort `p` goes from offset `i` to `n`, and no longer
-- piece begins at `i`.
pub record IsLongest (text : List ℕ) (p : Piece) (i n : ℕ) : Type 0 where
  pub spells : Spells text p i n
  pub longest : (q : Piece) (m : ℕ) → n < m → Spells text q i m → ⊥

-- `HasNone text i` is: no piece begins at offset `i`.
abbrev pub HasNone : List ℕ → ℕ → Type 0
HasNone text i = (p : Piece) (n : ℕ) → Spells text p i n → ⊥

-- `runs_on k text n` is whether a letter, digit or `_` directly follows a number of kind `k` that
-- ends at offset `n`.
abbrev pub runs_on : Kind → List ℕ → ℕ → Bool
runs_on Integer text n = in_set Words (byte text n)
runs_on Float text n = in_set Words (byte text n)
runs_on k text n = false

-- `TextFault text quote start at code i` is: the string that opens at `start` with `quote` has no
-- error before offset `i`, and its first error has the span `at` and the code `code`.
pub data TextFault (text : List ℕ) (quote start : ℕ) (at : Span) (code : Code) : ℕ → Type 0 where
  opened_only : {i : ℕ} → (length text ≤ i) ⊎ ((byte text i ≡ line_feed) ⊎ (byte text i ≡ nul)) → at ≡ span start (start + 1) → code ≡ UnclosedString → TextFault text quote start at code i
  bad : {i : ℕ} → byte text i ≡ backslash → escape_at text i ≡ None → at ≡ span i (i + 1) → code ≡ BadEscape → TextFault text quote start at code i
  plain_first : {i : ℕ} → is_plain quote (byte text i) ≡ true → TextFault text quote start at code (i + 1) → TextFault text quote start at code i
  escaped_first : {i : ℕ} → byte text i ≡ backslash → (e : Escape) → escape_at text i ≡ Some e → TextFault text quote start at code e.end → TextFault text quote start at code i

-- `IsCharacter text i n` is: the bytes from offset `i` to `n` are a whole character: a first byte
-- and each later one.
pub record IsCharacter (text : List ℕ) (i n : ℕ) : Type 0 where
  pub others : Run Continuations text (i + 1) n
  pub stop : in_set Continuations (byte text n) ≡ false

-- `IsFault text i at code` is: the error at offset `i`, where no piece begins, has the span `at`
-- and the code `code`.
pub data IsFault (text : List ℕ) (i : ℕ) (at : Span) (code : Code) : Type 0 where
  of_comment : opens text i ≡ true → at ≡ span i (i + 2) → code ≡ UnclosedComment → IsFault text i at code
  of_text : is_quote (byte text i) ≡ true → TextFault text (byte text i) i at code (i + 1) → IsFault text i at code
  of_other : opens text i ≡ false → is_quote (byte text i) ≡ false → (n : ℕ) → IsCharacter text i n → at ≡ span i n → code ≡ OtherCharacter → IsFault text i at code

-- `Lexes i text tokens fault` is: from offset `i` on, `text` is `tokens` and separators, each the
-- longest piece at its offset, up to the end of `text` (`fault` is `None`) or up to its first error
-- (`fault` has its span and code).
pub data Lexes : ℕ → List ℕ → List Token → Option (Span × Code) → Type 0 where
  ends : {i : ℕ} {text : List ℕ} → i ≡ length text → Lexes i text [] None
  passes : {i n : ℕ} {text : List ℕ} {ts : List Token} {f : Option (Span × Code)} → IsLongest text Separator i n → Lexes n text ts f → Lexes i text ts f
  takes : {i n : ℕ} {k : Kind} {text : List ℕ} {ts : List Token} {f : Option (Span × Code)} → IsLongest text (Lexeme k) i n → runs_on k text n ≡ false → Lexes n text ts f → Lexes i text (record { kind = k; span = span i n } ∷ ts) f
  overruns : {i n : ℕ} {k : Kind} {text : List ℕ} → IsLongest text (Lexeme k) i n → runs_on k text n ≡ true → Lexes i text [] (Some (span i n, NumberRunsOn))
  stops : {i : ℕ} {text : List ℕ} {at : Span} {code : Code} → i < length text → HasNone text i → IsFault text i at code → Lexes i text [] (Some (at, code))
