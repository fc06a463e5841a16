-- The values of tokens: the number that an integer writes, and the bytes that a string means.
-- (proto3 language specification, "Integer literals", "String literals".)
use Rattle.std.specs.Prelude.{ℕ, zero, suc, ◌==◌, ◌&&◌, cond, List, [], ◌∷◌, ◌++◌, length, slice_range, nat_le, Option, Some, None}
use Rattle.pq_lex.specs.declared.token.Span.{Span}
use Rattle.pq_lex.specs.Ascii.{digit_0, backslash}
use Rattle.pq_lex.specs.Classes.{byte}
use Rattle.pq_lex.specs.Escapes.{number, in_64_bits, escape_at, meaning_bytes}
use Rattle.pq_lex.specs.Tokens.{is_x, is_plain}

-- `spelling text s` is the bytes of `text` in the span `s`: empty if `s` does not lie in `text`.
abbrev pub spelling : List ℕ → Span → List ℕ
spelling text s = cond (nat_le s.start s.end && nat_le s.end (length text)) (slice_range text s.start s.end) []

-- `integer_value_of s` is the value of an integer that is spelled `s`: hexadecimal after 0x, octal
-- after 0, else decimal. It is `None` if 64 bits do not hold the value.
unfoldable pub integer_value_of : List ℕ → Option ℕ
integer_value_of s =
    in_64_bits
    (cond (byte s 0 == digit_0)
    (cond (is_x (byte s 1)) (number 16 s 2 (length s)) (number 8 s 1 (length s)))
    (number 10 s 0 (length s)))

-- `value_from fuel s i` is the bytes that the string spelled `s` means from offset `i` to its
-- closing quote. `fuel` bounds the pieces that are read: plain bytes, and escapes.
unfoldable pub value_from : ℕ → List ℕ → ℕ → List ℕ
value_from zero s i = []
value_from (suc fuel) s i =
    cond (byte s i == backslash)
    (elim (escape_at s i) [ Some e ↦ meaning_bytes e.meaning ++ value_from fuel s e.end | None ↦ [] ])
    (cond (is_plain (byte s 0) (byte s i)) (byte s i ∷ value_from fuel s (suc i)) [])

-- `text_value_of s` is the bytes that the string spelled `s` means: a plain byte itself, an escape
-- its meaning.
unfoldable pub text_value_of : List ℕ → List ℕ
text_value_of s = value_from (length s) s 1
