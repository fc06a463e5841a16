-- The escapes in a string: where the escape at a backslash ends, and the bytes that it means.
-- (proto3 language specification, "String literals"; RFC 3629 for UTF-8, RFC 2781 for pairs of
-- surrogates.)
use Rattle.std.specs.Prelude.{ℕ, ◌+◌, ◌-◌, ◌*◌, ◌^◌, Bool, ◌==◌, ◌&&◌, ◌||◌, not, cond, List, [], ◌∷◌, take, drop, nat_lt, nat_le, min, Option, Some, None}
use Rattle.std.specs.Str.Parse.{digits_value}
use Rattle.std.specs.Char.{encode_utf8}
use Rattle.pq_lex.specs.declared.bytes.Set.{Set}
use Rattle.pq_lex.specs.declared.bytes.Set.TheVariants.{Octals, Hexes}
use Rattle.pq_lex.specs.declared.escapes.Meaning.{Meaning}
use Rattle.pq_lex.specs.declared.escapes.Meaning.TheVariants.{Byte, Scalar}
use Rattle.pq_lex.specs.declared.escapes.Escape.{Escape}
use Rattle.pq_lex.specs.Ascii.{bell, backspace, tab, line_feed, vertical_tab, form_feed, carriage_return, double_quote, single_quote, upper_u, upper_x, backslash, lower_a, lower_b, lower_f, lower_n, lower_r, lower_t, lower_u, lower_v, lower_x}
use Rattle.pq_lex.specs.Classes.{byte, is_between, in_set}
use Rattle.pq_lex.specs.Runs.{run_end}

-- `is_high c` is whether the code unit `c` is a high surrogate.
abbrev pub is_high : ℕ → Bool
is_high c = is_between 0xD800 0xDBFF c

-- `is_low c` is whether the code unit `c` is a low surrogate.
abbrev pub is_low : ℕ → Bool
is_low c = is_between 0xDC00 0xDFFF c

-- `is_scalar c` is whether `c` is a Unicode scalar value: at most 10FFFF, and not a surrogate.
abbrev pub is_scalar : ℕ → Bool
is_scalar c = nat_le c 0x10FFFF && not (is_between 0xD800 0xDFFF c)

-- `meaning_bytes meaning` is the bytes that `meaning` adds to a string: its byte, or the UTF-8 of
-- its scalar value. No escape means a number that is not a scalar value: it would add nothing.
abbrev pub meaning_bytes : Meaning → List ℕ
meaning_bytes (Byte b) = b ∷ []
meaning_bytes (Scalar c) = cond (is_scalar c) (encode_utf8 c) []

-- `digits_end set most text i` is the end of the digits of `set` from offset `i` on, of which at
-- most `most` count.
unfoldable pub digits_end : Set → ℕ → List ℕ → ℕ → ℕ
digits_end set most text i = min (i + most) (run_end set text i)

-- `number radix text i n` is the number that the digits from offset `i` to `n` write in base
-- `radix`.
unfoldable pub number : ℕ → List ℕ → ℕ → ℕ → ℕ
number radix text i n = digits_value radix (take (n - i) (drop i text))

-- `escape_to n meaning` is the escape that ends at offset `n` and means `meaning`.
abbrev pub escape_to : ℕ → Meaning → Escape
escape_to n meaning = record { end = n; meaning = meaning }

-- `byte_escape radix text i n` is the escape whose digits go from offset `i` to `n`: at least one,
-- with a value of one byte.
abbrev pub byte_escape : ℕ → List ℕ → ℕ → ℕ → Option Escape
byte_escape radix text i n = cond (nat_lt i n && nat_le (number radix text i n) 255) (Some (escape_to n (Byte (number radix text i n)))) None

-- `in_64_bits n` is `n`, or `None` if 64 bits do not hold it.
abbrev pub in_64_bits : ℕ → Option ℕ
in_64_bits n = cond (nat_lt n (2 ^ 64)) (Some n) None

-- `hex_digits count text i` is the number that the `count` hexadecimal digits at offset `i` write,
-- or `None` if there are fewer. `count` is 4 or 8, so 64 bits hold the number.
abbrev pub hex_digits : ℕ → List ℕ → ℕ → Option ℕ
hex_digits count text i = cond (digits_end Hexes count text i == i + count) (in_64_bits (number 16 text i (i + count))) None

-- `paired high low` is the scalar value that the surrogates `high` and `low` encode.
abbrev pub paired : ℕ → ℕ → ℕ
paired high low = 0x10000 + (high - 0xD800) * 1024 + (low - 0xDC00)

-- `unit_at text i` is the code unit that `\u` and four hexadecimal digits at offset `i` write.
abbrev pub unit_at : List ℕ → ℕ → Option ℕ
unit_at text i = cond (byte text i == backslash && byte text (i + 1) == lower_u) (hex_digits 4 text (i + 2)) None

-- `pair_escape n high low` is the escape of the high surrogate `high`, which ends at offset `n`,
-- and of `low`, the code unit after it.
abbrev pub pair_escape : ℕ → ℕ → Option ℕ → Option Escape
pair_escape n high (Some low) = cond (is_low low) (Some (escape_to (n + 6) (Scalar (paired high low)))) None
pair_escape n high None = None

-- `scalar_escape n c` is the escape that ends at offset `n` and means `c`, if `c` is a scalar
-- value.
abbrev pub scalar_escape : ℕ → ℕ → Option Escape
scalar_escape n c = cond (is_scalar c) (Some (escape_to n (Scalar c))) None

-- `short_escape text n unit` is the escape of a `\u` that ends at offset `n` with the code unit
-- `unit`. A high surrogate needs its low one directly after it.
abbrev pub short_escape : List ℕ → ℕ → Option ℕ → Option Escape
short_escape text n (Some c) = cond (is_high c) (pair_escape n c (unit_at text n)) (scalar_escape n c)
short_escape text n None = None

-- `long_escape n c` is the escape of a `\U` that ends at offset `n` with the number `c`.
abbrev pub long_escape : ℕ → Option ℕ → Option Escape
long_escape n (Some c) = scalar_escape n c
long_escape n None = None

-- `named b` is the byte that a backslash and the letter `b` mean: \a \b \f \n \r \t \v \\ \' or \".
abbrev pub named : ℕ → Option ℕ
named b =
    cond (b == lower_a) (Some bell)
    (cond (b == lower_b) (Some backspace)
    (cond (b == lower_f) (Some form_feed)
    (cond (b == lower_n) (Some line_feed)
    (cond (b == lower_r) (Some carriage_return)
    (cond (b == lower_t) (Some tab)
    (cond (b == lower_v) (Some vertical_tab)
    (cond (b == backslash || (b == single_quote || b == double_quote)) (Some b) None)))))))

-- `named_escape n b` is the escape that ends at offset `n` and means the byte `b`.
abbrev pub named_escape : ℕ → Option ℕ → Option Escape
named_escape n (Some b) = Some (escape_to n (Byte b))
named_escape n None = None

-- `escape_at text i` is the escape whose backslash is at offset `i`: `None` if the bytes after it
-- write no escape.
unfoldable pub escape_at : List ℕ → ℕ → Option Escape
escape_at text i =
    cond (in_set Octals (byte text (i + 1))) (byte_escape 8 text (i + 1) (digits_end Octals 3 text (i + 1)))
    (cond (byte text (i + 1) == lower_x || byte text (i + 1) == upper_x) (byte_escape 16 text (i + 2) (digits_end Hexes 2 text (i + 2)))
    (cond (byte text (i + 1) == lower_u) (short_escape text (i + 6) (unit_at text i))
    (cond (byte text (i + 1) == upper_u) (long_escape (i + 10) (hex_digits 8 text (i + 2)))
    (named_escape (i + 2) (named (byte text (i + 1)))))))
