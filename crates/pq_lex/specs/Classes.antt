-- The classes of bytes: what a byte may begin, and the sets of bytes that may follow one another.
-- (proto3 language specification, "Letters and digits"; RFC 3629 for the bytes of a character.)
use Rattle.std.specs.Prelude.{ℕ, Bool, not, ◌==◌, ◌&&◌, ◌||◌, cond, List, slice_index, nat_le}
use Rattle.pq_lex.specs.declared.bytes.Class.{Class}
use Rattle.pq_lex.specs.declared.bytes.Class.TheVariants.{Letter, Digit, Space, Quote, Point, Slash, Mark, Other}
use Rattle.pq_lex.specs.declared.bytes.Set.{Set}
use Rattle.pq_lex.specs.declared.bytes.Set.TheVariants.{Spaces, Words, Digits, Octals, Hexes, Lines, Continuations}
use Rattle.pq_lex.specs.Ascii.{tab, line_feed, carriage_return, blank, double_quote, single_quote, open_parenthesis, close_parenthesis, plus_sign, minus_sign, full_stop, solidus, digit_0, digit_7, digit_9, colon, greater_than, upper_a, upper_f, upper_z, open_bracket, close_bracket, underscore, lower_a, lower_f, lower_z, open_brace, close_brace}

-- `is_between low high b` is whether `b` is at least `low` and at most `high`.
abbrev pub is_between : ℕ → ℕ → ℕ → Bool
is_between low high b = nat_le low b && nat_le b high

-- `is_letter b` is whether the byte `b` is an ASCII letter or `_`.
abbrev pub is_letter : ℕ → Bool
is_letter b = is_between lower_a lower_z b || (is_between upper_a upper_z b || b == underscore)

-- `is_digit b` is whether the byte `b` is an ASCII digit.
abbrev pub is_digit : ℕ → Bool
is_digit b = is_between digit_0 digit_9 b

-- `is_space b` is whether the byte `b` is a space, or one of tab, LF, VT, FF and CR, whose codes
-- follow one another.
abbrev pub is_space : ℕ → Bool
is_space b = b == blank || is_between tab carriage_return b

-- `is_quote b` is whether the byte `b` is `"` or `'`.
abbrev pub is_quote : ℕ → Bool
is_quote b = b == double_quote || b == single_quote

-- `is_mark b` is whether the byte `b` is a symbol other than `.` and `/`, which may begin more:
-- : ; < = > ( ) + , - [ ] { or }.
abbrev pub is_mark : ℕ → Bool
is_mark b =
    is_between colon greater_than b
    || (is_between open_parenthesis close_parenthesis b
    || (is_between plus_sign minus_sign b
    || (b == open_bracket || (b == close_bracket || (b == open_brace || b == close_brace)))))

-- `is_continuation b` is whether the byte `b` is a later byte of a character in UTF-8.
abbrev pub is_continuation : ℕ → Bool
is_continuation b = is_between 0x80 0xBF b

-- `class_of b` is the class of the byte `b`.
abbrev pub class_of : ℕ → Class
class_of b =
    cond (is_letter b) Letter
    (cond (is_digit b) Digit
    (cond (is_space b) Space
    (cond (is_quote b) Quote
    (cond (b == full_stop) Point
    (cond (b == solidus) Slash
    (cond (is_mark b) Mark Other))))))

-- `in_set set b` is whether the byte `b` is in the set `set`.
abbrev pub in_set : Set → ℕ → Bool
in_set Spaces b = is_space b
in_set Words b = is_letter b || is_digit b
in_set Digits b = is_digit b
in_set Octals b = is_between digit_0 digit_7 b
in_set Hexes b = is_digit b || (is_between lower_a lower_f b || is_between upper_a upper_f b)
in_set Lines b = not (b == line_feed)
in_set Continuations b = is_continuation b

-- `byte text i` is the byte of `text` at offset `i`, or 0 at the end of `text` and after it.
abbrev pub byte : List ℕ → ℕ → ℕ
byte text i = slice_index text i

-- `at text i` is the class of the byte of `text` at offset `i`.
abbrev pub at : List ℕ → ℕ → Class
at text i = class_of (byte text i)
