-- The header part of a frame: its lines, each ended by CR LF, and the length of the body that they
-- give (LSP 3.17, "Base Protocol", "Header Part"). Names ignore ASCII case. Other headers and lines
-- without a colon are ignored.
use Rattle.std.specs.Prelude.{◌≡◌, ℕ, ◌<◌, ◌≤◌, ◌+◌, ◌⊎◌, ◌++◌, ◌&&◌, ◌||◌, ◌==◌, List, [], ◌∷◌, length, take, drop, reverse, map, codes, Bool, nat_lt, nat_le, if◌then◌else◌, Option, Some, None, option_and_then, Result, Ok, Err}
use Rattle.std.specs.Char.{to_ascii_lowercase, is_ascii_digit}
use Rattle.std.specs.List.{position, list_all, filter_map}
use Rattle.std.specs.Str.{bytes_eq}
use Rattle.std.specs.Str.Parse.{digits_value}
use Rattle.pq_frame.specs.declared.fault.FrameFault.{FrameFault}
use Rattle.pq_frame.specs.declared.fault.FrameFault.TheVariants.{NoLength, BadLength, TooLong}

-- The bytes of ASCII that the header part gives a meaning.
abbrev pub tab : ℕ
tab = 9

abbrev pub line_feed : ℕ
line_feed = 10

abbrev pub carriage_return : ℕ
carriage_return = 13

abbrev pub space : ℕ
space = 32

abbrev pub colon : ℕ
colon = 58

-- `crlf` is the end of a line. CR alone and LF alone end no line.
abbrev pub crlf : List ℕ
crlf = carriage_return ∷ line_feed ∷ []

-- `EndsHeader bytes` is that the last line of `bytes` is empty: `bytes` are an empty line, or lines
-- and an empty line.
abbrev pub EndsHeader : List ℕ → Type 0
EndsHeader bytes = (bytes ≡ crlf) ⊎ ((lines : List ℕ) × (bytes ≡ lines ++ (crlf ++ crlf)))

-- `NoHeaderBelow bytes end` is that no prefix of `bytes` shorter than `end` has an empty last line.
abbrev pub NoHeaderBelow : List ℕ → ℕ → Type 0
NoHeaderBelow bytes end = (k : ℕ) → k < end → EndsHeader (take k bytes) → ⊥

-- `max_header` is the length in bytes of the longest header part, with its empty line.
abbrev pub max_header : ℕ
max_header = 4096

-- `IsHeader header` is that `header` is a header part: it ends in an empty line, none of its proper
-- prefixes does, and it has at most `max_header` bytes.
pub record IsHeader (header : List ℕ) : Type 0 where
  pub ends : EndsHeader header
  pub shortest : NoHeaderBelow header (length header)
  pub fits : length header ≤ max_header

-- `lines_after line bytes` is the ended lines of `line ++ bytes`, without their CR LF, where `line`
-- holds no CR LF.
abbrev pub lines_after : List ℕ → List ℕ → List (List ℕ)
lines_after line [] = []
lines_after line (x ∷ []) = []
lines_after line (x ∷ y ∷ rest) = if bytes_eq crlf (x ∷ y ∷ []) then line ∷ lines_after [] rest else lines_after (line ++ x ∷ []) (y ∷ rest)

-- `header_lines header` is the lines of `header`, without their CR LF.
abbrev pub header_lines : List ℕ → List (List ℕ)
header_lines header = lines_after [] header

-- `is_blank x` is whether the byte `x` is a space or a tab.
abbrev pub is_blank : ℕ → Bool
is_blank x = x == space || x == tab

-- `without_leading_blanks xs` is `xs` from its first byte that is not blank.
abbrev pub without_leading_blanks : List ℕ → List ℕ
without_leading_blanks [] = []
without_leading_blanks (x ∷ xs) = if is_blank x then without_leading_blanks xs else x ∷ xs

-- `trimmed xs` is `xs` without the blanks at both ends.
abbrev pub trimmed : List ℕ → List ℕ
trimmed xs = reverse (without_leading_blanks (reverse (without_leading_blanks xs)))

-- `is_colon x` is whether the byte `x` is a colon.
abbrev pub is_colon : ℕ → Bool
is_colon x = x == colon

-- `is_length_name name` is whether `name` is Content-Length, in letters of either case.
abbrev pub is_length_name : List ℕ → Bool
is_length_name name = bytes_eq (map to_ascii_lowercase name) (codes "content-length")

-- `length_text line` is the value of `line` if its name is Content-Length. Name and value are
-- before and after the first colon, without the blanks round them.
unfoldable pub length_text : List ℕ → Option (List ℕ)
length_text line =
    option_and_then (λ at. if is_length_name (trimmed (take at line)) then Some (trimmed (drop (at + 1) line)) else None) (position is_colon line)

-- `max_body` is the length in bytes of the longest body.
abbrev pub max_body : ℕ
max_body = 16777216

-- `number_of digits` is the number that `digits` write in decimal, or the error of the value
-- `digits`.
abbrev pub number_of : List ℕ → Result ℕ FrameFault
number_of digits =
    if nat_lt 0 (length digits) && list_all is_ascii_digit digits
    then (if nat_le (digits_value 10 digits) max_body then Ok (digits_value 10 digits) else Err TooLong)
    else Err BadLength

-- `only_number texts` is the number of the only one of `texts`. It is an error if there is none, or
-- more than one.
abbrev pub only_number : List (List ℕ) → Result ℕ FrameFault
only_number [] = Err NoLength
only_number (text ∷ []) = number_of text
only_number (text ∷ other ∷ texts) = Err BadLength

-- `body_length header` is the length of the body that `header` gives, or the error of `header`.
unfoldable pub body_length : List ℕ → Result ℕ FrameFault
body_length header = only_number (filter_map length_text (header_lines header))
