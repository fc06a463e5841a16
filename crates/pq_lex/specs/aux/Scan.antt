-- Auxiliary: the pieces of a text as functions, in the shape of the code (used by proofs and
-- invariants only). The relations of `Tokens` are the meaning: `lex` says that its tokens are a
-- lexing by `Lexes`.
use Rattle.std.specs.Prelude.{ℕ, zero, suc, ◌+◌, ◌-◌, Bool, ◌==◌, ◌&&◌, cond, List, length, nat_lt, Option, Some, None}
use Rattle.pq_lex.specs.declared.bytes.Class.{Class}
use Rattle.pq_lex.specs.declared.bytes.Class.TheVariants.{Letter, Digit, Space, Quote, Point, Slash, Mark, Other}
use Rattle.pq_lex.specs.declared.bytes.Set.TheVariants.{Spaces, Words, Digits, Octals, Hexes, Lines, Continuations}
use Rattle.pq_lex.specs.declared.token.Kind.{Kind}
use Rattle.pq_lex.specs.declared.token.Kind.TheVariants.{Identifier, Integer, Float, Text, Symbol}
use Rattle.pq_lex.specs.declared.token.Code.TheVariants.{UnclosedComment, UnclosedString, BadEscape, NumberRunsOn, OtherCharacter}
use Rattle.pq_lex.specs.declared.token.Step.{Step}
use Rattle.pq_lex.specs.declared.token.Step.TheVariants.{Pass, Take, Stop}
use Rattle.pq_lex.specs.Ascii.{asterisk, full_stop, solidus, digit_0, backslash}
use Rattle.pq_lex.specs.Classes.{byte, at}
use Rattle.pq_lex.specs.Escapes.{escape_at}
use Rattle.pq_lex.specs.Runs.{first, run_end}
use Rattle.pq_lex.specs.Tokens.{span, closes, is_x, is_e, exponent_digits, is_plain, runs_on}

-- `integer_end text i` is the end of the integer whose first digit is at offset `i`.
unfoldable pub integer_end : List ℕ → ℕ → ℕ
integer_end text i =
    cond (byte text i == digit_0)
    (cond (is_x (byte text (i + 1)) && nat_lt (i + 2) (run_end Hexes text (i + 2))) (run_end Hexes text (i + 2)) (run_end Octals text (i + 1)))
    (run_end Digits text (i + 1))

-- `raised_to i digits n` is the end of an exponent at offset `i` with digits from `digits` to `n`:
-- `i` if it has none.
abbrev pub raised_to : ℕ → ℕ → ℕ → ℕ
raised_to i digits n = cond (nat_lt digits n) n i

-- `exponent_end text i` is the end of the exponent at offset `i`, or `i` if there is none.
unfoldable pub exponent_end : List ℕ → ℕ → ℕ
exponent_end text i = cond (is_e (byte text i)) (raised_to i (exponent_digits text i) (run_end Digits text (exponent_digits text i))) i

-- `pointed_end text i q` is the end of the float at offset `i` whose digits after the point end at
-- `q`.
abbrev pub pointed_end : List ℕ → ℕ → ℕ → Option ℕ
pointed_end text i q = cond (nat_lt (i + 1) q) (Some (exponent_end text q)) None

-- `float_end_at text i p` is the end of the float at offset `i` whose first digits end at `p`.
abbrev pub float_end_at : List ℕ → ℕ → ℕ → Option ℕ
float_end_at text i p =
    cond (byte text p == full_stop) (pointed_end text i (run_end Digits text (p + 1)))
    (cond (nat_lt i p && nat_lt p (exponent_end text p)) (Some (exponent_end text p)) None)

-- `float_end text i` is the end of the float at offset `i`, or `None` if there is none.
unfoldable pub float_end : List ℕ → ℕ → Option ℕ
float_end text i = float_end_at text i (run_end Digits text i)

-- `close_at text i` is the offset of the first `*/` from offset `i` on, or the end of `text`.
unfoldable pub close_at : List ℕ → ℕ → ℕ
close_at text i = first (λ k. closes text k) (length text - i) i

-- `text_step fuel quote start text i` is the rest, from offset `i` on, of the string that opens at
-- `start` with `quote`.
unfoldable pub text_step : ℕ → ℕ → ℕ → List ℕ → ℕ → Step
text_step zero quote start text i = Stop (span start (start + 1)) UnclosedString
text_step (suc fuel) quote start text i =
    cond (byte text i == quote) (Take Text (i + 1))
    (cond (byte text i == backslash)
    (elim (escape_at text i) [ Some e ↦ text_step fuel quote start text e.end | None ↦ Stop (span i (i + 1)) BadEscape ])
    (cond (is_plain quote (byte text i)) (text_step fuel quote start text (suc i)) (Stop (span start (start + 1)) UnclosedString)))

-- `number_step k text i n` is the number of kind `k` from offset `i` to `n`, or an error if it runs
-- on.
abbrev pub number_step : Kind → List ℕ → ℕ → ℕ → Step
number_step k text i n = cond (runs_on k text n) (Stop (span i n) NumberRunsOn) (Take k n)

-- `digit_step text i float` is the number at the digit at offset `i`, where `float` is the end of
-- the float there.
abbrev pub digit_step : List ℕ → ℕ → Option ℕ → Step
digit_step text i (Some n) = number_step Float text i n
digit_step text i None = number_step Integer text i (integer_end text i)

-- `point_step text i float` is the float or the symbol at the point at offset `i`, where `float` is
-- the float's end.
abbrev pub point_step : List ℕ → ℕ → Option ℕ → Step
point_step text i (Some n) = number_step Float text i n
point_step text i None = Take Symbol (i + 1)

-- `comment_step text i k` is the comment that opens with `/*` at offset `i`, where the first `*/`
-- is at `k`.
abbrev pub comment_step : List ℕ → ℕ → ℕ → Step
comment_step text i k = cond (nat_lt k (length text)) (Pass (k + 2)) (Stop (span i (i + 2)) UnclosedComment)

-- `slash_step text i` is the comment or the symbol at the slash at offset `i`.
abbrev pub slash_step : List ℕ → ℕ → Step
slash_step text i =
    cond (byte text (i + 1) == solidus) (Pass (run_end Lines text (i + 2)))
    (cond (byte text (i + 1) == asterisk) (comment_step text i (close_at text (i + 2))) (Take Symbol (i + 1)))

-- `is_order_mark text i` is whether offset `i` is the start of `text` and has U+FEFF, the byte
-- order mark.
abbrev pub is_order_mark : List ℕ → ℕ → Bool
is_order_mark text i = i == 0 && (byte text 0 == 0xEF && (byte text 1 == 0xBB && byte text 2 == 0xBF))

-- `other_step text i` is the byte order mark at offset `i`, or the character there as an error.
abbrev pub other_step : List ℕ → ℕ → Step
other_step text i = cond (is_order_mark text i) (Pass 3) (Stop (span i (run_end Continuations text (i + 1))) OtherCharacter)

-- `step_of text i class` is the piece or the error at offset `i`, whose byte is of `class`.
abbrev pub step_of : List ℕ → ℕ → Class → Step
step_of text i Letter = Take Identifier (run_end Words text (i + 1))
step_of text i Digit = digit_step text i (float_end text i)
step_of text i Space = Pass (run_end Spaces text (i + 1))
step_of text i Quote = text_step (length text) (byte text i) i text (i + 1)
step_of text i Point = point_step text i (float_end text i)
step_of text i Slash = slash_step text i
step_of text i Mark = Take Symbol (i + 1)
step_of text i Other = other_step text i

-- `step_at text i` is the piece or the error at offset `i`.
unfoldable pub step_at : List ℕ → ℕ → Step
step_at text i = step_of text i (at text i)
