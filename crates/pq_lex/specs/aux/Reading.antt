-- Auxiliary: the lexing of a text as a total function (used by proofs, invariants and equality).
-- The relation `Lexes` of `Tokens` is the meaning: it holds of `tokens_of` (`each_text`), and of
-- nothing else (`one_lexing`).
use Rattle.std.specs.Prelude.{ℕ, zero, suc, ◌≤◌, List, [], ◌∷◌, ◌++◌, length, nat_lt, cond, Option, Some, None}
use Rattle.pq_lex.specs.declared.token.Lexed.{Lexed}
use Rattle.pq_lex.specs.declared.token.Span.{Span}
use Rattle.pq_lex.specs.declared.token.Code.{Code}
use Rattle.pq_lex.specs.declared.token.Token.{Token}
use Rattle.pq_lex.specs.declared.token.Step.TheVariants.{Pass, Take, Stop}
use Rattle.pq_lex.specs.aux.Scan.{step_at}
use Rattle.pq_lex.specs.Tokens.{span, Lexes}

-- A `Reading` of a text is its tokens up to its end or its first error, and that error.
pub record Reading : Type 0 where
  pub tokens : List Token
  pub fault : Option (Span × Code)

-- `reading_of l` is the result `l` of `lex` as a reading.
abbrev pub reading_of : Lexed → Reading
reading_of l = record { tokens = l.tokens.items; fault = l.fault }

-- `with_token t r` is the reading `r` with the token `t` before its tokens.
abbrev pub with_token : Token → Reading → Reading
with_token t r = record { tokens = t ∷ r.tokens; fault = r.fault }

-- `reading_from fuel text i` is the reading of `text` from offset `i` on, of at most `fuel` pieces.
unfoldable pub reading_from : ℕ → List ℕ → ℕ → Reading
reading_from zero text i = record { tokens = []; fault = None }
reading_from (suc fuel) text i =
    cond (nat_lt i (length text))
    (elim (step_at text i) [
      | Pass n ↦ reading_from fuel text n
      | Take k n ↦ with_token (record { kind = k; span = span i n }) (reading_from fuel text n)
      | Stop at code ↦ record { tokens = []; fault = Some (at, code) }
    ])
    (record { tokens = []; fault = None })

-- `tokens_of text` is the reading of `text`.
unfoldable pub tokens_of : List ℕ → Reading
tokens_of text = reading_from (length text) text 0

-- `Sofar text i tokens` is the invariant of `lex`: a lexing from offset `i` on, after `tokens`, is
-- one from the start.
pub record Sofar (text : List ℕ) (i : ℕ) (tokens : List Token) : Type 0 where
  pub within : i ≤ length text
  pub goes : (ts : List Token) (f : Option (Span × Code)) → Lexes i text ts f → Lexes 0 text (tokens ++ ts) f
