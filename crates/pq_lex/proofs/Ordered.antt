-- The tokens of a text lie in it, in order, and its error lies after each of them.
use Rattle.std.proofs.Common.{◌≡◌, ℕ, ◌+◌, ◌<◌, ◌≤◌, ◌==◌, List, [], ◌∷◌, length, Option, Some, None, sym, subst, arith}
use Rattle.std.proofs.lemmas.Bool.{eqb-true, and_parts}
use Rattle.pq_lex.specs.declared.token.Span.{Span}
use Rattle.pq_lex.specs.declared.token.Code.{Code}
use Rattle.pq_lex.specs.declared.token.Token.{Token}
use Rattle.pq_lex.specs.Ascii.{asterisk, solidus, backslash}
use Rattle.pq_lex.specs.Classes.{byte}
use Rattle.pq_lex.specs.Order.{InOrder}
use Rattle.pq_lex.specs.Tokens.{Separator, Lexeme, span, TextFault, opened_only, bad, plain_first, escaped_first, IsFault, of_comment, of_text, of_other, Lexes, ends, passes, takes, overruns, stops}
use Rattle.pq_lex.proofs.EscapeLemmas.{escape_further}
use Rattle.pq_lex.proofs.NumberEnds.{inside_at}
use Rattle.pq_lex.proofs.Pieces.{within}

-- order from a later offset on is order from an earlier one on
earlier : (i n end : ℕ) (ts : List Token) → i ≤ n → InOrder n end ts → InOrder i end ts
earlier i n end [] le o = omega (arith, le, o)
earlier i n end (t ∷ ts) le o = (omega (arith, le, o.0), o.1, o.2)

-- a span of at least one byte that starts at `i` or later and lies in the text
record LiesFrom (text : List ℕ) (i : ℕ) (at : Span) : Type 0 where
  after : i ≤ at.start
  some : at.start < at.end
  inside : at.end ≤ length text

lies_at : (text : List ℕ) (i s e : ℕ) (at : Span) → at ≡ span s e → i ≤ s → s < e → e ≤ length text → LiesFrom text i at
lies_at text i s e at is after some inside = subst (LiesFrom text i) (sym is) (record { after = after; some = some; inside = inside })

module _ (text : List ℕ) (quote start : ℕ) (here : start < length text) (at : Span) (code : Code) where
  text_error : (i : ℕ) → start ≤ i → TextFault text quote start at code i → LiesFrom text start at
  text_error i le (opened_only stop is c) = lies_at text start start (start + 1) at is (omega arith) (omega arith) (omega (arith, here))
  text_error i le (bad slash none is c) = lies_at text start i (i + 1) at is le (omega arith) (omega (arith, inside_at text i backslash slash (omega arith)))
  text_error i le (plain_first plain rest) = text_error (i + 1) (omega (arith, le)) rest
  text_error i le (escaped_first slash e escape rest) = text_error e.end (omega (arith, le, escape_further text i e escape)) rest

error_lies : (text : List ℕ) (i : ℕ) (at : Span) (code : Code) → i < length text → IsFault text i at code → LiesFrom text i at
error_lies text i at code here (of_comment opened is c) =
    let star = eqb-true (byte text (i + 1)) asterisk (and_parts (byte text i == solidus) (byte text (i + 1) == asterisk) opened).1 in
    lies_at text i i (i + 2) at is (omega arith) (omega arith) (omega (arith, inside_at text (i + 1) asterisk star (omega arith)))
error_lies text i at code here (of_text quoted fault) = text_error text (byte text i) i here at code (i + 1) (omega arith) fault
error_lies text i at code here (of_other unopened quoted n whole is c) =
    lies_at text i i n at is (omega arith) (omega (arith, whole.others.ordered)) whole.others.within

pub tokens_in_order : (i : ℕ) (text : List ℕ) (ts : List Token) (f : Option (Span × Code)) → Lexes i text ts f → InOrder i (length text) ts
tokens_in_order i text ts f (ends e) = omega (arith, e)
tokens_in_order i text ts f (passes {n = n} l r) =
    let w = within text i Separator n l.spells in
    earlier i n (length text) ts (omega (arith, w.0)) (tokens_in_order n text ts f r)
tokens_in_order i text ts f (takes {n = n} {k = k} {ts = rest} l o r) =
    let w = within text i (Lexeme k) n l.spells in
    (omega arith, w.0, tokens_in_order n text rest f r)
tokens_in_order i text ts f (overruns {n = n} {k = k} l o) = let w = within text i (Lexeme k) n l.spells in omega (arith, w.0, w.1)
tokens_in_order i text ts f (stops here none fault) = omega (arith, here)

-- the tokens lie before the error, which lies in the text
abbrev EndsBefore : ℕ → List ℕ → List Token → Option (Span × Code) → Type 0
EndsBefore i text ts None = Unit {0}
EndsBefore i text ts (Some f) = InOrder i f.0.start ts × (f.0.start < f.0.end) × (f.0.end ≤ length text)

before_error : (i : ℕ) (text : List ℕ) (ts : List Token) (f : Option (Span × Code)) → Lexes i text ts f → EndsBefore i text ts f
before_error i text ts f (ends e) = tt
before_error i text ts None (passes {n = n} l r) = tt
before_error i text ts (Some f) (passes {n = n} l r) =
    let w = within text i Separator n l.spells in
    let o = before_error n text ts (Some f) r in
    (earlier i n f.0.start ts (omega (arith, w.0)) o.0, o.1, o.2)
before_error i text ts None (takes {n = n} {k = k} {ts = rest} l o r) = tt
before_error i text ts (Some f) (takes {n = n} {k = k} {ts = rest} l o r) =
    let w = within text i (Lexeme k) n l.spells in
    let b = before_error n text rest (Some f) r in
    ((omega arith, w.0, b.0), b.1, b.2)
before_error i text ts f (overruns {n = n} {k = k} l o) = let w = within text i (Lexeme k) n l.spells in (omega arith, w.0, w.1)
before_error i text ts f (stops {at = at} {code = code} here none fault) = let l = error_lies text i at code here fault in (l.after, l.some, l.inside)

pub error_in_order : (text : List ℕ) (ts : List Token) (at : Span) (code : Code) → Lexes 0 text ts (Some (at, code)) → InOrder 0 at.start ts × (at.start < at.end) × (at.end ≤ length text)
error_in_order text ts at code l = before_error 0 text ts (Some (at, code)) l
