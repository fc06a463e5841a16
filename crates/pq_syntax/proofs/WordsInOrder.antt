-- Words in order between two offsets, and the spans of parses that yield them.
use Rattle.std.proofs.Common.{ℕ, ◌≤◌, List, [], ◌∷◌, ◌++◌, false, ◌≡◌, arith}
use Rattle.pq_lex.specs.declared.token.Span.{Span}
use Rattle.pq_lex.specs.declared.token.Token.{Token}
use Rattle.pq_lex.specs.Order.{InOrder}
use Rattle.pq_syntax.specs.Rule.{Rule, Parse}
use Rattle.pq_syntax.specs.Rule.Parse.{Pair, Left, Right}
use Rattle.pq_syntax.specs.Yield.{yield_of}
use Rattle.pq_syntax.specs.aux.Machine.{nullable}
use Rattle.pq_syntax.specs.Parts.{end_of, span_across, span_of}
use Rattle.pq_syntax.specs.Spans.{Within}
use Rattle.pq_syntax.specs.Words.{Word, words}
use Rattle.pq_syntax.specs.declared.terminal.Terminal.{Terminal}
use Rattle.pq_syntax.proofs.ParseShape.{HasShape, HasWord, has_word}

-- `Between a b ws` is: `ws` follow one another without overlap, from offset `a` or later up to `b` or earlier.
abbrev pub Between : ℕ → ℕ → List Word → Type 0
Between a b [] = a ≤ b
Between a b (w ∷ ws) = (a ≤ w.span.start) × (w.span.start ≤ w.span.end) × Between w.span.end b ws

pub between_words : (text : List ℕ) (ts : List Token) (a b : ℕ) → InOrder a b ts → Between a b (words text ts)
between_words text [] a b h = h
between_words text (t ∷ ts) a b h = (h.0, let less = h.1 in omega (arith, less), between_words text ts t.span.end b h.2)

between_order : (ws : List Word) (a b : ℕ) → Between a b ws → a ≤ b
between_order [] a b h = h
between_order (w ∷ ws) a b h = let first = h.0 in let own = h.1 in let rest = between_order ws w.span.end b h.2 in omega (arith, first, own, rest)

between_from : (ws : List Word) (a c b : ℕ) → a ≤ c → Between c b ws → Between a b ws
between_from [] a c b e h = omega (arith, e, h)
between_from (w ∷ ws) a c b e h = let first = h.0 in (omega (arith, e, first), h.1, h.2)

pub between_left : (ws vs : List Word) (a b : ℕ) → Between a b (ws ++ vs) → Between a b ws
between_left [] vs a b h = between_order vs a b h
between_left (w ∷ ws) vs a b h = (h.0, h.1, between_left ws vs w.span.end b h.2)

between_right : (ws vs : List Word) (a b : ℕ) → Between a b (ws ++ vs) → Between a b vs
between_right [] vs a b h = h
between_right (w ∷ ws) vs a b h =
    let first = h.0 in let own = h.1 in between_from vs a w.span.end b (omega (arith, first, own)) (between_right ws vs w.span.end b h.2)

end_after : (ws : List Word) (a b : ℕ) → Between a b ws → a ≤ end_of a ws
end_after [] a b h = omega arith
end_after (w ∷ ws) a b h =
    let first = h.0 in let own = h.1 in let rest = end_after ws w.span.end b h.2 in omega (arith, first, own, rest)

end_before : (ws : List Word) (a b : ℕ) → Between a b ws → end_of a ws ≤ b
end_before [] a b h = h
end_before (w ∷ ws) a b h = end_before ws w.span.end b h.2

up_to_end : (ws : List Word) (a b : ℕ) → Between a b ws → Between a (end_of a ws) ws
up_to_end [] a b h = omega arith
up_to_end (w ∷ ws) a b h = (h.0, h.1, up_to_end ws w.span.end b h.2)

across_within : (ws : List Word) (o : Span) → HasWord ws → Between o.start o.end ws → Within (span_across ws) o
across_within [] o n h = absurd n
across_within (w ∷ ws) o n h =
    let own = h.1 in let rest = end_after ws w.span.end o.end h.2 in
    record { from = h.0; ordered = omega (arith, own, rest); to = end_before ws w.span.end o.end h.2 }

across_tight : (ws : List Word) (o : Span) → HasWord ws → Between o.start o.end ws → Between (span_across ws).start (span_across ws).end ws
across_tight [] o n h = absurd n
across_tight (w ∷ ws) o n h = (omega arith, h.1, up_to_end ws w.span.end o.end h.2)

-- `LiesIn o p` is: what `p` yields lies in `o`, in order.
pub record LiesIn (o : Span) (p : Parse Word) : Type 0 where
  pub between : Between o.start o.end (yield_of p)

module _ {o : Span} where
  pub first_lies : {p q : Parse Word} → LiesIn o (Pair p q) → LiesIn o p
  first_lies {p} {q} l = record { between = between_left (yield_of p) (yield_of q) o.start o.end l.between }

  pub rest_lies : {p q : Parse Word} → LiesIn o (Pair p q) → LiesIn o q
  rest_lies {p} {q} l = record { between = between_right (yield_of p) (yield_of q) o.start o.end l.between }

  pub left_lies : {p : Parse Word} → LiesIn o (Left p) → LiesIn o p
  left_lies l = record { between = l.between }

  pub right_lies : {p : Parse Word} → LiesIn o (Right p) → LiesIn o p
  right_lies l = record { between = l.between }

  -- the span of a parse of a rule that is not nullable
  pub span_within : (r : Rule Terminal) (p : Parse Word) → nullable r ≡ false → HasShape p r → LiesIn o p → Within (span_of p) o
  span_within r p n s l = across_within (yield_of p) o (has_word p r n s) l.between

  pub lies_tight : (r : Rule Terminal) (p : Parse Word) → nullable r ≡ false → HasShape p r → LiesIn o p → LiesIn (span_of p) p
  lies_tight r p n s l = record { between = across_tight (yield_of p) o (has_word p r n s) l.between }
