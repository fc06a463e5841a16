-- The tokens taken, by their words.
use Rattle.std.proofs.Common.{◌≡◌, ℕ, ◌+◌, ◌-◌, ◌<◌, List, [], ◌∷◌, ◌++◌, length, take, refl, sym, ap, ◌∙◌, arith, length-append}
use Rattle.std.proofs.lemmas.List.{length-map}
use Rattle.std.specs.Prelude.{slice_index_or}
use Rattle.pq_lex.specs.declared.token.Span.{Span}
use Rattle.pq_lex.specs.declared.token.Token.{Token}
use Rattle.pq_syntax.specs.Parts.{end_of, span_across}
use Rattle.pq_syntax.specs.Words.{Word, word, words}

-- the words before others are as many as their tokens
pub as_many : (text : List ℕ) (tokens rest : List Token) (ws : List Word) → words text tokens ≡ ws ++ words text rest → length tokens ≡ length ws + length rest
as_many text tokens rest ws e = sym (length-map tokens (word text)) ∙ ap length e ∙ length-append ws (words text rest) ∙ ap (λ n. length ws + n) (length-map rest (word text))

-- the first `length ws` tokens are those of the words `ws`
pub taken_words : (text : List ℕ) (tokens rest : List Token) (ws : List Word)
    → words text tokens ≡ ws ++ words text rest
    → words text (take (length ws) tokens) ≡ ws
taken_words text tokens rest [] e = refl
taken_words text [] rest (w ∷ ws) e = cc
taken_words text (t ∷ ts) rest (w ∷ ws) e =
    let head : word text t ≡ w = cc in
    let tail : words text ts ≡ ws ++ words text rest = cc in
    ap (λ x. x ∷ words text (take (length ws) ts)) head ∙ ap (λ l. w ∷ l) (taken_words text ts rest ws tail)

-- the last of the words ends where the last token taken does
last_end : (text : List ℕ) (tokens rest : List Token) (ws : List Word) (d t : Token) (w : Word)
    → word text t ≡ w
    → words text tokens ≡ ws ++ words text rest
    → (slice_index_or (t ∷ tokens) (length ws) d).span.end ≡ end_of w.span.end ws
last_end text tokens rest [] d t w h e = ap (λ (x : Word). x.span.end) h
last_end text [] rest (v ∷ ws) d t w h e = cc
last_end text (s ∷ ts) rest (v ∷ ws) d t w h e =
    let head : word text s ≡ v = cc in
    let tail : words text ts ≡ ws ++ words text rest = cc in
    last_end text ts rest ws d s v head tail

-- from the first of more tokens than are left to the last before those
pub across_some : (text : List ℕ) (tokens rest : List Token) (ws : List Word) (d : Token) (n : ℕ)
    → n ≡ length tokens - length rest - 1
    → length rest < length tokens
    → words text tokens ≡ ws ++ words text rest
    → ◌≡◌ {A = Span} (record { start = (slice_index_or tokens 0 d).span.start; end = (slice_index_or tokens n d).span.end }) (span_across ws)
across_some text tokens rest [] d n i h e = let m = as_many text tokens rest [] e in absurd (omega (arith, m, h))
across_some text [] rest (w ∷ ws) d n i h e = cc
across_some text (t ∷ ts) rest (w ∷ ws) d n i h e =
    let head : word text t ≡ w = cc in
    let tail : words text ts ≡ ws ++ words text rest = cc in
    let m = as_many text ts rest ws tail in
    let at : n ≡ length ws = omega (arith, m, i) in
    rw (at, last_end text ts rest ws d t w head tail) (ap (λ (x : Word). record { start = x.span.start; end = end_of w.span.end ws }) head)
