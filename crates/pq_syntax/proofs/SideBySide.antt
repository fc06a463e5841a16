-- Tokens that touch: each begins where the one before it ends. A text has their spellings with
-- nothing between them.
use Rattle.std.proofs.Common.{◌≡◌, ℕ, ◌+◌, ◌-◌, ◌<◌, ◌≤◌, List, ◌∷◌, ◌++◌, length, take, drop, get_or, slice_range, refl, sym, ◌∙◌, ap, subst, arith}
use Rattle.std.proofs.lemmas.Bool.{le-leb}
use Rattle.std.proofs.lemmas.List.{drop-drop, drop_more}
use Rattle.std.proofs.Math.Seq.{take-add}
use Rattle.pq_lex.specs.declared.token.Span.{Span}
use Rattle.pq_lex.specs.declared.token.Token.{Token}
use Rattle.pq_lex.specs.Values.{spelling}
use Rattle.pq_syntax.specs.Parts.{joined}
use Rattle.pq_syntax.specs.Words.{words}

-- `Goes start end left all` is, for each text: if the spellings of `left` are its bytes from `end`
-- to a later offset, those of `all` are its bytes from `start` to that offset
abbrev pub Goes : (start end : ℕ) (left all : List Token) → Type 0
Goes start end left all =
    (text : List ℕ) (last : ℕ) → end ≤ last → last ≤ length text → joined (words text left) ≡ slice_range text end last → joined (words text all) ≡ slice_range text start last

spelled : (text : List ℕ) (span : Span) → span.start ≤ span.end → span.end ≤ length text → spelling text span ≡ slice_range text span.start span.end
spelled text span first last = rw (le-leb span.start span.end first, le-leb span.end (length text) last) refl

ranges_meet : (text : List ℕ) (a b c : ℕ) → a ≤ b → b ≤ c → slice_range text a b ++ slice_range text b c ≡ slice_range text a c
ranges_meet text a b c low high =
    let back : drop (b - a) (drop a text) ≡ drop b text = drop-drop (b - a) a text ∙ ap (λ n. drop n text) (let z : a + (b - a) ≡ b = omega (arith, low) in z) in
    sym (ap (λ n. take n (drop a text)) (let z : c - a ≡ b - a + (c - b) = omega (arith, low, high) in z)
    ∙ take-add (b - a) (c - b) (drop a text)
    ∙ ap (λ xs. take (b - a) (drop a text) ++ take (c - b) xs) back)

one_more : (start end : ℕ) (t : Token) (left all : List Token) → t.span.start ≡ end → end ≤ t.span.end → Goes start end (t ∷ left) all → Goes start t.span.end left all
one_more start end t left all touches ordered goes text last low high rest =
    goes text last (omega (arith, ordered, low)) high (
    ap (λ xs. spelling text t.span ++ xs) rest
    ∙ ap (λ xs. xs ++ slice_range text t.span.end last) (spelled text t.span (omega (arith, touches, ordered)) (omega (arith, low, high)))
    ∙ ranges_meet text t.span.start t.span.end last (omega (arith, touches, ordered)) low
    ∙ ap (λ n. slice_range text n last) touches
    )

-- the same at the token of index `at`
pub next_goes : (start end at : ℕ) (all : List Token) (d : Token) → at < length all → (get_or all at d).span.start ≡ end → end ≤ (get_or all at d).span.end → Goes start end (drop at all) all → Goes start (get_or all at d).span.end (drop (at + 1) all) all
next_goes start end at all d within touches ordered goes = one_more start end (get_or all at d) (drop (at + 1) all) all touches ordered (subst (λ left. Goes start end left all) (drop_more all at d within) goes)
