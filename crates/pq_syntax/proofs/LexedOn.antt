-- The tokens of a text whatever errors stand among them: each text has one such list.
use Rattle.std.proofs.Common.{◌≡◌, ℕ, zero, suc, ◌+◌, ◌<◌, ◌≤◌, Bool, true, false, cond, ◌==◌, List, [], ◌∷◌, ◌++◌, length, drop, get_or, map, Option, Some, None, refl, sym, ap, ◌∙◌, subst, arith, append_assoc, length-drop}
use Rattle.std.proofs.lemmas.List.{append-nil}
use Rattle.pq_lex.specs.Ascii.{line_feed}
use Rattle.pq_lex.specs.aux.Reading.{Reading, tokens_of}
use Rattle.pq_lex.specs.Order.{InOrder}
use Rattle.pq_lex.specs.Tokens.{Lexes}
use Rattle.pq_lex.specs.declared.token.Code.{Code}
use Rattle.pq_lex.specs.declared.token.Code.TheVariants.{UnclosedComment, UnclosedString, BadEscape, NumberRunsOn, OtherCharacter}
use Rattle.pq_lex.specs.declared.token.Span.{Span}
use Rattle.pq_lex.specs.declared.token.Token.{Token}
use Rattle.pq_syntax.specs.Loose.{moved, before_line_feed, line_feed_from, LexesOn}
use Rattle.pq_syntax.specs.Loose.LexesOn.{to_end, unclosed, goes_on}
use Rattle.pq_syntax.specs.aux.Loosely.{EndsBy, goes_on_from, lexed_on, tokens_on}

abbrev pub Each : Type 0
Each = (text : List ℕ) → Lexes 0 text (tokens_of text).tokens (tokens_of text).fault

abbrev pub Within : Type 0
Within = (text : List ℕ) (tokens : List Token) (span : Span) (code : Code) → Lexes 0 text tokens (Some (span, code)) → InOrder 0 span.start tokens × (span.start < span.end) × (span.end ≤ length text)

abbrev pub One : Type 0
One = (text : List ℕ) (a b : List Token) (f g : Option (Span × Code)) → Lexes 0 text a f → Lexes 0 text b g → (a ≡ b) × (f ≡ g)

-- lexing goes on in the text, after where it began
pub start_within : Within → (text : List ℕ) (i : ℕ) (tokens : List Token) (at : Span) (code : Code) → Lexes 0 (drop i text) tokens (Some (at, code)) → i + at.start < length text
start_within within text i tokens at code l =
    let w = within (drop i text) tokens at code l in
    let less = w.1 in
    let ends = w.2 in
    let long = length-drop i text in
    omega (arith, less, ends, long)

feed_short : (bs : List ℕ) → before_line_feed bs ≤ length bs
unfolding before_line_feed
feed_short [] = omega arith
feed_short (b ∷ bs) = first (b == line_feed) (feed_short bs)
  where
    first : (t : Bool) → before_line_feed bs ≤ length bs → cond t 0 (suc (before_line_feed bs)) ≤ suc (length bs)
    first true e = omega arith
    first false e = omega (arith, e)

pub feed_within : (text : List ℕ) (i : ℕ) → i ≤ length text → line_feed_from text i ≤ length text
feed_within text i le = let e = feed_short (drop i text) in let l = length-drop i text in omega (arith, e, l, le)

abbrev After : ℕ → List ℕ → ℕ → Option (Span × Code) → List Token
After fuel text i fault = elim (goes_on_from text i fault) [ None ↦ [] | Some n ↦ lexed_on fuel text n ]

on_from : Within → (text : List ℕ) (i fuel : ℕ) (r : Reading)
    → Lexes 0 (drop i text) r.tokens r.fault
    → ((n : ℕ) → i < n → n ≤ length text → LexesOn text n (lexed_on fuel text n))
    → LexesOn text i (map (moved i) r.tokens ++ After fuel text i r.fault)
on_from within text i fuel r l more = by_fault r.fault l
  where
    goes : (at : Span) (code : Code) → Lexes 0 (drop i text) r.tokens (Some (at, code)) → (code ≡ UnclosedComment → ⊥)
        → LexesOn text i (map (moved i) r.tokens ++ lexed_on fuel text (line_feed_from text (i + at.start + 1)))
    goes at code l other =
        let n = line_feed_from text (i + at.start + 1) in
        let starts = start_within within text i r.tokens at code l in
        let ends = feed_within text (i + at.start + 1) (omega (arith, starts)) in
        goes_on r.tokens at code (lexed_on fuel text n) l other (more n (omega arith) ends) refl

    by_fault : (f : Option (Span × Code)) → Lexes 0 (drop i text) r.tokens f → LexesOn text i (map (moved i) r.tokens ++ After fuel text i f)
    by_fault None l = to_end r.tokens l (append-nil _)
    by_fault (Some (at, UnclosedComment)) l = unclosed r.tokens at l (append-nil _)
    by_fault (Some (at, UnclosedString)) l = goes at UnclosedString l (λ e. cc)
    by_fault (Some (at, BadEscape)) l = goes at BadEscape l (λ e. cc)
    by_fault (Some (at, NumberRunsOn)) l = goes at NumberRunsOn l (λ e. cc)
    by_fault (Some (at, OtherCharacter)) l = goes at OtherCharacter l (λ e. cc)

pub each_from : Each → Within → (fuel : ℕ) (text : List ℕ) (i : ℕ) → length text < fuel + i → i ≤ length text → LexesOn text i (lexed_on fuel text i)
unfolding lexed_on
each_from each within zero text i enough le = absurd (omega arith)
each_from each within (suc fuel) text i enough le =
    on_from within text i fuel (tokens_of (drop i text)) (each (drop i text)) (λ n less more. each_from each within fuel text n (omega arith) more)

pub each_on : Each → Within → (text : List ℕ) → LexesOn text 0 (tokens_on text)
unfolding tokens_on
each_on each within text = each_from each within (suc (length text)) text 0 (omega arith) (omega arith)

-- what a loop has left to lex from offset `i` on, after the tokens `ts`
pub record Left (text : List ℕ) (i : ℕ) (ts : List Token) : Type 0 where
  pub fuel : ℕ
  pub enough : length text < fuel + i
  pub all : ts ++ lexed_on fuel text i ≡ tokens_on text

pub left_all : (text : List ℕ) → Left text 0 []
unfolding tokens_on
left_all text = record { fuel = suc (length text); enough = omega arith; all = refl }

left_next : (text : List ℕ) (i fuel : ℕ) (old new : List Token) (o : Option ℕ)
    → new ≡ old ++ map (moved i) (tokens_of (drop i text)).tokens
    → o ≡ goes_on_from text i (tokens_of (drop i text)).fault
    → old ++ lexed_on (suc fuel) text i ≡ tokens_on text
    → new ++ elim o as (λ _. List Token) [ None ↦ [] | Some n ↦ lexed_on fuel text n ] ≡ tokens_on text
unfolding lexed_on
left_next text i fuel old new o e next all =
    rw (e, next, append_assoc old (map (moved i) (tokens_of (drop i text)).tokens)) all

pub left_goes : (text : List ℕ) (i n : ℕ) (old new : List Token)
    → new ≡ old ++ map (moved i) (tokens_of (drop i text)).tokens
    → Some n ≡ goes_on_from text i (tokens_of (drop i text)).fault
    → i < n → n ≤ length text → Left text i old → Left text n new
left_goes text i n old new e next less le l = by_fuel l.fuel l.enough l.all
  where
    by_fuel : (fuel : ℕ) → length text < fuel + i → old ++ lexed_on fuel text i ≡ tokens_on text → Left text n new
    by_fuel zero enough all = absurd (omega arith)
    by_fuel (suc fuel) enough all = record { fuel = fuel; enough = omega arith; all = left_next text i fuel old new (Some n) e next all }

pub left_ends : (text : List ℕ) (i : ℕ) (old new : List Token)
    → new ≡ old ++ map (moved i) (tokens_of (drop i text)).tokens
    → None ≡ goes_on_from text i (tokens_of (drop i text)).fault
    → i ≤ length text → Left text i old → new ≡ tokens_on text
left_ends text i old new e next le l = by_fuel l.fuel l.enough l.all
  where
    by_fuel : (fuel : ℕ) → length text < fuel + i → old ++ lexed_on fuel text i ≡ tokens_on text → new ≡ tokens_on text
    by_fuel zero enough all = absurd (omega arith)
    by_fuel (suc fuel) enough all = sym (append-nil new) ∙ left_next text i fuel old new None e next all

-- errors that are equal have equal spans and codes
same_fault : (at at' : Span) (code code' : Code) → ◌≡◌ {A = Option (Span × Code)} (Some (at, code)) (Some (at', code')) → (at ≡ at') × (code ≡ code')
same_fault at at' code code' e =
    let pairs : ◌≡◌ {A = Span × Code} (at, code) (at', code') = cc in
    (ap (λ (p : Span × Code). p.0) pairs, ap (λ (p : Span × Code). p.1) pairs)

-- the tokens of a text are one list
pub one_on : One → (text : List ℕ) (i : ℕ) (a b : List Token) → LexesOn text i a → LexesOn text i b → a ≡ b
one_on one text i a b (to_end ts l e) (to_end us m f) = let s = one (drop i text) ts us None None l m in e ∙ ap (map (moved i)) s.0 ∙ sym f
one_on one text i a b (to_end ts l e) (unclosed us at m f) = let s = one (drop i text) ts us _ _ l m in let n = s.1 in cc
one_on one text i a b (to_end ts l e) (goes_on us at code others m k g f) = let s = one (drop i text) ts us _ _ l m in let n = s.1 in cc
one_on one text i a b (unclosed ts at l e) (to_end us m f) = let s = one (drop i text) ts us _ _ l m in let n = s.1 in cc
one_on one text i a b (unclosed ts at l e) (unclosed us at' m f) = let s = one (drop i text) ts us _ _ l m in e ∙ ap (map (moved i)) s.0 ∙ sym f
one_on one text i a b (unclosed ts at l e) (goes_on us at' code others m k g f) =
    let s = one (drop i text) ts us _ _ l m in absurd (k (sym (same_fault at at' UnclosedComment code s.1).1))
one_on one text i a b (goes_on ts at code others l k g e) (to_end us m f) = let s = one (drop i text) ts us _ _ l m in let n = s.1 in cc
one_on one text i a b (goes_on ts at code others l k g e) (unclosed us at' m f) =
    let s = one (drop i text) ts us _ _ l m in absurd (k (same_fault at at' code UnclosedComment s.1).1)
one_on one text i a b (goes_on ts at code others l k g e) (goes_on us at' code' others' m k' g' f) =
    let s = one (drop i text) ts us _ _ l m in
    let same : at' ≡ at = sym (same_fault at at' code code' s.1).0 in
    let on : LexesOn text (line_feed_from text (i + at.start + 1)) others' = subst (λ (x : Span). LexesOn text (line_feed_from text (i + x.start + 1)) others') same g' in
    let rest = one_on one text (line_feed_from text (i + at.start + 1)) others others' g on in
    e ∙ ap (λ (x : List Token). map (moved i) x ++ others) s.0 ∙ ap (λ (x : List Token). map (moved i) us ++ x) rest ∙ sym f

-- where the tokens of a part of a text end
abbrev Ordered : Type 0
Ordered = (text : List ℕ) (tokens : List Token) (fault : Option (Span × Code)) → Lexes 0 text tokens fault → InOrder 0 (length text) tokens

order_within : (ts : List Token) (a b : ℕ) → InOrder a b ts → a ≤ b
order_within [] a b h = h
order_within (t ∷ ts) a b h = let first = h.0 in let own = h.1 in let rest = order_within ts t.span.end b h.2 in omega (arith, first, own, rest)

order_ends : (ts : List Token) (a b n end : ℕ) → n + b ≤ end → InOrder a b ts → (k : ℕ) (d : Token) → k < length ts → EndsBy n end (get_or ts k d)
order_ends [] a b n end le h k d less = absurd (omega arith)
order_ends (t ∷ ts) a b n end le h zero d less = let own = h.1 in let rest = order_within ts t.span.end b h.2 in (omega (arith, own), omega (arith, rest))
order_ends (t ∷ ts) a b n end le h (suc k) d less = order_ends ts t.span.end b n end le h.2 k d (omega arith)

pub part_ends : Ordered → (part : List ℕ) (ts found : List Token) (fault : Option (Span × Code)) (n end : ℕ)
    → n + length part ≤ end → Lexes 0 part ts fault → found ≡ ts
    → (k : ℕ) (d : Token) → k < length found → EndsBy n end (get_or found k d)
part_ends ordered part ts found fault n end le l same = rw same (order_ends ts 0 (length part) n end le (ordered part ts fault l))
