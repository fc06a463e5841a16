-- The computed reading is a lexing, and the only one.
use Rattle.std.proofs.Common.{◌≡◌, ◌⊎◌, inl, inr, ℕ, zero, suc, ◌+◌, ◌<◌, ◌≤◌, List, [], ◌∷◌, ◌++◌, length, Option, Some, None, refl, sym, ◌∙◌, ap, subst, arith, append_assoc}
use Rattle.std.proofs.lemmas.Bool.{cases_lt, lt-ltb, le-ltb}
use Rattle.std.proofs.lemmas.List.{append-nil}
use Rattle.pq_lex.specs.declared.token.Kind.{Kind}
use Rattle.pq_lex.specs.declared.token.Span.{Span}
use Rattle.pq_lex.specs.declared.token.Code.{Code}
use Rattle.pq_lex.specs.declared.token.Code.TheVariants.{NumberRunsOn}
use Rattle.pq_lex.specs.declared.token.Token.{Token}
use Rattle.pq_lex.specs.declared.token.Step.{Step}
use Rattle.pq_lex.specs.declared.token.Step.TheVariants.{Pass, Take, Stop}
use Rattle.pq_lex.specs.aux.Scan.{step_at}
use Rattle.pq_lex.specs.aux.Reading.{Reading, with_token, reading_from, tokens_of, Sofar}
use Rattle.pq_lex.specs.Tokens.{Separator, Lexeme, span, Lexes, ends, passes, takes, overruns, stops}
use Rattle.pq_lex.proofs.Pieces.{IsStep, Fails, Overruns, within, computed_step}
use Rattle.pq_lex.proofs.OnePiece.{step_is}

abbrev nothing : Reading
nothing = record { tokens = []; fault = None }

abbrev fault_at : Span → Code → Reading
fault_at at code = record { tokens = []; fault = Some (at, code) }

abbrev token_at : Kind → ℕ → ℕ → Token
token_at k i n = record { kind = k; span = span i n }

module _ (text : List ℕ) (i : ℕ) where
  read_end : (fuel : ℕ) → length text ≤ i → reading_from fuel text i ≡ nothing
  unfolding reading_from
  read_end zero h = refl
  read_end (suc fuel) h = let l = le-ltb i (length text) h in rw l refl

  read_pass : (fuel n : ℕ) → i < length text → step_at text i ≡ Pass n → reading_from (suc fuel) text i ≡ reading_from fuel text n
  unfolding reading_from
  read_pass fuel n here e = let l = lt-ltb i (length text) here in rw (l, e) refl

  read_take : (fuel : ℕ) (k : Kind) (n : ℕ) → i < length text → step_at text i ≡ Take k n → reading_from (suc fuel) text i ≡ with_token (token_at k i n) (reading_from fuel text n)
  unfolding reading_from
  read_take fuel k n here e = let l = lt-ltb i (length text) here in rw (l, e) refl

  read_stop : (fuel : ℕ) (at : Span) (code : Code) → i < length text → step_at text i ≡ Stop at code → reading_from (suc fuel) text i ≡ fault_at at code
  unfolding reading_from
  read_stop fuel at code here e = let l = lt-ltb i (length text) here in rw (l, e) refl

-- at the end of a text, and at an error
at_end : (text : List ℕ) (i : ℕ) (r : Reading) → r ≡ nothing → i ≡ length text → Lexes i text r.tokens r.fault
at_end text i r e h = subst (λ (q : Reading). Lexes i text q.tokens q.fault) (sym e) (ends h)

at_fault : (text : List ℕ) (i : ℕ) (at : Span) (code : Code) → i < length text → Fails text i at code ⊎ Overruns text i at code → Lexes i text [] (Some (at, code))
at_fault text i at code here (inl f) = stops here f.none f.fault
at_fault text i at code here (inr o) =
    let e : Some (span i o.end, NumberRunsOn) ≡ Some (at, code) = (let x = o.here in let y = o.is in cc) in
    subst (λ (f : Option (Span × Code)). Lexes i text [] f) e (overruns o.longest o.runs)

pub lexed : (text : List ℕ) (fuel i : ℕ) → i ≤ length text → length text ≤ i + fuel → Lexes i text (reading_from fuel text i).tokens (reading_from fuel text i).fault
lexed text zero i low enough = at_end text i (reading_from zero text i) (read_end text i zero (omega (arith, enough))) (omega (arith, low, enough))
lexed text (suc fuel) i low enough = elim (cases_lt i (length text)) [
  | inr past ↦ at_end text i (reading_from (suc fuel) text i) (read_end text i (suc fuel) past) (omega (arith, low, past))
  | inl here ↦ by_step (lexed text fuel) (step_at text i) refl (computed_step text i here) here
]
  where
    by_step : ((j : ℕ) → j ≤ length text → length text ≤ j + fuel → Lexes j text (reading_from fuel text j).tokens (reading_from fuel text j).fault)
        → (s : Step) → step_at text i ≡ s → IsStep text i s → i < length text → Lexes i text (reading_from (suc fuel) text i).tokens (reading_from (suc fuel) text i).fault
    by_step next (Pass n) e l here =
        let w = within text i Separator n l.spells in
        subst (λ (q : Reading). Lexes i text q.tokens q.fault) (sym (read_pass text i fuel n here e)) (passes l (next n w.1 (omega (arith, enough, w.0))))
    by_step next (Take k n) e l here =
        let w = within text i (Lexeme k) n l.0.spells in
        subst (λ (q : Reading). Lexes i text q.tokens q.fault) (sym (read_take text i fuel k n here e)) (takes l.0 l.1 (next n w.1 (omega (arith, enough, w.0))))
    by_step next (Stop at code) e l here = subst (λ (q : Reading). Lexes i text q.tokens q.fault) (sym (read_stop text i fuel at code here e)) (at_fault text i at code here l)

pub read_is : (i : ℕ) (text : List ℕ) (ts : List Token) (f : Option (Span × Code)) → Lexes i text ts f → (fuel : ℕ) → length text ≤ i + fuel → reading_from fuel text i ≡ record { tokens = ts; fault = f }
read_is i text ts f (ends e) fuel enough = read_end text i fuel (omega (arith, e))
read_is i text ts f (passes {n = n} l r) zero enough = let w = within text i Separator n l.spells in absurd (omega (arith, enough, w.0, w.1))
read_is i text ts f (passes {n = n} l r) (suc fuel) enough =
    let w = within text i Separator n l.spells in
    let here : i < length text = omega (arith, w.0, w.1) in
    read_pass text i fuel n here (step_is text i here (Pass n) l) ∙ read_is n text ts f r fuel (omega (arith, enough, w.0))
read_is i text ts f (takes {n = n} {k = k} l o r) zero enough = let w = within text i (Lexeme k) n l.spells in absurd (omega (arith, enough, w.0, w.1))
read_is i text ts f (takes {n = n} {k = k} {ts = rest} l o r) (suc fuel) enough =
    let w = within text i (Lexeme k) n l.spells in
    let here : i < length text = omega (arith, w.0, w.1) in
    read_take text i fuel k n here (step_is text i here (Take k n) (l, o)) ∙ ap (with_token (token_at k i n)) (read_is n text rest f r fuel (omega (arith, enough, w.0)))
read_is i text ts f (overruns {n = n} {k = k} l o) zero enough = let w = within text i (Lexeme k) n l.spells in absurd (omega (arith, enough, w.0, w.1))
read_is i text ts f (overruns {n = n} {k = k} l o) (suc fuel) enough =
    let w = within text i (Lexeme k) n l.spells in
    let here : i < length text = omega (arith, w.0, w.1) in
    read_stop text i fuel (span i n) NumberRunsOn here (step_is text i here (Stop (span i n) NumberRunsOn) (inr (record { kind = k; end = n; longest = l; runs = o; here = refl; is = refl })))
read_is i text ts f (stops here none fault) zero enough = absurd (omega (arith, enough, here))
read_is i text ts f (stops {at = at} {code = code} here none fault) (suc fuel) enough =
    read_stop text i fuel at code here (step_is text i here (Stop at code) (inl (record { none = none; fault = fault })))

pub whole : (text : List ℕ) → Lexes 0 text (tokens_of text).tokens (tokens_of text).fault
unfolding tokens_of
whole text = lexed text (length text) 0 (omega arith) (omega arith)

pub only : (text : List ℕ) (ts : List Token) (f : Option (Span × Code)) → Lexes 0 text ts f → record { tokens = ts; fault = f } ≡ tokens_of text
unfolding tokens_of
only text ts f l = sym (read_is 0 text ts f l (length text) (omega arith))

pub one : (text : List ℕ) (a b : List Token) (f g : Option (Span × Code)) → Lexes 0 text a f → Lexes 0 text b g → (a ≡ b) × (f ≡ g)
one text a b f g l m =
    let x : Reading = record { tokens = a; fault = f } in
    let y : Reading = record { tokens = b; fault = g } in
    let e : x ≡ y = only text a f l ∙ sym (only text b g m) in
    (ap (λ (r : Reading). r.tokens) e, ap (λ (r : Reading). r.fault) e)

-- how a lexing goes on after the tokens so far
pub step_found : (bytes text : List ℕ) (i : ℕ) (s : Step) → bytes ≡ text → i < length bytes → step_at bytes i ≡ s → IsStep text i s
step_found bytes text i s same here e = subst (λ t. IsStep t i s) same (subst (IsStep bytes i) e (computed_step bytes i here))

module _ (text : List ℕ) (i : ℕ) (sofar : List Token) (l : Sofar text i sofar) where
  pub finish : length text ≤ i → Lexes 0 text sofar None
  finish h = let w = l.within in subst (λ ts. Lexes 0 text ts None) (append-nil sofar) (l.goes [] None (ends (omega (arith, h, w))))

  pub fault : (at : Span) (code : Code) → i < length text → IsStep text i (Stop at code) → Lexes 0 text sofar (Some (at, code))
  fault at code here s = subst (λ ts. Lexes 0 text ts (Some (at, code))) (append-nil sofar) (l.goes [] (Some (at, code)) (at_fault text i at code here s))

  pub pass_on : (n : ℕ) → IsStep text i (Pass n) → Sofar text n sofar
  pass_on n s = record { within = (within text i Separator n s.spells).1; goes = λ ts f r. l.goes ts f (passes s r) }

  pub take_on : (k : Kind) (n : ℕ) → IsStep text i (Take k n) → Sofar text n (sofar ++ (token_at k i n ∷ []))
  take_on k n s = record {
    within = (within text i (Lexeme k) n s.0.spells).1;
    goes = λ ts f r. subst (λ q. Lexes 0 text q f) (sym (append_assoc sofar (token_at k i n ∷ []) ts)) (l.goes (token_at k i n ∷ ts) f (takes s.0 s.1 r));
  }

  pub further_pass : (n : ℕ) → IsStep text i (Pass n) → i < n
  further_pass n s = (within text i Separator n s.spells).0

  pub further_take : (k : Kind) (n : ℕ) → IsStep text i (Take k n) → i < n
  further_take k n s = (within text i (Lexeme k) n s.0.spells).0
