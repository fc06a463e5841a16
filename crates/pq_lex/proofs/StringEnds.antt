-- The computed rest of a string is what the relations say, and they say nothing else.
use Rattle.std.proofs.Common.{◌≡◌, ◌⊎◌, inl, inr, ℕ, zero, suc, ◌+◌, ◌<◌, ◌≤◌, ◌==◌, ◌||◌, true, false, List, length, Option, Some, None, refl, sym, ◌∙◌, ap, arith}
use Rattle.std.proofs.lemmas.Bool.{both_ways, cases_lt, cases_Bool, eqb-true, eq-eqb, ne_eqb, or_cases, or_left, or_right, not_from_true, not-false}
use Rattle.pq_lex.specs.declared.token.Kind.TheVariants.{Text}
use Rattle.pq_lex.specs.declared.token.Span.{Span}
use Rattle.pq_lex.specs.declared.token.Code.{Code}
use Rattle.pq_lex.specs.declared.token.Code.TheVariants.{UnclosedString, BadEscape}
use Rattle.pq_lex.specs.declared.token.Step.{Step}
use Rattle.pq_lex.specs.declared.token.Step.TheVariants.{Take, Stop}
use Rattle.pq_lex.specs.declared.escapes.Escape.{Escape}
use Rattle.pq_lex.specs.Classes.{byte, is_quote}
use Rattle.pq_lex.specs.Escapes.{escape_at}
use Rattle.pq_lex.specs.aux.Scan.{text_step}
use Rattle.pq_lex.specs.Tokens.{span, is_plain, Quoted, closed, plain, escaped, TextFault, opened_only, bad, plain_first, escaped_first}
use Rattle.pq_lex.proofs.EscapeLemmas.{escape_further}
use Rattle.pq_lex.proofs.NumberEnds.{inside, inside_at}
use Rattle.pq_lex.proofs.StringSteps.{closes_here, bad_here, open_here, escape_goes, plain_goes, escape_next, plain_next, open_at_end}

-- the rest of a string: a token, or an error
pub data Ends (text : List ℕ) (quote start i : ℕ) (s : Step) : Type 0 where
  ends_at : (n : ℕ) → s ≡ Take Text n → Quoted text quote n i → Ends text quote start i s
  fails_at : (at : Span) (code : Code) → s ≡ Stop at code → TextFault text quote start at code i → Ends text quote start i s

not_plain : (quote b : ℕ) → is_plain quote b ≡ false → (b == quote) ≡ false → (b == 92) ≡ false → (b ≡ 10) ⊎ (b ≡ 0)
not_plain quote b h q e = elim (or_cases (b == quote) (b == 92 || (b == 10 || b == 0)) (not-false _ h)) [
  | inl t ↦ absurd (both_ways (b == quote) q t)
  | inr t ↦ elim (or_cases (b == 92) (b == 10 || b == 0) t) [
    | inl u ↦ absurd (both_ways (b == 92) e u)
    | inr u ↦ elim (or_cases (b == 10) (b == 0) u) [ inl v ↦ inl (eqb-true b 10 v) | inr v ↦ inr (eqb-true b 0 v) ]
  ]
]

plain_10 : (quote b : ℕ) → b ≡ 10 → is_plain quote b ≡ false
plain_10 quote b e = not_from_true _ (or_right (b == quote) (b == 92 || (b == 10 || b == 0)) (or_right (b == 92) (b == 10 || b == 0) (or_left (b == 10) (b == 0) (eq-eqb b 10 e))))

pub plain_0 : (quote b : ℕ) → b ≡ 0 → is_plain quote b ≡ false
plain_0 quote b e = not_from_true _ (or_right (b == quote) (b == 92 || (b == 10 || b == 0)) (or_right (b == 92) (b == 10 || b == 0) (or_right (b == 10) (b == 0) (eq-eqb b 0 e))))

plain_some : (quote b : ℕ) → is_plain quote b ≡ true → b ≡ 0 → ⊥
plain_some quote b h e = both_ways (is_plain quote b) (plain_0 quote b e) h

quote_some : (quote : ℕ) → is_quote quote ≡ true → 0 < quote
quote_some quote h = elim (or_cases (quote == 34) (quote == 39) h) [
  | inl e ↦ let s = eqb-true quote 34 e in omega (arith, s)
  | inr e ↦ let s = eqb-true quote 39 e in omega (arith, s)
]

no_quote : (quote b c : ℕ) → is_quote quote ≡ true → b ≡ c → is_quote c ≡ false → (b == quote) ≡ false
no_quote quote b c q e f = ne_eqb b quote (λ s. let t : quote ≡ c = sym s ∙ e in both_ways (is_quote quote) (ap is_quote t ∙ f) q)

module _ (text : List ℕ) (quote start : ℕ) (q : is_quote quote ≡ true) where
  along : (i j : ℕ) (s t : Step) → s ≡ t → ((n : ℕ) → Quoted text quote n j → Quoted text quote n i) → ((at : Span) (code : Code) → TextFault text quote start at code j → TextFault text quote start at code i) → Ends text quote start j t → Ends text quote start i s
  along i j s t e f g (ends_at n h r) = ends_at n (e ∙ h) (f n r)
  along i j s t e f g (fails_at at code h r) = fails_at at code (e ∙ h) (g at code r)

  pub text_ends : (fuel i : ℕ) → length text ≤ i + fuel → Ends text quote start i (text_step fuel quote start text i)
  text_ends zero i enough = fails_at (span start (start + 1)) UnclosedString (open_at_end quote start text i zero q (omega (arith, enough))) (opened_only (inl (omega (arith, enough))) refl refl)
  text_ends (suc fuel) i enough = elim (cases_lt i (length text)) [
    | inr past ↦ fails_at (span start (start + 1)) UnclosedString (open_at_end quote start text i (suc fuel) q past) (opened_only (inl past) refl refl)
    | inl here ↦ elim (cases_Bool (byte text i == quote)) [
      | inl e ↦ let s = eqb-true (byte text i) quote e in ends_at (i + 1) (closes_here quote start text i here (suc fuel) enough s) (closed s refl)
      | inr n ↦ elim (cases_Bool (byte text i == 92)) [
        | inl b ↦ by_escape (text_ends fuel) (escape_at text i) refl here n b
        | inr b ↦ elim (cases_Bool (is_plain quote (byte text i))) [
          | inl p ↦
              along i (i + 1) _ _ (plain_next quote start text i here fuel p) (λ n r. plain p r) (λ at code r. plain_first p r) (text_ends fuel (i + 1) (omega (arith, enough)))
          | inr p ↦
              let o : (length text ≤ i) ⊎ ((byte text i ≡ 10) ⊎ (byte text i ≡ 0)) = inr (not_plain quote (byte text i) p n b) in
              fails_at (span start (start + 1)) UnclosedString (open_here quote start text i here (suc fuel) enough n b p) (opened_only o refl refl)
        ]
      ]
    ]
  ]
    where
      by_escape : ((j : ℕ) → length text ≤ j + fuel → Ends text quote start j (text_step fuel quote start text j)) → (o : Option Escape) → escape_at text i ≡ o → i < length text → (byte text i == quote) ≡ false → (byte text i == 92) ≡ true → Ends text quote start i (text_step (suc fuel) quote start text i)
      by_escape next None e here n b = fails_at (span i (i + 1)) BadEscape (bad_here quote start text i here (suc fuel) enough n b e) (bad (eqb-true (byte text i) 92 b) e refl refl)
      by_escape next (Some x) e here n b =
          let c = eqb-true (byte text i) 92 b in
          along i x.end _ _ (escape_next quote start text i here fuel n b x e) (λ n r. escaped c x e r) (λ at code r. escaped_first c x e r) (next x.end (omega (arith, enough, escape_further text i x e)))

  no_quote_at_backslash : (i : ℕ) → byte text i ≡ 92 → (byte text i == quote) ≡ false
  no_quote_at_backslash i e = no_quote quote (byte text i) 92 q e refl

  pub quoted_is : (n i : ℕ) → Quoted text quote n i → (fuel : ℕ) → length text ≤ i + fuel → text_step fuel quote start text i ≡ Take Text n
  quoted_is n i (closed e end) fuel enough =
      let here = inside_at text i quote e (quote_some quote q) in
      closes_here quote start text i here fuel enough e ∙ ap (Take Text) (sym end)
  quoted_is n i (plain p r) fuel enough =
      let here = inside text i (plain_some quote (byte text i) p) in
      let g = plain_goes quote start text i here fuel enough p in
      g.same ∙ quoted_is n (i + 1) r g.less g.enough
  quoted_is n i (escaped b x e r) fuel enough =
      let here = inside_at text i 92 b (omega arith) in
      let g = escape_goes quote start text i here fuel enough (no_quote_at_backslash i b) (eq-eqb (byte text i) 92 b) x e in
      g.same ∙ quoted_is n x.end r g.less g.enough

  opened_step : (i fuel : ℕ) → length text ≤ i + fuel → (b : ℕ) → byte text i ≡ b → (b ≡ 10) ⊎ (b ≡ 0) → text_step fuel quote start text i ≡ Stop (span start (start + 1)) UnclosedString
  opened_step i fuel enough b at o = elim (cases_lt i (length text)) [
    | inr past ↦ open_at_end quote start text i fuel q past
    | inl here ↦ elim o [
      | inl e ↦ let f = at ∙ e in open_here quote start text i here fuel enough (no_quote quote (byte text i) 10 q f refl) (ne_eqb (byte text i) 92 (λ s. let t : 92 ≡ 10 = sym s ∙ f in absurd (omega (arith, t)))) (plain_10 quote (byte text i) f)
      | inr e ↦ let f = at ∙ e in open_here quote start text i here fuel enough (no_quote quote (byte text i) 0 q f refl) (ne_eqb (byte text i) 92 (λ s. let t : 92 ≡ 0 = sym s ∙ f in absurd (omega (arith, t)))) (plain_0 quote (byte text i) f)
    ]
  ]

  pub fault_is : (at : Span) (code : Code) (i : ℕ) → TextFault text quote start at code i → (fuel : ℕ) → length text ≤ i + fuel → text_step fuel quote start text i ≡ Stop at code
  fault_is at code i (opened_only o s c) fuel enough =
      let same : Stop (span start (start + 1)) UnclosedString ≡ Stop at code = cc in
      elim o [
        | inl past ↦ open_at_end quote start text i fuel q past ∙ same
        | inr b ↦ opened_step i fuel enough (byte text i) refl b ∙ same
      ]
  fault_is at code i (bad b e s c) fuel enough =
      let here = inside_at text i 92 b (omega arith) in
      let same : Stop (span i (i + 1)) BadEscape ≡ Stop at code = cc in
      bad_here quote start text i here fuel enough (no_quote_at_backslash i b) (eq-eqb (byte text i) 92 b) e ∙ same
  fault_is at code i (plain_first p r) fuel enough =
      let here = inside text i (plain_some quote (byte text i) p) in
      let g = plain_goes quote start text i here fuel enough p in
      g.same ∙ fault_is at code (i + 1) r g.less g.enough
  fault_is at code i (escaped_first b x e r) fuel enough =
      let here = inside_at text i 92 b (omega arith) in
      let g = escape_goes quote start text i here fuel enough (no_quote_at_backslash i b) (eq-eqb (byte text i) 92 b) x e in
      g.same ∙ fault_is at code x.end r g.less g.enough

  pub quoted_within : (n i : ℕ) → Quoted text quote n i → (i < n) × (n ≤ length text)
  quoted_within n i (closed e end) = (omega (arith, end), omega (arith, end, inside_at text i quote e (quote_some quote q)))
  quoted_within n i (plain p r) = let w = quoted_within n (i + 1) r in (omega (arith, w.0), w.1)
  quoted_within n i (escaped b x e r) = let w = quoted_within n x.end r in (omega (arith, w.0, escape_further text i x e), w.1)
