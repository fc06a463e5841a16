-- The ends of comments: the first LF from the text of a line comment on, and the first `*/`, which
-- begins at a `*`.
use Rattle.std.proofs.Common.{◌≡◌, inl, inr, ℕ, ◌+◌, ◌-◌, ◌<◌, ◌≤◌, ◌==◌, true, false, not, List, length, get_or, slice_range, refl, sym, ◌∙◌, ap, subst, arith, length-drop}
use Rattle.std.proofs.lemmas.Bool.{cases_lt}
use Rattle.std.proofs.lemmas.List.{get_or-drop}
use Rattle.memchr.specs.Find.{NoneBefore, Nowhere, Passes, is_byte}
use Rattle.pq_lex.specs.declared.bytes.Set.TheVariants.{Lines}
use Rattle.pq_lex.specs.Runs.{run_end}
use Rattle.pq_lex.specs.Tokens.{closes}
use Rattle.pq_lex.proofs.Counts.{range_from}
use Rattle.pq_lex.proofs.LineFacts.{bool_cases}
use Rattle.pq_lex.proofs.RunLemmas.{run_one}

not_byte : (a b : ℕ) → (is_byte a b ≡ true → ⊥) → (b == a) ≡ false
not_byte a b h = elim (bool_cases (b == a)) [
  | inl same ↦ absurd (h same)
  | inr other ↦ other
]

not_feed : (b : ℕ) → (is_byte 10 b ≡ true → ⊥) → not (b == 10) ≡ true
not_feed b h = rw (not_byte 10 b h) refl

feed : (b : ℕ) → is_byte 10 b ≡ true → not (b == 10) ≡ false
feed b h = rw h refl

module _ (text : List ℕ) (i : ℕ) (le : i ≤ length text) where
  rest_at : (k : ℕ) → get_or (slice_range text i (length text)) k 0 ≡ get_or text (i + k) 0
  rest_at k = ap (λ xs. get_or xs k 0) (range_from text i) ∙ get_or-drop i text k 0

  pub rest_length : length (slice_range text i (length text)) ≡ length text - i
  rest_length = ap length (range_from text i) ∙ length-drop i text

  in_rest : (k : ℕ) → i ≤ k → (is_byte 10 (get_or (slice_range text i (length text)) (k - i) 0) ≡ true → ⊥) → not (get_or text k 0 == 10) ≡ true
  in_rest k low h = not_feed (get_or text k 0) (λ e. h (subst (λ b. is_byte 10 b ≡ true) (sym (rest_at (k - i) ∙ ap (λ j. get_or text j 0) (let z : i + (k - i) ≡ k = omega (arith, low) in z))) e))

  pub comment_end : (n : ℕ) → NoneBefore (Passes (is_byte 10) (slice_range text i (length text))) 0 (length (slice_range text i (length text))) n × Passes (is_byte 10) (slice_range text i (length text)) n → i + n ≡ run_end Lines text i
  comment_end n h =
      let high = h.0.high in
      run_one Lines text i (i + n) (record {
        ordered = omega arith;
        within = omega (arith, high, rest_length, le);
        all = λ k low less. in_rest k low (h.0.before (k - i) (omega arith) (omega (arith, low, less)));
      }) (λ _. feed (get_or text (i + n) 0) (subst (λ b. is_byte 10 b ≡ true) (rest_at n) h.1))

  pub comment_to_end : Nowhere (Passes (is_byte 10) (slice_range text i (length text))) 0 (length (slice_range text i (length text))) → length text ≡ run_end Lines text i
  comment_to_end h = run_one Lines text i (length text) (record {
    ordered = le;
    within = omega arith;
    all = λ k low less. in_rest k low (h (k - i) (omega arith) (omega (arith, low, less, rest_length)));
  }) (λ z. absurd (omega (arith, z)))

-- a text has no `*/` where it has no `*`
module _ (text : List ℕ) (i : ℕ) (le : i ≤ length text) where
  no_star : (n k : ℕ) → Nowhere (Passes (is_byte 42) (slice_range text i (length text))) 0 n → i ≤ k → k < i + n → closes text k ≡ false
  no_star n k none low less =
      let other = none (k - i) (omega arith) (omega (arith, low, less)) in
      let at = rest_at text i le (k - i) ∙ ap (λ j. get_or text j 0) (let z : i + (k - i) ≡ k = omega (arith, low) in z) in
      let b : (get_or text k 0 == 42) ≡ false = not_byte 42 (get_or text k 0) (λ e. other (subst (λ b. is_byte 42 b ≡ true) (sym at) e)) in
      rw b refl

-- a comment whose text starts at `from` does not close before `at`
module _ (text : List ℕ) (from at : ℕ) (le : at ≤ length text) (before : (k : ℕ) → from ≤ k → k < at → closes text k ≡ false) where
  pub none_to_star : (n : ℕ) → Nowhere (Passes (is_byte 42) (slice_range text at (length text))) 0 n → (k : ℕ) → from ≤ k → k < at + n → closes text k ≡ false
  none_to_star n none k low less = elim (cases_lt k at) [
    | inl early ↦ before k low early
    | inr late ↦ no_star text at le n k none late less
  ]

  pub none_past_star : (n : ℕ) → Nowhere (Passes (is_byte 42) (slice_range text at (length text))) 0 n → closes text (at + n) ≡ false → (k : ℕ) → from ≤ k → k < at + n + 1 → closes text k ≡ false
  none_past_star n none here k low less = elim (cases_lt k (at + n)) [
    | inl early ↦ none_to_star n none k low early
    | inr late ↦ subst (λ j. closes text j ≡ false) (let z : at + n ≡ k = omega (arith, late, less) in z) here
  ]

  pub none_to_end : Nowhere (Passes (is_byte 42) (slice_range text at (length text))) 0 (length (slice_range text at (length text))) → (k : ℕ) → from ≤ k → k < length text → closes text k ≡ false
  none_to_end none k low less = none_to_star (length (slice_range text at (length text))) none k low (omega (arith, less, rest_length text at le, le))
