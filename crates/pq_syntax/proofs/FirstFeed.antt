-- Where the first LF of some bytes is.
use Rattle.std.proofs.Common.{◌≡◌, ℕ, zero, suc, ◌+◌, ◌<◌, ◌≤◌, ◌==◌, true, List, [], ◌∷◌, length, drop, get_or, refl, sym, ap, ◌∙◌, arith, inl, inr, ◌-◌, slice_range, length-drop}
use Rattle.std.proofs.lemmas.Bool.{cond-true, cond-false, cases_Bool}
use Rattle.std.proofs.lemmas.List.{take_all}
use Rattle.memchr.specs.Find.{NoneBefore, Nowhere, Passes, is_byte}
use Rattle.pq_syntax.specs.Loose.{before_line_feed, line_feed_from}

feed_some : (bs : List ℕ) (n : ℕ) → n < length bs → ((k : ℕ) → k < n → (get_or bs k 0 == 10) ≡ true → ⊥) → (get_or bs n 0 == 10) ≡ true → before_line_feed bs ≡ n
unfolding before_line_feed
feed_some [] n h none here = absurd (omega arith)
feed_some (b ∷ bs) zero h none here = cond-true (b == 10) _ _ here
feed_some (b ∷ bs) (suc n) h none here = elim (cases_Bool (b == 10)) [
  | inl e ↦ absurd (none 0 (omega arith) e)
  | inr e ↦ cond-false (b == 10) _ _ e ∙ ap suc (feed_some bs n (omega arith) (λ k l. none (suc k) (omega arith)) here)
]

feed_none : (bs : List ℕ) → ((k : ℕ) → k < length bs → (get_or bs k 0 == 10) ≡ true → ⊥) → before_line_feed bs ≡ length bs
unfolding before_line_feed
feed_none [] none = refl
feed_none (b ∷ bs) none = elim (cases_Bool (b == 10)) [
  | inl e ↦ absurd (none 0 (omega arith) e)
  | inr e ↦ cond-false (b == 10) _ _ e ∙ ap suc (feed_none bs (λ k l. none (suc k) (omega arith)))
]

module _ (bytes text : List ℕ) (same : bytes ≡ text) (i : ℕ) (le : i ≤ length text) where
  abbrev rest : List ℕ
  rest = slice_range bytes i (length bytes)

  rest_is : rest ≡ drop i text
  rest_is = take_all (length bytes - i) (drop i bytes) (let e = length-drop i bytes in omega (arith, e)) ∙ ap (drop i) same

  rest_long : length rest ≡ length text - i
  rest_long = ap length rest_is ∙ length-drop i text

  pub feed_at : (n : ℕ) → NoneBefore (Passes (is_byte 10) rest) 0 (length rest) n × Passes (is_byte 10) rest n → i + n ≡ line_feed_from text i
  feed_at n h = ap (λ m. i + m) (sym (ap before_line_feed (sym rest_is) ∙ feed_some rest n h.0.high (λ k l. h.0.before k (omega arith) l) h.1))

  pub feed_nowhere : Nowhere (Passes (is_byte 10) rest) 0 (length rest) → length bytes ≡ line_feed_from text i
  feed_nowhere h =
      let e : before_line_feed (drop i text) ≡ length rest = ap before_line_feed (sym rest_is) ∙ feed_none rest (λ k l. h k (omega arith) l) in
      let l : length bytes ≡ length text = ap length same in
      omega (arith, e, l, rest_long, le)
