-- Where the lines of a text start.
use Rattle.std.proofs.Common.{◌≡◌, ◌⊎◌, inl, inr, ℕ, zero, suc, ◌+◌, ◌-◌, ◌<◌, ◌≤◌, ◌==◌, ◌||◌, ◌&&◌, not, Bool, true, false, cond, List, [], ◌∷◌, ◌++◌, length, drop, get_or, refl, sym, ◌∙◌, ap, subst, arith, add-one, length-drop}
use Rattle.std.proofs.lemmas.List.{get_or-drop}
use Rattle.std.proofs.lemmas.Bool.{cases_order, eqb-true}
use Rattle.std.proofs.lemmas.Bool.Decides.{nat_tests}
use Rattle.pq_lex.specs.Lines.{starts_line, line_number, line_start, line_len, end_of_line}
use Rattle.pq_lex.specs.aux.LineMarks.{starts_to}
use Rattle.pq_lex.proofs.LineLen.{is_break, len_within, len_plain, len_break}

pub bool_cases : (b : Bool) → (b ≡ true) ⊎ (b ≡ false)
bool_cases true = inl refl
bool_cases false = inr refl

neither : (p q r : Bool) → (p || q) ≡ false → (p || (q && r)) ≡ false
neither false false r h = refl
neither false true r h = cc
neither true q r h = cc

pub plain_on : (text : List ℕ) (i : ℕ) → is_break (get_or text i 0) ≡ false → starts_line text (suc i) ≡ false
unfolding starts_line
plain_on text i h = neither (get_or text i 0 == 10) (get_or text i 0 == 13) (not (get_or text (suc i) 0 == 10)) h

module _ (text : List ℕ) where
  starts_itself : (s : ℕ) → starts_line text s ≡ true → line_start text s ≡ s
  unfolding line_start
  starts_itself zero h = refl
  starts_itself (suc s) h = rw h refl

  -- over offsets at which no line starts
  record Quiet (s e : ℕ) : Type 0 where
    start : line_start text e ≡ line_start text s
    number : line_number text e ≡ line_number text s
    starts : starts_to text e ≡ starts_to text s

  quiet_step : (s e : ℕ) → starts_line text (suc e) ≡ false → Quiet s e → Quiet s (suc e)
  unfolding line_start line_number starts_to
  quiet_step s e h q = record { start = rw h q.start; number = rw h q.number; starts = rw h q.starts }

  quiet_same : (s e : ℕ) → s ≡ e → Quiet s e
  quiet_same s e h = record { start = ap (line_start text) (sym h); number = ap (line_number text) (sym h); starts = ap (starts_to text) (sym h) }

  quiet : (s e : ℕ) → s ≤ e → ((j : ℕ) → s ≤ j → j < e → starts_line text (suc j) ≡ false) → Quiet s e
  quiet s zero le h = quiet_same s zero (omega (arith, le))
  quiet s (suc e) le h = elim (cases_order s (suc e)) [
    | inl same ↦ quiet_same s (suc e) same
    | inr o ↦ elim o [
      | inl less ↦ quiet_step s e (h e (omega (arith, less)) (omega arith)) (quiet s e (omega (arith, less)) (λ j a b. h j a (omega (arith, b))))
      | inr more ↦ absurd (omega (arith, le, more))
    ]
  ]

  pub end_within : (s : ℕ) → s ≤ length text → end_of_line text s ≤ length text
  end_within s h = omega (arith, h, len_within (drop s text), length-drop s text)

  pub plain_at : (s j : ℕ) → s ≤ j → j < end_of_line text s → is_break (get_or text j 0) ≡ false
  plain_at s j h less =
      let at : get_or (drop s text) (j - s) 0 ≡ get_or text j 0 = get_or-drop s text (j - s) 0 ∙ ap (λ k. get_or text k 0) (let e : s + (j - s) ≡ j = omega (arith, h) in e) in
      subst (λ b. is_break b ≡ false) at (len_plain (drop s text) (j - s) (omega (arith, h, less)))

  pub break_at : (s : ℕ) → s ≤ length text → end_of_line text s < length text → is_break (get_or text (end_of_line text s) 0) ≡ true
  break_at s h less = subst (λ b. is_break b ≡ true) (get_or-drop s text (line_len (drop s text)) 0) (len_break (drop s text) (omega (arith, h, less, length-drop s text)))

  -- up to its end a line has one start and one number
  on_line : (s e : ℕ) → s ≤ e → e ≤ end_of_line text s → Quiet s e
  on_line s e le within = quiet s e le (λ j a b. plain_on text j (plain_at s j a (omega (arith, b, within))))

  pub same_start : (s e : ℕ) → starts_line text s ≡ true → s ≤ e → e ≤ end_of_line text s → line_start text e ≡ s
  same_start s e h le within = (on_line s e le within).start ∙ starts_itself s h

  pub same_number : (s e : ℕ) → s ≤ e → e ≤ end_of_line text s → line_number text e ≡ line_number text s
  same_number s e le within = (on_line s e le within).number

  pub last_line : (s : ℕ) → s ≤ length text → end_of_line text s ≡ length text → starts_to text (length text) ≡ starts_to text s
  last_line s h e = (on_line s (length text) h (omega (arith, e))).starts

  starts_here : (s : ℕ) → starts_line text (suc s) ≡ true → starts_to text (suc s) ≡ starts_to text s ++ suc s ∷ []
  unfolding starts_to
  starts_here s h = rw h refl

  crlf_break : (i : ℕ) → is_break (get_or text i 0) ≡ true → (b : Bool) → (get_or text i 0 == 13 && (get_or text (suc i) 0 == 10)) ≡ b → starts_line text (suc i) ≡ not b
  unfolding starts_line
  crlf_break i h b e = broken (get_or text i 0 == 10) (get_or text i 0 == 13) (get_or text (suc i) 0 == 10) b (not_both (get_or text i 0)) h e
    where
      not_both : (n : ℕ) → (n == 10) ≡ true → (n == 13) ≡ false
      not_both n e = grind (arith, nat_tests)

      broken : (p q r b : Bool) → (p ≡ true → q ≡ false) → (p || q) ≡ true → (q && r) ≡ b → (p || (q && not r)) ≡ not b
      broken true true r b n h e = let x = n refl in cc
      broken true false r b n h e = rw (sym e) refl
      broken false true r b n h e = rw (sym e) refl
      broken false false r b n h e = cc

  lf_starts : (i : ℕ) → get_or text i 0 ≡ 10 → starts_line text (suc i) ≡ true
  unfolding starts_line
  lf_starts i h = rw h refl

  both_true : (p q : Bool) → (p && q) ≡ true → q ≡ true
  both_true true true h = refl
  both_true true false h = cc
  both_true false q h = cc

  pub next_line : (s t : ℕ) → s ≤ length text → end_of_line text s < length text → t ≡ cond (get_or text (end_of_line text s) 0 == 13 && (get_or text (end_of_line text s + 1) 0 == 10)) (end_of_line text s + 2) (end_of_line text s + 1) → (starts_line text t ≡ true) × (starts_to text t ≡ starts_to text s ++ t ∷ [])
  next_line s t h less e =
      let end : ℕ = end_of_line text s in
      let front : starts_to text end ≡ starts_to text s = (on_line s end (omega arith) (omega arith)).starts in
      go end (break_at s h less) front (get_or text end 0 == 13 && (get_or text (end + 1) 0 == 10)) refl e
    where
      go : (end : ℕ) → is_break (get_or text end 0) ≡ true → starts_to text end ≡ starts_to text s → (b : Bool) → (get_or text end 0 == 13 && (get_or text (end + 1) 0 == 10)) ≡ b → t ≡ cond b (end + 2) (end + 1) → (starts_line text t ≡ true) × (starts_to text t ≡ starts_to text s ++ t ∷ [])
      go end br front false c e =
          let at : t ≡ suc end = omega (arith, e) in
          let c' : (get_or text end 0 == 13 && (get_or text (suc end) 0 == 10)) ≡ false = subst (λ k. (get_or text end 0 == 13 && (get_or text k 0 == 10)) ≡ false) (add-one end) c in
          let st : starts_line text (suc end) ≡ true = crlf_break end br false c' in
          subst (λ k. (starts_line text k ≡ true) × (starts_to text k ≡ starts_to text s ++ k ∷ [])) (sym at) (st, starts_here end st ∙ ap (λ xs. xs ++ suc end ∷ []) front)
      go end br front true c e =
          let at : t ≡ suc (suc end) = omega (arith, e) in
          let c' : (get_or text end 0 == 13 && (get_or text (suc end) 0 == 10)) ≡ true = subst (λ k. (get_or text end 0 == 13 && (get_or text k 0 == 10)) ≡ true) (add-one end) c in
          let no_start : starts_line text (suc end) ≡ false = crlf_break end br true c' in
          let lf : get_or text (suc end) 0 ≡ 10 = eqb-true (get_or text (suc end) 0) 10 (both_true _ _ c') in
          let st : starts_line text (suc (suc end)) ≡ true = lf_starts (suc end) lf in
          let q = quiet_step end end no_start (quiet_same end end refl) in
          subst (λ k. (starts_line text k ≡ true) × (starts_to text k ≡ starts_to text s ++ k ∷ [])) (sym at) (st, starts_here (suc end) st ∙ ap (λ xs. xs ++ suc (suc end) ∷ []) (q.starts ∙ front))
