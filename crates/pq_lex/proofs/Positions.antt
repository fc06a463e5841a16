-- Lines by number, and the columns of their bytes.
use Rattle.std.proofs.Common.{◌≡◌, ◌⊎◌, inl, inr, ℕ, zero, suc, ◌+◌, ◌-◌, ◌<◌, ◌≤◌, true, false, List, [], ◌∷◌, ◌++◌, length, get_or, refl, sym, ◌∙◌, ap, subst, arith, length-append, append_assoc}
use Rattle.std.proofs.lemmas.List.{append-nil}
use Rattle.std.proofs.lemmas.Bool.{cases_order}
use Rattle.pq_lex.specs.Lines.{starts_line, line_number, line_start}
use Rattle.pq_lex.specs.aux.LineMarks.{starts_to}
use Rattle.pq_lex.proofs.LineFacts.{bool_cases}

pub get_left : (xs ys : List ℕ) (i : ℕ) → i < length xs → get_or (xs ++ ys) i 0 ≡ get_or xs i 0
get_left [] ys i h = absurd (omega (arith, h))
get_left (x ∷ xs) ys zero h = refl
get_left (x ∷ xs) ys (suc i) h = get_left xs ys i (omega (arith, h))

pub get_right : (xs ys : List ℕ) (i : ℕ) → length xs ≤ i → get_or (xs ++ ys) i 0 ≡ get_or ys (i - length xs) 0
get_right [] ys i h = ap (λ k. get_or ys k 0) (let e : i ≡ i - 0 = omega arith in e)
get_right (x ∷ xs) ys zero h = absurd (omega (arith, h))
get_right (x ∷ xs) ys (suc i) h = get_right xs ys i (omega (arith, h)) ∙ ap (λ k. get_or ys k 0) (let e : i - length xs ≡ suc i - length (x ∷ xs) = omega arith in e)

module _ (text : List ℕ) where
  -- the lines up to an offset, the last of which is the offset's
  record Numbered (o : ℕ) : Type 0 where
    count : length (starts_to text o) ≡ suc (line_number text o)
    last : get_or (starts_to text o) (line_number text o) 0 ≡ line_start text o
    below : (i : ℕ) → i < length (starts_to text o) → get_or (starts_to text o) i 0 ≤ o
    each : (i : ℕ) → i < length (starts_to text o) → starts_line text (get_or (starts_to text o) i 0) ≡ true
    number : (i : ℕ) → i < length (starts_to text o) → line_number text (get_or (starts_to text o) i 0) ≡ i

  zero_starts : starts_line text 0 ≡ true
  unfolding starts_line
  zero_starts = refl

  no_more_lines : (o : ℕ) → starts_line text (suc o) ≡ false → (starts_to text (suc o) ≡ starts_to text o) × (line_number text (suc o) ≡ line_number text o) × (line_start text (suc o) ≡ line_start text o)
  unfolding line_number line_start starts_to
  no_more_lines o h = (rw h refl, rw h refl, rw h refl)

  more_lines : (o : ℕ) → starts_line text (suc o) ≡ true → (starts_to text (suc o) ≡ starts_to text o ++ suc o ∷ []) × (line_number text (suc o) ≡ suc (line_number text o)) × (line_start text (suc o) ≡ suc o)
  unfolding line_number line_start starts_to
  more_lines o h = (rw h refl, rw h refl, rw h refl)

  -- what holds of each line so far, and of one more, holds of each
  one_more : (P : ℕ → ℕ → Type 0) (xs : List ℕ) (x : ℕ) → ((i : ℕ) → i < length xs → P i (get_or xs i 0)) → P (length xs) x → (i : ℕ) → i < length (xs ++ x ∷ []) → P i (get_or (xs ++ x ∷ []) i 0)
  one_more P xs x h e i less = elim (cases_order i (length xs)) [
    | inl same ↦ subst (λ k. P k (get_or (xs ++ x ∷ []) k 0)) (sym same) (subst (P (length xs)) (sym (get_right xs (x ∷ []) (length xs) (omega arith) ∙ ap (λ k. get_or (x ∷ []) k 0) (let z : length xs - length xs ≡ 0 = omega arith in z))) e)
    | inr o ↦ elim o [
      | inl low ↦ subst (P i) (sym (get_left xs (x ∷ []) i low)) (h i low)
      | inr high ↦ absurd (omega (arith, high, less, length-append xs (x ∷ [])))
    ]
  ]

  step : (o : ℕ) → Numbered o → (starts_line text (suc o) ≡ true) ⊎ (starts_line text (suc o) ≡ false) → Numbered (suc o)
  step o n (inl h) =
      let e = more_lines o h in
      let at : length (starts_to text o) ≡ line_number text (suc o) = n.count ∙ sym e.1 in
      record {
        count = rw (e.0, e.1) (omega (arith, n.count, length-append (starts_to text o) (suc o ∷ [])));
        last = rw (e.0, e.2, ← at) (get_right (starts_to text o) (suc o ∷ []) (length (starts_to text o)) (omega arith) ∙ ap (λ k. get_or (suc o ∷ []) k 0) (let z : length (starts_to text o) - length (starts_to text o) ≡ 0 = omega arith in z));
        below = rw e.0 (one_more (λ i x. x ≤ suc o) (starts_to text o) (suc o) (λ i q. let b = n.below i q in omega (arith, b)) (omega arith));
        each = rw e.0 (one_more (λ i x. starts_line text x ≡ true) (starts_to text o) (suc o) n.each h);
        number = rw e.0 (one_more (λ i x. line_number text x ≡ i) (starts_to text o) (suc o) n.number (sym at));
      }
  step o n (inr h) =
      let e = no_more_lines o h in
      record {
        count = rw (e.0, e.1) n.count;
        last = rw (e.0, e.1, e.2) n.last;
        below = rw e.0 (λ i q. let b = n.below i q in omega (arith, b));
        each = rw e.0 n.each;
        number = rw e.0 n.number;
      }

  first_numbered : Numbered 0
  unfolding line_number line_start starts_to
  first_numbered = record {
    count = refl;
    last = refl;
    below = λ i h. subst (λ k. get_or (0 ∷ []) k 0 ≤ 0) (let e : 0 ≡ i = omega (arith, h) in e) (omega arith);
    each = λ i h. subst (λ k. starts_line text (get_or (0 ∷ []) k 0) ≡ true) (let e : 0 ≡ i = omega (arith, h) in e) zero_starts;
    number = λ i h. subst (λ k. line_number text (get_or (0 ∷ []) k 0) ≡ k) (let e : 0 ≡ i = omega (arith, h) in e) refl;
  }

  numbered : (o : ℕ) → Numbered o
  numbered zero = first_numbered
  numbered (suc o) = step o (numbered o) (bool_cases (starts_line text (suc o)))

  -- the lines up to a later offset: those up to this one, and later ones
  record Later (o n : ℕ) : Type 0 where
    rest : List ℕ
    is : starts_to text n ≡ starts_to text o ++ rest
    after : (i : ℕ) → i < length rest → o < get_or rest i 0

  later_step : (o n : ℕ) → o ≤ n → Later o n → (starts_line text (suc n) ≡ true) ⊎ (starts_line text (suc n) ≡ false) → Later o (suc n)
  later_step o n le l (inl h) = record {
    rest = l.rest ++ suc n ∷ [];
    is = (more_lines n h).0 ∙ ap (λ xs. xs ++ suc n ∷ []) l.is ∙ append_assoc (starts_to text o) l.rest (suc n ∷ []);
    after = one_more (λ i x. o < x) l.rest (suc n) l.after (omega (arith, le));
  }
  later_step o n le l (inr h) = record { rest = l.rest; is = (no_more_lines n h).0 ∙ l.is; after = l.after }

  later_same : (o n : ℕ) → o ≡ n → Later o n
  later_same o n e = record { rest = []; is = ap (starts_to text) (sym e) ∙ sym (append-nil (starts_to text o)); after = λ i h. absurd (omega (arith, h)) }

  later : (o n : ℕ) → o ≤ n → Later o n
  later o zero le = later_same o zero (omega (arith, le))
  later o (suc n) le = elim (cases_order o (suc n)) [
    | inl same ↦ later_same o (suc n) same
    | inr q ↦ elim q [
      | inl less ↦ later_step o n (omega (arith, less)) (later o n (omega (arith, less))) (bool_cases (starts_line text (suc n)))
      | inr more ↦ absurd (omega (arith, le, more))
    ]
  ]

  -- an offset's line among all lines
  pub at_line : (o n : ℕ) → o ≤ n → (line_number text o < length (starts_to text n)) × (get_or (starts_to text n) (line_number text o) 0 ≡ line_start text o)
  at_line o n le =
      let l = later o n le in
      let c = numbered o in
      (omega (arith, c.count, ap length l.is, length-append (starts_to text o) l.rest), ap (λ xs. get_or xs (line_number text o) 0) l.is ∙ get_left (starts_to text o) l.rest (line_number text o) (omega (arith, c.count)) ∙ c.last)

  pub found_line : (o n k : ℕ) → o ≤ n → k < length (starts_to text n) → get_or (starts_to text n) k 0 ≤ o → (k + 1 < length (starts_to text n) → o < get_or (starts_to text n) (k + 1) 0) → k ≡ line_number text o
  found_line o n k le within before last =
      let l = later o n le in
      let c = numbered o in
      elim (cases_order k (line_number text o)) [
        | inl same ↦ same
        | inr q ↦ elim q [
          | inl less ↦
              let below = c.below (k + 1) (omega (arith, less, c.count)) in
              let same : get_or (starts_to text n) (k + 1) 0 ≡ get_or (starts_to text o) (k + 1) 0 = ap (λ xs. get_or xs (k + 1) 0) l.is ∙ get_left (starts_to text o) l.rest (k + 1) (omega (arith, less, c.count)) in
              let b = last (omega (arith, less, c.count, ap length l.is, length-append (starts_to text o) l.rest)) in
              absurd (omega (arith, below, same, b))
          | inr more ↦
              let same : get_or (starts_to text n) k 0 ≡ get_or l.rest (k - length (starts_to text o)) 0 = ap (λ xs. get_or xs k 0) l.is ∙ get_right (starts_to text o) l.rest k (omega (arith, more, c.count)) in
              let b = l.after (k - length (starts_to text o)) (omega (arith, more, c.count, within, ap length l.is, length-append (starts_to text o) l.rest)) in
              absurd (omega (arith, same, b, before))
        ]
      ]

  -- the lines up to an offset's start at the offset or before it, and the next after it
  pub starts_before : (o n i : ℕ) → o ≤ n → i ≤ line_number text o → get_or (starts_to text n) i 0 ≤ o
  starts_before o n i le h =
      let l = later o n le in
      let c = numbered o in
      let below = c.below i (omega (arith, h, c.count)) in
      let same : get_or (starts_to text n) i 0 ≡ get_or (starts_to text o) i 0 = ap (λ xs. get_or xs i 0) l.is ∙ get_left (starts_to text o) l.rest i (omega (arith, h, c.count)) in
      omega (arith, below, same)

  pub starts_after : (o n : ℕ) → o ≤ n → line_number text o + 1 < length (starts_to text n) → o < get_or (starts_to text n) (line_number text o + 1) 0
  starts_after o n le h =
      let l = later o n le in
      let c = numbered o in
      let same : get_or (starts_to text n) (line_number text o + 1) 0 ≡ get_or l.rest (line_number text o + 1 - length (starts_to text o)) 0 = ap (λ xs. get_or xs (line_number text o + 1) 0) l.is ∙ get_right (starts_to text o) l.rest (line_number text o + 1) (omega (arith, c.count)) in
      let b = l.after (line_number text o + 1 - length (starts_to text o)) (omega (arith, c.count, h, ap length l.is, length-append (starts_to text o) l.rest)) in
      omega (arith, same, b)

  pub line_facts : (n k : ℕ) → k < length (starts_to text n) → (starts_line text (get_or (starts_to text n) k 0) ≡ true) × (line_number text (get_or (starts_to text n) k 0) ≡ k) × (get_or (starts_to text n) k 0 ≤ n)
  line_facts n k h = let c = numbered n in (c.each k h, c.number k h, c.below k h)

  pub start_below : (o : ℕ) → line_start text o ≤ o
  start_below o = let c = numbered o in let b = c.below (line_number text o) (omega (arith, c.count)) in omega (arith, b, c.last)

  -- numbers of lines grow
  pub count_lines : (o : ℕ) → length (starts_to text o) ≡ suc (line_number text o)
  count_lines o = let c = numbered o in c.count

  pub number_grows : (o n : ℕ) → o ≤ n → line_number text o ≤ line_number text n
  number_grows o n le = let l = later o n le in omega (arith, count_lines o, count_lines n, ap length l.is, length-append (starts_to text o) l.rest)
