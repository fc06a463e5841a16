-- The columns of a line's bytes, and what an index keeps of a line.
use Rattle.std.proofs.Common.{◌≡◌, inl, inr, ℕ, zero, suc, ◌+◌, ◌-◌, ◌*◌, ◌<◌, ◌≤◌, ◌==◌, ◌&&◌, Bool, true, false, cond, List, [], ◌∷◌, length, map, min, sum, take, drop, get_or, slice_range, nat_lt, refl, sym, ◌∙◌, ap, subst, arith, length-drop, length-take}
use Rattle.std.specs.List.{list_all}
use Rattle.std.proofs.lemmas.List.{get_or-drop, get_or-take, get_or-map, length-map, take-take, take-map}
use Rattle.std.proofs.lemmas.List.Sums.{sum_by-cons}
use Rattle.std.proofs.lemmas.Bool.{both_ways, cases_order, lt-ltb}
use Rattle.std.specs.Str.{IsAscii, IsNotAscii}
use Rattle.std.proofs.lemmas.Bool.Decides.{nat_tests}
use Rattle.pq_lex.specs.Classes.{is_continuation}
use Rattle.pq_lex.specs.Lines.{end_of_line, character_start, units_of, units}
use Rattle.pq_lex.specs.aux.LineMarks.{is_ascii, units_kept, lead_index, column_of, kept_column, IsByte}
use Rattle.pq_lex.proofs.LineLen.{is_break}
use Rattle.pq_lex.proofs.LineFacts.{bool_cases, break_at}
use Rattle.pq_lex.proofs.UnitLemmas.{lead_stop, lead_zero, lead_on}

pub unit_zero : (b : ℕ) → units_of b ≡ 0 → is_continuation b ≡ true
unit_zero b h = grind (arith, nat_tests)

pub continuation_unit : (b : ℕ) → is_continuation b ≡ true → units_of b ≡ 0
continuation_unit b h = grind (arith, nat_tests)

unit_two : (b : ℕ) → units_of b ≤ 2
unit_two b = grind (arith, nat_tests)

ascii_unit : (b : ℕ) → nat_lt b 128 ≡ true → units_of b ≡ 1
ascii_unit b h = rw h refl

break_no_continuation : (b : ℕ) → is_break b ≡ true → is_continuation b ≡ false
break_no_continuation b h = grind (arith, nat_tests)

past_end : (text : List ℕ) (i : ℕ) → length text ≤ i → get_or text i 0 ≡ 0
past_end [] i h = refl
past_end (x ∷ xs) zero h = absurd (omega (arith, h))
past_end (x ∷ xs) (suc i) h = past_end xs i (omega (arith, h))

pub end_starts : (text : List ℕ) (s : ℕ) → s ≤ length text → is_continuation (get_or text (end_of_line text s) 0) ≡ false
end_starts text s h = elim (cases_order (end_of_line text s) (length text)) [
  | inl same ↦ subst (λ b. is_continuation b ≡ false) (sym (past_end text (end_of_line text s) (omega (arith, same)))) refl
  | inr o ↦ elim o [
    | inl less ↦ break_no_continuation (get_or text (end_of_line text s) 0) (break_at text s h less)
    | inr more ↦ subst (λ b. is_continuation b ≡ false) (sym (past_end text (end_of_line text s) (omega (arith, more)))) refl
  ]
]

lead_le : (u : List ℕ) (i : ℕ) → lead_index u i ≤ i
unfolding lead_index
lead_le u zero = omega arith
lead_le u (suc i) = elim (nat_lt (suc i) (length u) && (get_or u (suc i) 0 == 0)) as (λ b. cond b (lead_index u i) (suc i) ≤ suc i) [ true ↦ omega (arith, lead_le u i) | false ↦ omega arith ]

module _ (text : List ℕ) where
  pub character_le : (o : ℕ) → character_start text o ≤ o
  unfolding character_start
  character_le zero = omega arith
  character_le (suc i) = elim (is_continuation (get_or text (suc i) 0)) as (λ b. cond b (character_start text i) (suc i) ≤ suc i) [ true ↦ omega (arith, character_le i) | false ↦ omega arith ]

  pub character_on : (i : ℕ) → is_continuation (get_or text (suc i) 0) ≡ true → character_start text (suc i) ≡ character_start text i
  unfolding character_start
  character_on i h = rw h refl

  character_here : (i : ℕ) → is_continuation (get_or text (suc i) 0) ≡ false → character_start text (suc i) ≡ suc i
  unfolding character_start
  character_here i h = rw h refl

  pub starts_character : (i : ℕ) → is_continuation (get_or text i 0) ≡ false → character_start text i ≡ i
  unfolding character_start
  starts_character zero h = refl
  starts_character (suc i) h = rw h refl

  module _ (s e : ℕ) (ordered : s ≤ e) (within : e ≤ length text) (stop : is_continuation (get_or text e 0) ≡ false) where
    pub line_length : length (slice_range text s e) ≡ e - s
    line_length = omega (arith, length-take (e - s) (drop s text), length-drop s text, within)

    pub row_length : length (map units_of (slice_range text s e)) ≡ e - s
    row_length = length-map (slice_range text s e) units_of ∙ line_length

    pub unit_at : (i : ℕ) → i < e - s → get_or (map units_of (slice_range text s e)) i 0 ≡ units_of (get_or text (s + i) 0)
    unit_at i h =
        let less : i < length (slice_range text s e) = omega (arith, line_length, h) in
        get_or-map units_of (slice_range text s e) i 0 0 less ∙ ap units_of (get_or-take (e - s) (drop s text) i 0 h ∙ get_or-drop s text i 0)

    pub lead_is : (r : ℕ) → r ≤ e - s → character_start text (s + r) - s ≡ lead_index (map units_of (slice_range text s e)) r
    lead_is zero h = let c : character_start text (s + 0) ≤ s + 0 = character_le (s + 0) in omega (arith, c, lead_zero (map units_of (slice_range text s e)))
    lead_is (suc r) h =
        let at : s + suc r ≡ suc (s + r) = omega arith in
        elim (bool_cases (is_continuation (get_or text (suc (s + r)) 0))) [
          | inl more ↦
              let less : suc r < e - s = elim (cases_order (suc r) (e - s)) [ inl same ↦ absurd (both_ways (is_continuation (get_or text e 0)) stop (subst (λ k. is_continuation (get_or text k 0) ≡ true) (let q : suc (s + r) ≡ e = omega (arith, same, ordered) in q) more)) | inr o ↦ elim o [ inl l ↦ l | inr m ↦ absurd (omega (arith, m, h)) ] ] in
              let unit : get_or (map units_of (slice_range text s e)) (suc r) 0 ≡ 0 = unit_at (suc r) less ∙ ap (λ k. units_of (get_or text k 0)) at ∙ continuation_unit (get_or text (suc (s + r)) 0) more in
              let on : lead_index (map units_of (slice_range text s e)) (suc r) ≡ lead_index (map units_of (slice_range text s e)) (suc r - 1) = lead_on (map units_of (slice_range text s e)) (suc r) (omega arith) (omega (arith, less, row_length)) unit in
              let back : lead_index (map units_of (slice_range text s e)) (suc r - 1) ≡ lead_index (map units_of (slice_range text s e)) r = ap (lead_index (map units_of (slice_range text s e))) (let q : suc r - 1 ≡ r = omega arith in q) in
              ap (λ k. character_start text k - s) at ∙ ap (λ k. k - s) (character_on (s + r) more) ∙ lead_is r (omega (arith, h)) ∙ sym (on ∙ back)
          | inr here ↦
              let stays : lead_index (map units_of (slice_range text s e)) (suc r) ≡ suc r = lead_stop (map units_of (slice_range text s e)) (suc r) (λ less z. both_ways (is_continuation (get_or text (suc (s + r)) 0)) here (unit_zero (get_or text (suc (s + r)) 0) (sym (ap (λ k. units_of (get_or text k 0)) at) ∙ sym (unit_at (suc r) (omega (arith, less, row_length))) ∙ z))) in
              let c : character_start text (s + suc r) ≡ suc (s + r) = ap (character_start text) at ∙ character_here (s + r) here in
              omega (arith, c, stays)
        ]

    pub column_is : (r : ℕ) → r ≤ e - s → column_of (map units_of (slice_range text s e)) r ≡ units (slice_range text s (character_start text (s + r)))
    column_is r h =
        let f : character_start text (s + r) - s ≡ lead_index (map units_of (slice_range text s e)) r = lead_is r h in
        let small : lead_index (map units_of (slice_range text s e)) r ≤ e - s = omega (arith, lead_le (map units_of (slice_range text s e)) r, h) in
        let front : take (lead_index (map units_of (slice_range text s e)) r) (map units_of (slice_range text s e)) ≡ map units_of (take (lead_index (map units_of (slice_range text s e)) r) (drop s text)) =
        take-map units_of (lead_index (map units_of (slice_range text s e)) r) (slice_range text s e) ∙ ap (map units_of) (take-take (lead_index (map units_of (slice_range text s e)) r) (e - s) (drop s text) small) in
        ap sum front ∙ ap (λ k. units (take k (drop s text))) (sym f)

pub both_parts : (p q : Bool) → (p && q) ≡ true → (p ≡ true) × (q ≡ true)
both_parts true true h = (refl, refl)
both_parts true false h = cc
both_parts false q h = cc

ascii_sum : (xs : List ℕ) (i : ℕ) → list_all (λ b. nat_lt b 128) xs ≡ true → i ≤ length xs → sum (take i (map units_of xs)) ≡ i
ascii_sum [] zero h e = refl
ascii_sum [] (suc i) h e = absurd (omega (arith, e))
ascii_sum (x ∷ xs) zero h e = refl
ascii_sum (x ∷ xs) (suc i) h e =
    let p : (nat_lt x 128 ≡ true) × (list_all (λ b. nat_lt b 128) xs ≡ true) = both_parts _ _ h in
    omega (arith, sum_by-cons (λ y. y) (units_of x) (take i (map units_of xs)), ascii_unit x p.0, ascii_sum xs i p.1 (omega (arith, e)))

ascii_at : (xs : List ℕ) (i : ℕ) → list_all (λ b. nat_lt b 128) xs ≡ true → i < length xs → get_or (map units_of xs) i 0 ≡ 1
ascii_at [] i h e = absurd (omega (arith, e))
ascii_at (x ∷ xs) zero h e = ascii_unit x (both_parts _ _ h).0
ascii_at (x ∷ xs) (suc i) h e = ascii_at xs i (both_parts _ _ h).1 (omega (arith, e))

ascii_column : (xs : List ℕ) (i : ℕ) → is_ascii xs ≡ true → i ≤ length xs → column_of (map units_of xs) i ≡ i
ascii_column xs i h e =
    let f : lead_index (map units_of xs) i ≡ i = lead_stop (map units_of xs) i (λ less z. let one = ascii_at xs i h (omega (arith, less, length-map xs units_of)) in omega (arith, one, z)) in
    ap (λ k. sum (take k (map units_of xs))) f ∙ ascii_sum xs i h e

more_than_none : (n : ℕ) → (suc n == 0) ≡ false
more_than_none n = grind (arith, nat_tests)

pub nonempty_row : (xs : List ℕ) → is_ascii xs ≡ false → (length (map units_of xs) == 0) ≡ false
nonempty_row [] h = cc
nonempty_row (x ∷ xs) h = more_than_none (length (map units_of xs))

pub kept_is : (xs : List ℕ) (i : ℕ) → i ≤ length xs → kept_column (units_kept xs) i ≡ column_of (map units_of xs) i
kept_is xs i e = elim (bool_cases (is_ascii xs)) [
  | inl plain ↦ ap (λ b. kept_column (cond b [] (map units_of xs)) i) plain ∙ sym (ascii_column xs i plain e)
  | inr wide ↦ ap (λ b. kept_column (cond b [] (map units_of xs)) i) wide ∙ ap (λ b. cond b i (column_of (map units_of xs) i)) (nonempty_row xs wide)
]

pub row_sum : (xs : List ℕ) → sum (map units_of xs) ≤ 2 * length xs
row_sum [] = omega arith
row_sum (x ∷ xs) = omega (arith, sum_by-cons (λ y. y) (units_of x) (map units_of xs), unit_two x, row_sum xs)

pub kept_sum : (xs : List ℕ) → sum (units_kept xs) ≤ 2 * length xs
kept_sum xs = elim (is_ascii xs) as (λ b. sum (cond b [] (map units_of xs)) ≤ 2 * length xs) [ true ↦ omega arith | false ↦ row_sum xs ]

pub kept_length : (xs : List ℕ) → 0 < length (units_kept xs) → length (units_kept xs) ≡ length xs
kept_length xs = elim (is_ascii xs) as (λ b. 0 < length (cond b [] (map units_of xs)) → length (cond b [] (map units_of xs)) ≡ length xs) [ true ↦ λ h. absurd (omega (arith, h)) | false ↦ λ h. length-map xs units_of ]

-- the byte at a column of a line of ASCII
pub ascii_byte : (xs : List ℕ) (column : ℕ) → is_ascii xs ≡ true → IsByte (map units_of xs) column (min column (length xs))
ascii_byte xs column h = record {
  within = omega (arith, length-map xs units_of);
  start = λ less z. let one = ascii_at xs (min column (length xs)) h (omega (arith, less, length-map xs units_of)) in omega (arith, one, z);
  fits = let f = ascii_sum xs (min column (length xs)) h (omega arith) in omega (arith, f);
  most = λ q more within. let f = ascii_sum xs q h (omega (arith, within, length-map xs units_of)) in omega (arith, f, more, within, length-map xs units_of);
}

-- nothing is kept of a line of ASCII, and each byte's units of another
pub plain_is : (xs : List ℕ) → IsAscii xs → is_ascii xs ≡ true
plain_is [] h = refl
plain_is (x ∷ xs) h = rw (lt-ltb x 128 (h 0), plain_is xs (λ i. h (suc i))) refl

pub kept_plain : (xs : List ℕ) → IsAscii xs → units_kept xs ≡ []
kept_plain xs h = ap (λ b. cond b [] (map units_of xs)) (plain_is xs h)

not_plain : (xs : List ℕ) (i : ℕ) → 128 ≤ get_or xs i 0 → is_ascii xs ≡ false
not_plain [] i h = absurd (omega (arith, h))
not_plain (x ∷ xs) zero h = let e : nat_lt x 128 ≡ false = grind (arith, nat_tests) in rw e refl
not_plain (x ∷ xs) (suc i) h = rw (not_plain xs i h) (elim (nat_lt x 128) as (λ b. (b && false) ≡ false) [ true ↦ refl | false ↦ refl ])

pub kept_wide : (xs : List ℕ) → IsNotAscii xs → units_kept xs ≡ map units_of xs
kept_wide xs h = ap (λ b. cond b [] (map units_of xs)) (not_plain xs h.0 h.1)

pub wide_some : (xs : List ℕ) → IsNotAscii xs → 0 < length (map units_of xs)
wide_some [] h = absurd (let z = h.1 in omega (arith, z))
wide_some (x ∷ xs) h = omega arith

-- a part of ASCII is ASCII
pub plain_part : (xs : List ℕ) (s e : ℕ) → IsAscii xs → IsAscii (slice_range xs s e)
plain_part xs s e h i = elim (cases_order i (e - s)) [
  | inl same ↦ none (omega (arith, same))
  | inr o ↦ elim o [
    | inl less ↦ subst (λ b. b < 128) (sym (get_or-take (e - s) (drop s xs) i 0 less ∙ get_or-drop s xs i 0)) (h (s + i))
    | inr more ↦ none (omega (arith, more))
  ]
]
  where
    none : e - s ≤ i → get_or (slice_range xs s e) i 0 < 128
    none le = subst (λ b. b < 128) (sym (past_end (slice_range xs s e) i (omega (arith, le, length-take (e - s) (drop s xs))))) (omega arith)
