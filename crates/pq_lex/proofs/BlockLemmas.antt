-- The lines and the units of a text that is made of parts.
use Rattle.std.proofs.Common.{◌≡◌, inl, inr, ℕ, zero, suc, ◌+◌, ◌-◌, ◌*◌, ◌<◌, ◌≤◌, ◌==◌, ◌||◌, ◌&&◌, not, Bool, true, false, cond, List, [], ◌∷◌, ◌++◌, length, map, sum, take, drop, get_or, slice_range, refl, sym, ◌∙◌, ap, subst, arith, add-one, length-append, length-take}
use Rattle.std.proofs.lemmas.Bool.{cases_order, eqb-true}
use Rattle.std.proofs.lemmas.Bool.Decides.{nat_tests}
use Rattle.std.proofs.lemmas.List.{drop-map, get_or-append-add, get_or-map, length-map, map-append, take-append-le, take-map, take_all}
use Rattle.std.proofs.Math.Seq.{drop-append_seam, take-append-add, take-append_seam}
use Rattle.std.proofs.lemmas.List.Sums.{sum_by-append}
use Rattle.pq_lex.specs.Lines.{end_of_line, line_len, line_number, starts_line, units, units_of}
use Rattle.pq_lex.specs.aux.Blocks.{lines_in}
use Rattle.pq_lex.specs.aux.LineMarks.{IsByte}
use Rattle.pq_lex.specs.aux.LineSearch.{IsLine}
use Rattle.pq_lex.proofs.Columns.{row_sum}
use Rattle.pq_lex.proofs.Counts.{byte_from}
use Rattle.pq_lex.proofs.LineFacts.{bool_cases}
use Rattle.pq_lex.proofs.LineLen.{is_break}
use Rattle.pq_lex.proofs.LineSearch.{one_at_most, one_counted}
use Rattle.pq_lex.proofs.Positions.{get_left}
use Rattle.pq_lex.proofs.UnitLemmas.{sum_take}

pub no_number : (text : List ℕ) → line_number text 0 ≡ 0
unfolding line_number
no_number text = refl

-- 1 if a line starts between the bytes `b` and `next`
abbrev pub count_of : ℕ → ℕ → ℕ
count_of b next = cond (b == 10 || (b == 13 && not (next == 10))) 1 0

count_le : (b next : ℕ) → count_of b next ≤ count_of b 0
count_le b next = go (b == 10) (b == 13) (not (next == 10))
  where
    go : (p q r : Bool) → cond (p || (q && r)) 1 0 ≤ cond (p || (q && true)) 1 0
    go true q r = omega arith
    go false false r = omega arith
    go false true true = omega arith
    go false true false = omega arith

end_zero : (xs : List ℕ) → get_or xs (length xs) 0 ≡ 0
end_zero [] = refl
end_zero (x ∷ xs) = end_zero xs

-- a line's number rests on the bytes up to its start
pub number_agrees : (xs ys : List ℕ) (n : ℕ) → ((i : ℕ) → i ≤ n → get_or xs i 0 ≡ get_or ys i 0) → line_number xs n ≡ line_number ys n
number_agrees xs ys zero h = no_number xs ∙ sym (no_number ys)
number_agrees xs ys (suc n) h =
    let before = number_agrees xs ys n (λ i le. h i (omega (arith, le))) in
    let here : get_or xs n 0 ≡ get_or ys n 0 = h n (omega arith) in
    let after : get_or xs (n + 1) 0 ≡ get_or ys (n + 1) 0 = h (n + 1) (omega arith) in
    let more : count_of (get_or xs n 0) (get_or xs (n + 1) 0) ≡ count_of (get_or ys n 0) (get_or ys (n + 1) 0) = rw (here, after) refl in
    let one = one_counted xs n in
    let other = one_counted ys n in
    ap (line_number xs) (sym (add-one n)) ∙ (let e : line_number xs (n + 1) ≡ line_number ys (n + 1) = omega (arith, one, other, before, more) in e) ∙ ap (line_number ys) (add-one n)

-- the lines after a part
pub number_after : (front back : List ℕ) (n : ℕ) → line_number (front ++ back) (length front + n) ≡ line_number (front ++ back) (length front) + line_number back n
number_after front back zero = let z = no_number back in let e : length front + 0 ≡ length front = omega arith in omega (arith, z, ap (line_number (front ++ back)) e)
number_after front back (suc n) =
    let before = number_after front back n in
    let one = one_counted (front ++ back) (length front + n) in
    let other = one_counted back n in
    let here : get_or (front ++ back) (length front + n) 0 ≡ get_or back n 0 = get_or-append-add front back n 0 in
    let sum_is : length front + n + 1 ≡ length front + (n + 1) = omega arith in
    let after : get_or (front ++ back) (length front + n + 1) 0 ≡ get_or back (n + 1) 0 = ap (λ k. get_or (front ++ back) k 0) sum_is ∙ get_or-append-add front back (n + 1) 0 in
    let more : count_of (get_or (front ++ back) (length front + n) 0) (get_or (front ++ back) (length front + n + 1) 0) ≡ count_of (get_or back n 0) (get_or back (n + 1) 0) = rw (here, after) refl in
    let there : length front + suc n ≡ length front + n + 1 = omega arith in
    let last : suc n ≡ n + 1 = omega arith in
    omega (arith, before, one, other, more, ap (line_number (front ++ back)) there, ap (line_number back) last)

-- a part with the byte after it, and with what comes after it
pub next_agrees : (bytes back : List ℕ) (next i : ℕ) → next ≡ get_or back 0 0 → i ≤ length bytes → get_or (bytes ++ back) i 0 ≡ get_or (bytes ++ next ∷ []) i 0
next_agrees bytes back next i e le = elim (cases_order i (length bytes)) [
  | inl same ↦
      let there : i ≡ length bytes + 0 = omega (arith, same) in
      ap (λ k. get_or (bytes ++ back) k 0) there ∙ get_or-append-add bytes back 0 0 ∙ sym e ∙ sym (get_or-append-add bytes (next ∷ []) 0 0) ∙ ap (λ k. get_or (bytes ++ next ∷ []) k 0) (sym there)
  | inr o ↦ elim o [
    | inl less ↦ get_left bytes back i less ∙ sym (get_left bytes (next ∷ []) i less)
    | inr more ↦ absurd (omega (arith, more, le))
  ]
]

pub number_within : (front bytes back : List ℕ) (next i : ℕ) → next ≡ get_or back 0 0 → i ≤ length bytes → line_number (front ++ (bytes ++ back)) (length front + i) ≡ line_number (front ++ (bytes ++ back)) (length front) + line_number (bytes ++ next ∷ []) i
number_within front bytes back next i e le =
    let a = number_after front (bytes ++ back) i in
    let b = number_agrees (bytes ++ back) (bytes ++ next ∷ []) i (λ j h. next_agrees bytes back next j e (omega (arith, h, le))) in
    omega (arith, a, b)

-- the start of a line, by two texts that agree
starts_agrees : (xs ys : List ℕ) (n : ℕ) → ((i : ℕ) → i ≤ n → get_or xs i 0 ≡ get_or ys i 0) → starts_line xs n ≡ starts_line ys n
unfolding starts_line
starts_agrees xs ys zero h = refl
starts_agrees xs ys (suc n) h =
    let here : get_or xs n 0 ≡ get_or ys n 0 = h n (omega arith) in
    let after : get_or xs (suc n) 0 ≡ get_or ys (suc n) 0 = h (suc n) (omega arith) in
    rw (here, after) refl

starts_after_part : (front back : List ℕ) (n : ℕ) → 0 < n → starts_line (front ++ back) (length front + n) ≡ starts_line back n
unfolding starts_line
starts_after_part front back zero some = absurd (omega (arith, some))
starts_after_part front back (suc n) some =
    let here : get_or (front ++ back) (length front + n) 0 ≡ get_or back n 0 = get_or-append-add front back n 0 in
    let after : get_or (front ++ back) (suc (length front + n)) 0 ≡ get_or back (suc n) 0 = ap (λ k. get_or (front ++ back) k 0) (let e : suc (length front + n) ≡ length front + suc n = omega arith in e) ∙ get_or-append-add front back (suc n) 0 in
    ap (starts_line (front ++ back)) (let e : length front + suc n ≡ suc (length front + n) = omega arith in e) ∙ rw (here, after) refl

-- a line that starts after the last byte counts one
number_on : (text : List ℕ) (n : ℕ) → starts_line text (suc n) ≡ true → line_number text (suc n) ≡ suc (line_number text n)
unfolding line_number
number_on text n h = rw h refl

number_off : (text : List ℕ) (n : ℕ) → starts_line text (suc n) ≡ false → line_number text (suc n) ≡ line_number text n
unfolding line_number
number_off text n h = rw h refl

line_starts_on : (text : List ℕ) → starts_line text 0 ≡ true
unfolding starts_line
line_starts_on text = refl

-- the line that a search of a block finds starts there in the block with its next byte, too
pub line_with_next : (bytes : List ℕ) (next n i : ℕ) → n ≤ lines_in bytes next → IsLine bytes n i → (line_number (bytes ++ next ∷ []) i ≡ n) × (0 < n → starts_line (bytes ++ next ∷ []) i ≡ true)
line_with_next bytes next n zero le l = (no_number (bytes ++ next ∷ []) ∙ sym (no_number bytes) ∙ l.number, λ _. line_starts_on (bytes ++ next ∷ []))
line_with_next bytes next n (suc i) le l = elim (cases_order (suc i) (length bytes)) [
  | inl same ↦ last same
  | inr o ↦ elim o [
    | inl less ↦ (
      number_agrees (bytes ++ next ∷ []) bytes (suc i) (λ j h. get_left bytes (next ∷ []) j (omega (arith, h, less))) ∙ l.number,
      λ _. starts_agrees (bytes ++ next ∷ []) bytes (suc i) (λ j h. get_left bytes (next ∷ []) j (omega (arith, h, less))) ∙ l.starts,
    )
    | inr more ↦ absurd (let w = l.within in omega (arith, more, w))
  ]
]
  where
    last : suc i ≡ length bytes → (line_number (bytes ++ next ∷ []) (suc i) ≡ n) × (0 < n → starts_line (bytes ++ next ∷ []) (suc i) ≡ true)
    last same =
        let before : line_number (bytes ++ next ∷ []) i ≡ line_number bytes i = number_agrees (bytes ++ next ∷ []) bytes i (λ j h. get_left bytes (next ∷ []) j (omega (arith, h, same))) in
        let on = number_on bytes i l.starts in
        let is = l.number in
        let high : n ≤ line_number (bytes ++ next ∷ []) (suc i) = subst (λ k. n ≤ line_number (bytes ++ next ∷ []) k) (sym same) le in
        elim (bool_cases (starts_line (bytes ++ next ∷ []) (suc i))) [
          | inl starts ↦ (let more = number_on (bytes ++ next ∷ []) i starts in omega (arith, more, before, on, is), λ _. starts)
          | inr not ↦ absurd (let off = number_off (bytes ++ next ∷ []) i not in omega (arith, off, before, on, is, high))
        ]

-- and so it does in the text
pub line_in_text : (front bytes back : List ℕ) (next n line i : ℕ) → next ≡ get_or back 0 0 → line_number (front ++ (bytes ++ back)) (length front) + n ≡ line → n ≤ lines_in bytes next → (n ≡ 0 → length front ≡ 0) → IsLine bytes n i → IsLine (front ++ (bytes ++ back)) line (length front + i)
line_in_text front bytes back next n line i e sum_is le zero_is l =
    let w = l.within in
    let local = line_with_next bytes next n i le l in
    record {
      within = omega (arith, w, length-append front (bytes ++ back), length-append bytes back);
      starts = begins i w local.1 l.starts l.number;
      number = let c = number_within front bytes back next i e w in omega (arith, c, local.0, sum_is);
    }
  where
    begins : (i : ℕ) → i ≤ length bytes → (0 < n → starts_line (bytes ++ next ∷ []) i ≡ true) → starts_line bytes i ≡ true → line_number bytes i ≡ n → starts_line (front ++ (bytes ++ back)) (length front + i) ≡ true
    begins zero w s on is =
        let none : length front ≡ 0 = zero_is (let z = no_number bytes in omega (arith, z, is)) in
        subst (λ k. starts_line (front ++ (bytes ++ back)) k ≡ true) (let q : 0 ≡ length front + 0 = omega (arith, none) in q) (line_starts_on (front ++ (bytes ++ back)))
    begins (suc i) w s on is = elim (cases_order 0 n) [
      | inl same ↦ absurd (let one = number_on bytes i on in omega (arith, one, is, same))
      | inr o ↦ elim o [
        | inl some ↦ starts_after_part front (bytes ++ back) (suc i) (omega arith) ∙ starts_agrees (bytes ++ back) (bytes ++ next ∷ []) (suc i) (λ j h. next_agrees bytes back next j e (omega (arith, h, w))) ∙ s some
        | inr more ↦ absurd (omega (arith, more))
      ]
    ]

-- each number up to that of an offset is the number of an offset before it
pub some_line : (text : List ℕ) (n wanted : ℕ) → wanted ≤ line_number text n → ((o : ℕ) → o ≤ n → line_number text o ≡ wanted → ⊥) → ⊥
some_line text zero wanted le none = none 0 (omega arith) (let z = no_number text in omega (arith, z, le))
some_line text (suc n) wanted le none = elim (cases_order wanted (line_number text (suc n))) [
  | inl same ↦ none (suc n) (omega arith) (sym same)
  | inr o ↦ elim o [
    | inl less ↦ some_line text n wanted (below less) (λ o h. none o (omega (arith, h)))
    | inr more ↦ omega (arith, more, le)
  ]
]
  where
    below : wanted < line_number text (suc n) → wanted ≤ line_number text n
    below less = elim (bool_cases (starts_line text (suc n))) [
      | inl starts ↦ let on = number_on text n starts in omega (arith, on, less)
      | inr not ↦ let off = number_off text n not in omega (arith, off, less)
    ]

-- the number of lines with any byte after them is at most that with none
pub lines_le : (bytes : List ℕ) (next : ℕ) → lines_in bytes next ≤ line_number bytes (length bytes)
lines_le bytes next = go (length bytes) (omega arith)
  where
    go : (n : ℕ) → n ≤ length bytes → line_number (bytes ++ next ∷ []) n ≤ line_number bytes n
    go zero h = let a = no_number (bytes ++ next ∷ []) in omega (arith, a)
    go (suc n) h = elim (cases_order (suc n) (length bytes)) [
      | inl same ↦ last n same (go n (omega (arith, h)))
      | inr o ↦ elim o [
        | inl less ↦ let a = number_agrees (bytes ++ next ∷ []) bytes (suc n) (λ j l. get_left bytes (next ∷ []) j (omega (arith, l, less))) in omega (arith, a)
        | inr more ↦ absurd (omega (arith, more, h))
      ]
    ]
      where
        last : (n : ℕ) → suc n ≡ length bytes → line_number (bytes ++ next ∷ []) n ≤ line_number bytes n → line_number (bytes ++ next ∷ []) (suc n) ≤ line_number bytes (suc n)
        last n same before =
            let one = one_counted (bytes ++ next ∷ []) n in
            let other = one_counted bytes n in
            let here : get_or (bytes ++ next ∷ []) n 0 ≡ get_or bytes n 0 = get_left bytes (next ∷ []) n (omega (arith, same)) in
            let there : n + 1 ≡ length bytes = omega (arith, same) in
            let none : get_or bytes (n + 1) 0 ≡ 0 = ap (λ k. get_or bytes k 0) there ∙ end_zero bytes in
            let at : length bytes ≡ length bytes + 0 = omega arith in
            let byte : get_or (bytes ++ next ∷ []) (n + 1) 0 ≡ next = ap (λ k. get_or (bytes ++ next ∷ []) k 0) (there ∙ at) ∙ get_or-append-add bytes (next ∷ []) 0 0 in
            let a : count_of (get_or (bytes ++ next ∷ []) n 0) (get_or (bytes ++ next ∷ []) (n + 1) 0) ≡ count_of (get_or bytes n 0) next = rw (here, byte) refl in
            let b : count_of (get_or bytes n 0) (get_or bytes (n + 1) 0) ≡ count_of (get_or bytes n 0) 0 = rw none refl in
            let c = count_le (get_or bytes n 0) next in
            let last : suc n ≡ n + 1 = omega arith in
            omega (arith, one, other, a, b, c, before, ap (line_number (bytes ++ next ∷ [])) last, ap (line_number bytes) last)

-- the end of a line that goes on after a part
len_left_go : (x : ℕ) (xs ys : List ℕ) → (line_len xs < length xs → line_len (xs ++ ys) ≡ line_len xs) → (b : Bool) → cond b 0 (suc (line_len xs)) < length (x ∷ xs) → cond b 0 (suc (line_len (xs ++ ys))) ≡ cond b 0 (suc (line_len xs))
len_left_go x xs ys next true less = refl
len_left_go x xs ys next false less = ap suc (next (omega (arith, less)))

pub len_left : (xs ys : List ℕ) → line_len xs < length xs → line_len (xs ++ ys) ≡ line_len xs
unfolding line_len
len_left [] ys h = absurd (omega (arith, h))
len_left (x ∷ xs) ys h = len_left_go x xs ys (len_left xs ys) (is_break x) h

len_over_go : (x : ℕ) (xs ys : List ℕ) → (line_len xs ≡ length xs → line_len (xs ++ ys) ≡ length xs + line_len ys) → (b : Bool) → cond b 0 (suc (line_len xs)) ≡ length (x ∷ xs) → cond b 0 (suc (line_len (xs ++ ys))) ≡ length (x ∷ xs) + line_len ys
len_over_go x xs ys next true same = absurd (omega (arith, same))
len_over_go x xs ys next false same = let more = next (omega (arith, same)) in omega (arith, more)

pub len_over : (xs ys : List ℕ) → line_len xs ≡ length xs → line_len (xs ++ ys) ≡ length xs + line_len ys
unfolding line_len
len_over [] ys h = omega arith
len_over (x ∷ xs) ys h = len_over_go x xs ys (len_over xs ys) (is_break x) h

-- the first line of a text
abbrev pub row : List ℕ → List ℕ
row xs = take (line_len xs) xs

pub row_left : (xs ys : List ℕ) → line_len xs < length xs → row (xs ++ ys) ≡ row xs
row_left xs ys h = ap (λ n. take n (xs ++ ys)) (len_left xs ys h) ∙ take-append-le (line_len xs) xs ys (omega (arith, h))

pub row_over : (xs ys : List ℕ) → line_len xs ≡ length xs → row (xs ++ ys) ≡ xs ++ row ys
row_over xs ys h = ap (λ n. take n (xs ++ ys)) (len_over xs ys h) ∙ take-append-add xs ys (line_len ys)

pub row_is : (text : List ℕ) (s : ℕ) → slice_range text s (end_of_line text s) ≡ row (drop s text)
row_is text s = ap (λ n. take n (drop s text)) (let e : s + line_len (drop s text) - s ≡ line_len (drop s text) = omega arith in e)

-- units
pub units_append : (xs ys : List ℕ) → units (xs ++ ys) ≡ units xs + units ys
units_append xs ys = ap sum (map-append units_of xs ys) ∙ sum_by-append (λ x. x) (map units_of xs) (map units_of ys)

pub units_le : (xs : List ℕ) → units xs ≤ 2 * length xs
units_le xs = row_sum xs

-- a byte found in a part is found in the whole
byte_left : (us vs : List ℕ) (left at : ℕ) → left < sum us → IsByte us left at → IsByte (us ++ vs) left at
byte_left us vs left at less b = record {
  within = omega (arith, low, length-append us vs);
  start = λ h z. b.start low (sym (get_left us vs at low) ∙ z);
  fits = subst (λ s. s ≤ left) (sym (ap sum (take-append-le at us vs (omega (arith, low))))) b.fits;
  most = λ q more inside. elim (cases_order q (length us)) [
    | inl same ↦ subst (λ s. left < s) (sym (ap sum (take-append-le q us vs (omega (arith, same))))) (b.most q more (omega (arith, same)))
    | inr o ↦ elim o [
      | inl below ↦ subst (λ s. left < s) (sym (ap sum (take-append-le q us vs (omega (arith, below))))) (b.most q more (omega (arith, below)))
      | inr above ↦
          let over : length us + (q - length us) ≡ q = omega (arith, above) in
          let parts : take q (us ++ vs) ≡ us ++ take (q - length us) vs = ap (λ k. take k (us ++ vs)) (sym over) ∙ take-append-add us vs (q - length us) in
          let sums = sum_by-append (λ x. x) us (take (q - length us) vs) in
          omega (arith, less, ap sum parts, sums)
    ]
  ];
}
  where
    low : at < length us
    low = elim (cases_order at (length us)) [
      | inl same ↦ absurd (let f = b.fits in omega (arith, f, less, ap sum (take_all at us (omega (arith, same)))))
      | inr o ↦ elim o [
        | inl l ↦ l
        | inr more ↦ absurd (let w = b.within in omega (arith, more, w))
      ]
    ]

pub byte_over : (us vs : List ℕ) (left at : ℕ) → IsByte vs left at → IsByte (us ++ vs) (left + sum us) (length us + at)
byte_over us vs left at b =
    let front_is : sum (take (length us) (us ++ vs)) ≡ sum us = ap sum (take-append_seam us vs) in
    byte_from (us ++ vs) (left + sum us) (length us) at (omega (arith, length-append us vs)) (omega (arith, front_is))
    (subst (λ r. IsByte r (left + sum us - sum (take (length us) (us ++ vs))) at) (sym (drop-append_seam us vs))
    (subst (λ k. IsByte vs k at) (let e : left ≡ left + sum us - sum (take (length us) (us ++ vs)) = omega (arith, front_is) in e) b))

-- the byte at a column of the first line of a text that has a part
pub column_here : (xs ys : List ℕ) (column at : ℕ) → line_len xs < length xs → IsByte (map units_of (row xs)) column at → IsByte (map units_of (row (xs ++ ys))) column at
column_here xs ys column at h b = subst (λ r. IsByte (map units_of r) column at) (sym (row_left xs ys h)) b

pub column_in : (xs ys : List ℕ) (column at : ℕ) → line_len xs ≡ length xs → column < units xs → IsByte (map units_of xs) column at → IsByte (map units_of (row (xs ++ ys))) column at
column_in xs ys column at h less b =
    subst (λ r. IsByte r column at) (sym (ap (map units_of) (row_over xs ys h) ∙ map-append units_of xs (row ys))) (byte_left (map units_of xs) (map units_of (row ys)) column at less b)

pub column_after : (xs ys : List ℕ) (column at : ℕ) → line_len xs ≡ length xs → IsByte (map units_of (row ys)) column at → IsByte (map units_of (row (xs ++ ys))) (column + units xs) (length xs + at)
column_after xs ys column at h b =
    subst (λ n. IsByte (map units_of (row (xs ++ ys))) (column + units xs) (n + at)) (length-map xs units_of)
    (subst (λ r. IsByte r (column + units xs) (length (map units_of xs) + at)) (sym (ap (map units_of) (row_over xs ys h) ∙ map-append units_of xs (row ys))) (byte_over (map units_of xs) (map units_of (row ys)) column at b))

-- the lines up to the end, by those up to the last byte
pub lines_end : (bytes : List ℕ) (next : ℕ) → 0 < length bytes → line_number bytes (length bytes - 1) + count_of (get_or bytes (length bytes - 1) 0) next ≡ lines_in bytes next
lines_end bytes next some =
    let all : length bytes - 1 + 1 ≡ length bytes = omega (arith, some) in
    let before = number_agrees (bytes ++ next ∷ []) bytes (length bytes - 1) (λ j h. get_left bytes (next ∷ []) j (omega (arith, h, some))) in
    let one = one_counted (bytes ++ next ∷ []) (length bytes - 1) in
    let here : get_or (bytes ++ next ∷ []) (length bytes - 1) 0 ≡ get_or bytes (length bytes - 1) 0 = get_left bytes (next ∷ []) (length bytes - 1) (omega (arith, some)) in
    let at : length bytes ≡ length bytes + 0 = omega arith in
    let byte : get_or (bytes ++ next ∷ []) (length bytes - 1 + 1) 0 ≡ next = ap (λ k. get_or (bytes ++ next ∷ []) k 0) (all ∙ at) ∙ get_or-append-add bytes (next ∷ []) 0 0 in
    let a : count_of (get_or (bytes ++ next ∷ []) (length bytes - 1) 0) (get_or (bytes ++ next ∷ []) (length bytes - 1 + 1) 0) ≡ count_of (get_or bytes (length bytes - 1) 0) next = rw (here, byte) refl in
    omega (arith, one, a, before, ap (line_number (bytes ++ next ∷ [])) all)

pub lines_none : (bytes : List ℕ) (next : ℕ) → length bytes ≡ 0 → 0 ≡ lines_in bytes next
lines_none bytes next e = sym (ap (line_number (bytes ++ next ∷ [])) e ∙ no_number (bytes ++ next ∷ []))

pub is_zero : (n : ℕ) → true ≡ (n == 0) → n ≡ 0
is_zero n h = eqb-true n 0 (sym h)

-- the units of one byte more
pub unit_le : (b : ℕ) → units_of b ≤ 2
unit_le b = grind (arith, nat_tests)

pub one_unit : (xs : List ℕ) (i : ℕ) → i < length xs → sum (take (i + 1) (map units_of xs)) ≡ sum (take i (map units_of xs)) + units_of (get_or xs i 0)
one_unit xs i h =
    let unit : get_or (map units_of xs) i 0 ≡ units_of (get_or xs i 0) = get_or-map units_of xs i 0 0 h in
    let more = sum_take (map units_of xs) i (omega (arith, h, length-map xs units_of)) in
    omega (arith, unit, more)

pub no_units : (xs : List ℕ) → sum (take 0 (map units_of xs)) ≡ 0
no_units xs = refl

pub all_units : (xs : List ℕ) (n : ℕ) → length xs ≤ n → sum (take n (map units_of xs)) ≡ units xs
all_units xs n h = ap sum (take_all n (map units_of xs) (omega (arith, h, length-map xs units_of)))

pub units_to_le : (xs : List ℕ) (n : ℕ) → sum (take n (map units_of xs)) ≤ 2 * n
units_to_le xs n =
    let front = take-map units_of n xs in
    let small = row_sum (take n xs) in
    omega (arith, ap sum front, small, length-take n xs)

-- the byte at a column, sought from a byte before it
pub byte_after : (xs : List ℕ) (column at left r : ℕ) → at ≤ length xs → left + sum (take at (map units_of xs)) ≡ column → IsByte (map units_of (drop at xs)) left r → IsByte (map units_of xs) column (at + r)
byte_after xs column at left r within is b =
    byte_from (map units_of xs) column at r (omega (arith, within, length-map xs units_of)) (omega (arith, is))
    (subst (λ us. IsByte us (column - sum (take at (map units_of xs))) r) (sym (drop-map units_of at xs))
    (subst (λ k. IsByte (map units_of (drop at xs)) k r) (let e : left ≡ column - sum (take at (map units_of xs)) = omega (arith, is) in e) b))

pub number_le : (text : List ℕ) (n : ℕ) → line_number text n ≤ n
number_le text zero = let z = no_number text in omega (arith, z)
number_le text (suc n) =
    let before = number_le text n in
    let one = one_counted text n in
    let small = one_at_most (get_or text n 0) (get_or text (n + 1) 0) (count_of (get_or text n 0) (get_or text (n + 1) 0)) refl in
    let last : suc n ≡ n + 1 = omega arith in
    omega (arith, before, one, small, ap (line_number text) last)
