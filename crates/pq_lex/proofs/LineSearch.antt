-- What a search line by line finds, and where a text may be cut.
use Rattle.std.proofs.Common.{◌≡◌, inl, inr, ℕ, zero, suc, ◌+◌, ◌<◌, ◌≤◌, ◌==◌, ◌&&◌, ◌||◌, not, Bool, true, false, cond, List, [], ◌∷◌, length, get_or, nat_le, nat_lt, Option, Some, None, refl, sym, ◌∙◌, ap, subst, arith, add-one, length-append}
use Rattle.std.specs.List.{replace_range}
use Rattle.std.specs.String.Boundary.{IsSplitPoint}
use Rattle.std.proofs.lemmas.Bool.{both_ways, cases_order, eqb-true, lt-ltb}
use Rattle.std.proofs.lemmas.Bool.Decides.{nat_tests}
use Rattle.pq_lex.specs.declared.position.Position.{Position}
use Rattle.pq_lex.specs.Classes.{is_continuation}
use Rattle.pq_lex.specs.Lines.{starts_line, line_number, line_len, end_of_line, character_start, IsBefore, IsOffset}
use Rattle.pq_lex.specs.TextChanges.{is_before, last_before, offset_of, replace_between}
use Rattle.pq_lex.specs.aux.LineMarks.{lines_of, offset_in, starts_to}
use Rattle.pq_lex.specs.aux.LineSearch.{Bounds, IsLine, IsLineFound}
use Rattle.pq_lex.proofs.Columns.{both_parts, character_le, character_on}
use Rattle.pq_lex.proofs.LineLen.{is_break, len_within, len_plain, len_break}
use Rattle.pq_lex.proofs.LineFacts.{bool_cases, next_line, same_number}
use Rattle.pq_lex.proofs.Offsets.{not_less, offsets}
use Rattle.pq_lex.proofs.Positions.{count_lines, number_grows}

same_test : (a b : ℕ) → a ≡ b → (a == b) ≡ true
same_test a b h = grind (arith, nat_tests)

le_test : (a b : ℕ) → a ≤ b → nat_le a b ≡ true
le_test a b h = grind (arith, nat_tests)

le_of : (a b : ℕ) → nat_le a b ≡ true → a ≤ b
le_of a b h = grind (arith, nat_tests)

-- the length of a line is the place of its first LF or CR, or all its bytes
pub len_found : (xs : List ℕ) (k : ℕ) → k < length xs → ((i : ℕ) → i < k → is_break (get_or xs i 0) ≡ true → ⊥) → is_break (get_or xs k 0) ≡ true → k ≡ line_len xs
len_found xs k less before here = elim (cases_order k (line_len xs)) [
  | inl same ↦ same
  | inr o ↦ elim o [
    | inl low ↦ absurd (both_ways (is_break (get_or xs k 0)) (len_plain xs k low) here)
    | inr high ↦ absurd (before (line_len xs) high (len_break xs (omega (arith, high, less))))
  ]
]

pub len_none : (xs : List ℕ) → ((i : ℕ) → i < length xs → is_break (get_or xs i 0) ≡ true → ⊥) → length xs ≡ line_len xs
len_none xs before = elim (cases_order (length xs) (line_len xs)) [
  | inl same ↦ same
  | inr o ↦ elim o [
    | inl low ↦ absurd (omega (arith, low, len_within xs))
    | inr high ↦ absurd (before (line_len xs) high (len_break xs high))
  ]
]

-- where the next line starts after a line's end
abbrev pub at_end : List ℕ → ℕ → ℕ
at_end text end = cond (get_or text end 0 == 13 && (get_or text (end + 1) 0 == 10)) (end + 2) (end + 1)

-- an offset of the line number `n`
pub record IsIn (text : List ℕ) (n s : ℕ) : Type 0 where
  pub within : s ≤ length text
  pub number : line_number text s ≡ n

-- the line after that of an offset
pub next_found : (text : List ℕ) (n s t : ℕ) → IsIn text n s → end_of_line text s < length text → t ≤ length text → t ≡ at_end text (end_of_line text s) → IsLine text (suc n) t
next_found text n s t l less within e =
    let next = next_line text s t l.within less e in
    record {
      within = within;
      starts = next.0;
      number = omega (arith, l.number, count_lines text s, count_lines text t, ap length next.1, length-append (starts_to text s) (t ∷ []));
    }

-- no line is after the last
pub none_found : (text : List ℕ) (n s wanted : ℕ) → IsIn text n s → end_of_line text s ≡ length text → n < wanted → IsLineFound text wanted None
none_found text n s wanted l e less o within number =
    let last : line_number text (length text) ≡ line_number text s = same_number text s (length text) l.within (omega (arith, e)) in
    omega (arith, number_grows text o (length text) within, last, l.number, number, less)

-- what a search has found after some lines: an offset, which starts a line if it has passed one
pub record IsPassed (text : List ℕ) (at counter start : ℕ) : Type 0 where
  pub here : IsIn text (line_number text at + counter) start
  pub first : counter ≡ 0 → start ≡ at
  pub starts : 0 < counter → starts_line text start ≡ true

pub none_passed : (text : List ℕ) (at : ℕ) → at ≤ length text → IsPassed text at 0 at
none_passed text at within = record { here = record { within = within; number = omega arith }; first = λ _. refl; starts = λ some. absurd (omega (arith, some)) }

pub one_passed : (text : List ℕ) (at counter s t : ℕ) → IsPassed text at counter s → end_of_line text s < length text → t ≤ length text → t ≡ at_end text (end_of_line text s) → IsPassed text at (counter + 1) t
one_passed text at counter s t p less within e =
    let next = next_found text (line_number text at + counter) s t p.here less within e in
    record {
      here = record { within = next.within; number = let n = next.number in omega (arith, n) };
      first = λ z. absurd (omega (arith, z));
      starts = λ _. next.starts;
    }

-- the line that was looked for
pub all_passed : (text : List ℕ) (from count at left counter start : ℕ) → starts_line text from ≡ true → line_number text at + left ≡ line_number text from + count → (left ≡ 0 → at ≡ from) → left ≤ counter → counter ≤ left → IsPassed text at counter start → IsLine text (line_number text from + count) start
all_passed text from count at left counter start begins number same low high p = record {
  within = p.here.within;
  starts = elim (cases_order 0 counter) [
    | inl z ↦ subst (λ s. starts_line text s ≡ true) (sym (same (omega (arith, z, high, low))) ∙ sym (p.first (sym z))) begins
    | inr o ↦ elim o [
      | inl some ↦ p.starts some
      | inr less ↦ absurd (omega (arith, less))
    ]
  ];
  number = let n = p.here.number in omega (arith, n, number, low, high);
}

-- one byte more
pub one_counted : (text : List ℕ) (i : ℕ) → line_number text (i + 1) ≡ line_number text i + cond (get_or text i 0 == 10 || (get_or text i 0 == 13 && not (get_or text (i + 1) 0 == 10))) 1 0
unfolding line_number starts_line
one_counted text i = subst (λ k. line_number text k ≡ line_number text i + cond (get_or text i 0 == 10 || (get_or text i 0 == 13 && not (get_or text k 0 == 10))) 1 0) (sym (add-one i)) (by_test (get_or text i 0 == 10 || (get_or text i 0 == 13 && not (get_or text (suc i) 0 == 10))) (line_number text i))
  where
    by_test : (b : Bool) (n : ℕ) → cond b (suc n) n ≡ n + cond b 1 0
    by_test true n = omega arith
    by_test false n = omega arith

pub first_found : (text : List ℕ) → IsLine text 0 0
unfolding starts_line line_number
first_found text = record { within = omega arith; starts = refl; number = refl }

-- `IsBefore` as a test
test_of : (text : List ℕ) (p : Position) (o : ℕ) → IsBefore text p o → is_before text p o ≡ true
test_of text p o b = rw (same_test _ _ b.start, le_test _ _ b.ahead, same_test _ _ b.line, le_test _ _ b.column) refl

not_before : (text : List ℕ) (p : Position) (o : ℕ) → o ≤ length text → (IsBefore text p o → ⊥) → is_before text p o ≡ false
not_before text p o within none = elim (bool_cases (is_before text p o)) [
  | inr not ↦ not
  | inl is ↦
      let a = both_parts _ _ is in
      let b = both_parts _ _ a.1 in
      let d = both_parts _ _ b.1 in
      absurd (none (record { within = within; start = eqb-true _ _ a.0; ahead = le_of _ _ b.0; line = eqb-true _ _ d.0; column = le_of _ _ d.1 }))
]

-- the largest offset at or before a position
last_some : (text : List ℕ) (p : Position) (a : ℕ) → IsBefore text p a → ((q : ℕ) → IsBefore text p q → q ≤ a) → (n : ℕ) → a ≤ n → n ≤ length text → last_before text p n ≡ Some a
unfolding last_before
last_some text p a b most zero le within =
    let e : a ≡ 0 = omega (arith, le) in
    rw (test_of text p 0 (subst (IsBefore text p) e b)) (ap Some (sym e))
last_some text p a b most (suc n) le within = elim (cases_order a (suc n)) [
  | inl same ↦ rw (test_of text p (suc n) (subst (IsBefore text p) same b)) (ap Some (sym same))
  | inr o ↦ elim o [
    | inl less ↦ rw (not_before text p (suc n) within (λ is. above n a (most (suc n) is) less)) (last_some text p a b most n (omega (arith, less)) (omega (arith, within)))
    | inr more ↦ absurd (omega (arith, le, more))
  ]
]
  where
    above : (n a : ℕ) → suc n ≤ a → a < suc n → ⊥
    above n a h g = omega (arith, h, g)

last_none : (text : List ℕ) (p : Position) → ((o : ℕ) → o ≤ length text → line_number text o ≡ p.line → ⊥) → (n : ℕ) → n ≤ length text → last_before text p n ≡ None
unfolding last_before
last_none text p none zero within = rw (not_before text p 0 within (λ is. none 0 within is.line)) refl
last_none text p none (suc n) within = rw (not_before text p (suc n) within (λ is. none (suc n) within is.line)) (last_none text p none n (omega (arith, within)))

-- `offset_of` is the offset of a position
pub offset_known : (text : List ℕ) (p : Position) (a : Option ℕ) → IsOffset text p a → offset_of text p ≡ a
offset_known text p None h = last_none text p h (length text) (omega arith)
offset_known text p (Some a) h = last_some text p a h.0 h.1 (length text) h.0.within (omega arith)

pub offset_is_known : (text : List ℕ) (p : Position) → IsOffset text p (offset_of text p)
offset_is_known text p = subst (IsOffset text p) (sym (offset_known text p (offset_in (lines_of text) p) (offsets text p))) (offsets text p)

-- a text may be cut at the offset of a position
pub cut_at : (text : List ℕ) (p : Position) (o : ℕ) → IsOffset text p (Some o) → IsSplitPoint text o
cut_at text p o h = (h.0.within, λ some less high. leads (get_or text o 0) (first text o some h.0.start) high)
  where
    first : (text : List ℕ) (o : ℕ) → 0 < o → character_start text o ≡ o → is_continuation (get_or text o 0) ≡ false
    first text zero some e = absurd (omega (arith, some))
    first text (suc i) some e = elim (bool_cases (is_continuation (get_or text (suc i) 0))) [
      | inr not ↦ not
      | inl is ↦ absurd (let low = character_le text i in omega (arith, character_on text i is, e, low))
    ]

    leads : (b : ℕ) → is_continuation b ≡ false → 128 ≤ b → 192 ≤ b
    leads b h high = grind (arith, nat_tests)

-- the text after a change between two offsets
pub bad_first : (text : List ℕ) (start end : Position) (new : List ℕ) → IsOffset text start None → replace_between text (offset_of text start) (offset_of text end) new ≡ None
bad_first text start end new h = ap (λ a. replace_between text a (offset_of text end) new) (offset_known text start None h)

abbrev between_last : List ℕ → Option ℕ → List ℕ → Option ℕ → Option (List ℕ)
between_last text a new b = replace_between text a b new

pub bad_last : (text : List ℕ) (start end : Position) (new : List ℕ) → IsOffset text end None → replace_between text (offset_of text start) (offset_of text end) new ≡ None
bad_last text start end new h = ap (between_last text (offset_of text start) new) (offset_known text end None h) ∙ none (offset_of text start)
  where
    none : (a : Option ℕ) → replace_between text a None new ≡ None
    none None = refl
    none (Some i) = refl

pub between_is : (text : List ℕ) (start end : Position) (from to : ℕ) (new : List ℕ) → IsOffset text start (Some from) → IsOffset text end (Some to) → replace_between text (offset_of text start) (offset_of text end) new ≡ cond (nat_lt to from) None (Some (replace_range text from to new))
between_is text start end from to new h g =
    ap (λ a. replace_between text a (offset_of text end) new) (offset_known text start (Some from) h)
    ∙ ap (λ b. replace_between text (Some from) b new) (offset_known text end (Some to) g)

pub bad_order : (text : List ℕ) (start end : Position) (from to : ℕ) (new : List ℕ) → IsOffset text start (Some from) → IsOffset text end (Some to) → to < from → replace_between text (offset_of text start) (offset_of text end) new ≡ None
bad_order text start end from to new h g less = between_is text start end from to new h g ∙ rw (lt-ltb to from less) refl

pub good_order : (text : List ℕ) (start end : Position) (from to : ℕ) (new : List ℕ) → Bounds text start end from to → replace_between text (offset_of text start) (offset_of text end) new ≡ Some (replace_range text from to new)
good_order text start end from to new b =
    let f : nat_lt to from ≡ false = not_less to from b.ordered in
    between_is text start end from to new b.first b.last ∙ rw f refl

-- the offset of a column, by the position that has it
pub on_line : (text : List ℕ) (p : Position) (s o : ℕ) → IsLine text p.line s → IsOffset text (record { line = line_number text s; character = p.character }) (Some o) → IsOffset text p (Some o)
on_line text p s o l h = subst (λ n. IsOffset text (record { line = n; character = p.character }) (Some o)) l.number h

-- the same of the bytes of a text that is equal
pub cut_first : (bytes text : List ℕ) (start end : Position) (from to : ℕ) → bytes ≡ text → Bounds bytes start end from to → IsSplitPoint text from
cut_first bytes text start end from to e b = subst (λ t. IsSplitPoint t from) e (cut_at bytes start from b.first)

pub cut_last : (bytes text : List ℕ) (start end : Position) (from to : ℕ) → bytes ≡ text → Bounds bytes start end from to → IsSplitPoint text to
cut_last bytes text start end from to e b = subst (λ t. IsSplitPoint t to) e (cut_at bytes end to b.last)

pub one_at_most : (b next n : ℕ) → n ≡ cond (b == 10 || (b == 13 && not (next == 10))) 1 0 → n ≤ 1
one_at_most b next n e = below (b == 10 || (b == 13 && not (next == 10))) n e
  where
    below : (t : Bool) (n : ℕ) → n ≡ cond t 1 0 → n ≤ 1
    below true n e = omega (arith, e)
    below false n e = omega (arith, e)
