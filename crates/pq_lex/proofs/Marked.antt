-- The lines that an index keeps, as marks, and its lines that are not ASCII by number.
use Rattle.std.proofs.Common.{◌≡◌, inl, inr, ℕ, zero, suc, ◌+◌, ◌<◌, ◌≤◌, ◌==◌, cond, List, [], ◌∷◌, ◌++◌, length, drop, map, get_or, refl, sym, ◌∙◌, ap, subst, arith, length-append}
use Rattle.std.proofs.lemmas.Bool.{cases_order, eq-eqb, ne_eqb}
use Rattle.std.proofs.lemmas.List.{get_or-map, length-map}
use Rattle.pq_lex.specs.declared.lines.Marks.{Marks}
use Rattle.pq_lex.specs.declared.lines.WideLine.{WideLine}
use Rattle.pq_lex.specs.aux.Kept.{AreWide, IsCounted, IsMarked, IsRising, WideMore, marks_from, marks_of, mark_at, numbers_of, units_at}
use Rattle.pq_lex.specs.aux.LineMarks.{LineMark, units_kept}

abbrev line : ℕ → ℕ → List ℕ → LineMark
line s e u = record { start = s; end = e; units = u }

units_here : (n : ℕ) (w : WideLine) (ws : List WideLine) → w.number ≡ n → units_at n (w ∷ ws) ≡ w.units.items
unfolding units_at
units_here n w ws h = rw (eq-eqb w.number n h) refl

units_past : (n : ℕ) (w : WideLine) (ws : List WideLine) → (w.number ≡ n → ⊥) → units_at n (w ∷ ws) ≡ units_at n ws
unfolding units_at
units_past n w ws h = rw (ne_eqb w.number n h) refl

units_none : (n : ℕ) → units_at n [] ≡ []
unfolding units_at
units_none n = refl

-- the first of the lines, and the others
pub record First (m n : ℕ) (w : WideLine) (ws : List WideLine) : Type 0 where
  pub low : m ≤ w.number
  pub high : w.number < n
  pub some : 0 < length w.units.items
  pub counted : IsCounted w.units.items w.counts.items
  pub rest : AreWide (suc w.number) n ws

pub first_of : (low high : ℕ) (w : WideLine) (ws : List WideLine) → AreWide low high (w ∷ ws) → First low high w ws
unfolding AreWide
first_of low high w ws a = record { low = a.0; high = a.1; some = a.2; counted = a.3; rest = a.4 }

with_first : (low high : ℕ) (w : WideLine) (ws : List WideLine) → First low high w ws → AreWide low high (w ∷ ws)
unfolding AreWide
with_first low high w ws f = (f.low, f.high, f.some, f.counted, f.rest)

pub no_wide : (low high : ℕ) → AreWide low high []
unfolding AreWide
no_wide low high = tt

-- a line below the first, or not below the last, has no units
pub units_below : (low high n : ℕ) (ws : List WideLine) → AreWide low high ws → n < low → units_at n ws ≡ []
units_below low high n [] a h = units_none n
units_below low high n (w ∷ ws) a h =
    let f = first_of low high w ws a in
    units_past n w ws (λ e. omega (arith, e, h, f.low)) ∙ units_below (suc w.number) high n ws f.rest (omega (arith, h, f.low))

units_above : (low high n : ℕ) (ws : List WideLine) → AreWide low high ws → high ≤ n → units_at n ws ≡ []
units_above low high n [] a h = units_none n
units_above low high n (w ∷ ws) a h =
    let f = first_of low high w ws a in
    units_past n w ws (λ e. omega (arith, e, h, f.high)) ∙ units_above (suc w.number) high n ws f.rest h

-- one more line
wider : (low high : ℕ) (ws : List WideLine) → AreWide low high ws → AreWide low (suc high) ws
wider low high [] a = no_wide low (suc high)
wider low high (w ∷ ws) a =
    let f = first_of low high w ws a in
    with_first low (suc high) w ws (record { low = f.low; high = omega (arith, f.high); some = f.some; counted = f.counted; rest = wider (suc w.number) high ws f.rest })

one_wide : (low high : ℕ) (ws : List WideLine) (w : WideLine) → AreWide low high ws → low ≤ high → w.number ≡ high → 0 < length w.units.items → IsCounted w.units.items w.counts.items → AreWide low (suc high) (ws ++ w ∷ [])
one_wide low high [] w a le e some counted = with_first low (suc high) w [] (record { low = omega (arith, le, e); high = omega (arith, e); some = some; counted = counted; rest = no_wide (suc w.number) (suc high) })
one_wide low high (x ∷ ws) w a le e some counted =
    let f = first_of low high x ws a in
    with_first low (suc high) x (ws ++ w ∷ []) (record { low = f.low; high = omega (arith, f.high); some = f.some; counted = f.counted; rest = one_wide (suc x.number) high ws w f.rest (omega (arith, f.high)) e some counted })

units_left : (low high n : ℕ) (ws : List WideLine) (w : WideLine) → AreWide low high ws → w.number ≡ high → n < high → units_at n (ws ++ w ∷ []) ≡ units_at n ws
units_left low high n [] w a e h = units_past n w [] (λ z. omega (arith, z, e, h))
units_left low high n (x ∷ ws) w a e h =
    let f = first_of low high x ws a in
    elim (cases_order x.number n) [
      | inl same ↦ units_here n x (ws ++ w ∷ []) same ∙ sym (units_here n x ws same)
      | inr o ↦
          let other : x.number ≡ n → ⊥ = λ z. elim o [ inl less ↦ omega (arith, less, z) | inr more ↦ omega (arith, more, z) ] in
          units_past n x (ws ++ w ∷ []) other ∙ units_left (suc x.number) high n ws w f.rest e h ∙ sym (units_past n x ws other)
    ]

units_right : (low high : ℕ) (ws : List WideLine) (w : WideLine) → AreWide low high ws → w.number ≡ high → units_at high (ws ++ w ∷ []) ≡ w.units.items
units_right low high [] w a e = units_here high w [] e
units_right low high (x ∷ ws) w a e =
    let f = first_of low high x ws a in
    units_past high x (ws ++ w ∷ []) (λ z. omega (arith, z, f.high)) ∙ units_right (suc x.number) high ws w f.rest e

-- the lines by number
pub from_length : (n : ℕ) (ss es : List ℕ) (ws : List WideLine) → length es ≡ length ss → length (marks_from n ss es ws) ≡ length ss
unfolding marks_from
from_length n [] es ws h = refl
from_length n (s ∷ ss) [] ws h = absurd (omega (arith, h))
from_length n (s ∷ ss) (e ∷ es) ws h = ap suc (from_length (suc n) ss es ws (omega (arith, h)))

from_start : (n : ℕ) (ss es : List ℕ) (ws : List WideLine) → length es ≡ length ss → map (λ m. m.start) (marks_from n ss es ws) ≡ ss
unfolding marks_from
from_start n [] es ws h = refl
from_start n (s ∷ ss) [] ws h = absurd (omega (arith, h))
from_start n (s ∷ ss) (e ∷ es) ws h = ap (λ xs. s ∷ xs) (from_start (suc n) ss es ws (omega (arith, h)))

from_end : (n : ℕ) (ss es : List ℕ) (ws : List WideLine) → length es ≡ length ss → map (λ m. m.end) (marks_from n ss es ws) ≡ es
unfolding marks_from
from_end n [] [] ws h = refl
from_end n [] (e ∷ es) ws h = absurd (omega (arith, h))
from_end n (s ∷ ss) [] ws h = absurd (omega (arith, h))
from_end n (s ∷ ss) (e ∷ es) ws h = ap (λ xs. e ∷ xs) (from_end (suc n) ss es ws (omega (arith, h)))

from_get : (n : ℕ) (ss es : List ℕ) (ws : List WideLine) (k : ℕ) (d : LineMark) → length es ≡ length ss → k < length ss → get_or (marks_from n ss es ws) k d ≡ line (get_or ss k 0) (get_or es k 0) (units_at (n + k) ws)
unfolding marks_from
from_get n [] es ws k d h less = absurd (omega (arith, less))
from_get n (s ∷ ss) [] ws k d h less = absurd (omega (arith, h))
from_get n (s ∷ ss) (e ∷ es) ws zero d h less = ap (λ j. line s e (units_at j ws)) (let z : n ≡ n + 0 = omega arith in z)
from_get n (s ∷ ss) (e ∷ es) ws (suc k) d h less =
    from_get (suc n) ss es ws k d (omega (arith, h)) (omega (arith, less))
    ∙ ap (λ j. line (get_or ss k 0) (get_or es k 0) (units_at j ws)) (let z : suc n + k ≡ n + suc k = omega arith in z)

from_more : (n : ℕ) (ss es : List ℕ) (ws vs : List WideLine) (s e : ℕ) → length es ≡ length ss → ((j : ℕ) → j < n + length ss → units_at j vs ≡ units_at j ws) → marks_from n (ss ++ s ∷ []) (es ++ e ∷ []) vs ≡ marks_from n ss es ws ++ line s e (units_at (n + length ss) vs) ∷ []
unfolding marks_from
from_more n [] [] ws vs s e h same = ap (λ j. line s e (units_at j vs) ∷ []) (let z : n ≡ n + 0 = omega arith in z)
from_more n [] (y ∷ es) ws vs s e h same = absurd (omega (arith, h))
from_more n (x ∷ ss) [] ws vs s e h same = absurd (omega (arith, h))
from_more n (x ∷ ss) (y ∷ es) ws vs s e h same =
    let one : line x y (units_at n vs) ≡ line x y (units_at n ws) = ap (line x y) (same n (omega arith)) in
    let rest = from_more (suc n) ss es ws vs s e (omega (arith, h)) (λ j less. same j (omega (arith, less))) in
    let last : line s e (units_at (suc n + length ss) vs) ≡ line s e (units_at (n + length (x ∷ ss)) vs) = ap (λ j. line s e (units_at j vs)) (let z : suc n + length ss ≡ n + length (x ∷ ss) = omega arith in z) in
    ap (λ m. m ∷ marks_from (suc n) (ss ++ s ∷ []) (es ++ e ∷ []) vs) one
    ∙ ap (λ ms. line x y (units_at n ws) ∷ ms) (rest ∙ ap (λ m. marks_from (suc n) ss es ws ++ m ∷ []) last)

module _ (m : Marks) (marked : IsMarked m) where
  pub marks_length : length (marks_of m) ≡ length m.starts
  marks_length = from_length 0 m.starts m.ends m.wide.items marked.ends

  pub marks_start : map (λ x. x.start) (marks_of m) ≡ m.starts
  marks_start = from_start 0 m.starts m.ends m.wide.items marked.ends

  pub marks_end : map (λ x. x.end) (marks_of m) ≡ m.ends
  marks_end = from_end 0 m.starts m.ends m.wide.items marked.ends

  pub mark_is : (k : ℕ) → k < length m.starts → mark_at m k ≡ get_or (marks_of m) k (mark_at m k)
  mark_is k h = sym (from_get 0 m.starts m.ends m.wide.items k (mark_at m k) marked.ends h ∙ ap (λ j. line (get_or m.starts k 0) (get_or m.ends k 0) (units_at j m.wide.items)) (let z : 0 + k ≡ k = omega arith in z))

-- one more line
pub added : (old new : Marks) (s e : ℕ) (row : List ℕ) → IsMarked old → new.starts ≡ old.starts ++ s ∷ [] → new.ends ≡ old.ends ++ e ∷ [] → WideMore (length old.starts) row old.wide.items new.wide.items → IsMarked new × (marks_of new ≡ marks_of old ++ line s e (units_kept row) ∷ [])
added old new s e row marked starts ends more = (
  record { ends = omega (arith, marked.ends, ap length starts, ap length ends, length-append old.starts (s ∷ []), length-append old.ends (e ∷ [])); wide = subst (λ n. AreWide 0 n new.wide.items) (sym count) (wide more) },
  ap (λ xs. marks_from 0 xs new.ends new.wide.items) starts ∙ ap (λ xs. marks_from 0 (old.starts ++ s ∷ []) xs new.wide.items) ends
      ∙ from_more 0 old.starts old.ends old.wide.items new.wide.items s e marked.ends (λ j less. before more j (omega (arith, less)))
      ∙ ap (λ u. marks_of old ++ line s e u ∷ []) (ap (λ j. units_at j new.wide.items) (let z : 0 + length old.starts ≡ length old.starts = omega arith in z) ∙ here more),
)
  where
    count : length new.starts ≡ suc (length old.starts)
    count = omega (arith, ap length starts, length-append old.starts (s ∷ []))

    wide : WideMore (length old.starts) row old.wide.items new.wide.items → AreWide 0 (suc (length old.starts)) new.wide.items
    wide (inl p) = subst (AreWide 0 (suc (length old.starts))) (sym p.0) (wider 0 (length old.starts) old.wide.items marked.wide)
    wide (inr p) = subst (AreWide 0 (suc (length old.starts))) (sym p.1) (one_wide 0 (length old.starts) old.wide.items p.0 marked.wide (omega arith) p.2.number p.2.some p.2.counted)

    before : WideMore (length old.starts) row old.wide.items new.wide.items → (j : ℕ) → j < length old.starts → units_at j new.wide.items ≡ units_at j old.wide.items
    before (inl p) j less = ap (units_at j) p.0
    before (inr p) j less = ap (units_at j) p.1 ∙ units_left 0 (length old.starts) j old.wide.items p.0 marked.wide p.2.number less

    here : WideMore (length old.starts) row old.wide.items new.wide.items → units_at (length old.starts) new.wide.items ≡ units_kept row
    here (inl p) = ap (units_at (length old.starts)) p.0 ∙ units_above 0 (length old.starts) (length old.starts) old.wide.items marked.wide (omega arith) ∙ sym p.1
    here (inr p) = ap (units_at (length old.starts)) p.1 ∙ units_right 0 (length old.starts) old.wide.items p.0 marked.wide p.2.number ∙ p.2.units

-- the lines that are not ASCII are in order, and each is found by its number
number_low : (low high : ℕ) (ws : List WideLine) → AreWide low high ws → (k : ℕ) → k < length (numbers_of ws) → low ≤ get_or (numbers_of ws) k 0
number_low low high [] a k h = absurd (omega (arith, h))
number_low low high (w ∷ ws) a zero h = (first_of low high w ws a).low
number_low low high (w ∷ ws) a (suc k) h = let f = first_of low high w ws a in let n = number_low (suc w.number) high ws f.rest k (omega (arith, h)) in omega (arith, n, f.low)

pub rising : (low high : ℕ) (ws : List WideLine) → AreWide low high ws → IsRising (numbers_of ws)
rising low high [] a i j less h = absurd (omega (arith, h))
rising low high (w ∷ ws) a i zero less h = absurd (omega (arith, less))
rising low high (w ∷ ws) a zero (suc j) less h = let f = first_of low high w ws a in let n = number_low (suc w.number) high ws f.rest j (omega (arith, h)) in omega (arith, n)
rising low high (w ∷ ws) a (suc i) (suc j) less h = let f = first_of low high w ws a in rising (suc w.number) high ws f.rest i j (omega (arith, less)) (omega (arith, h))

pub absent : (n : ℕ) (ws : List WideLine) → ((k : ℕ) → k < length (numbers_of ws) → get_or (numbers_of ws) k 0 ≡ n → ⊥) → units_at n ws ≡ []
absent n [] h = units_none n
absent n (w ∷ ws) h = units_past n w ws (h 0 (omega arith)) ∙ absent n ws (λ k less. h (suc k) (omega (arith, less)))

pub record Found (n : ℕ) (ws : List WideLine) (w : WideLine) : Type 0 where
  pub units : units_at n ws ≡ w.units.items
  pub some : 0 < length w.units.items
  pub counted : IsCounted w.units.items w.counts.items

pub found_wide : (low high n : ℕ) (ws : List WideLine) → AreWide low high ws → (k : ℕ) → k < length (numbers_of ws) → get_or (numbers_of ws) k 0 ≡ n → (w : WideLine) → w ≡ get_or ws k w → Found n ws w
found_wide low high n [] a k h e w is = absurd (omega (arith, h))
found_wide low high n (x ∷ ws) a zero h e w is =
    let f = first_of low high x ws a in
    subst (Found n (x ∷ ws)) (sym is) (record { units = units_here n x ws e; some = f.some; counted = f.counted })
found_wide low high n (x ∷ ws) a (suc k) h e w is =
    let f = first_of low high x ws a in
    let later = found_wide (suc x.number) high n ws f.rest k (omega (arith, h)) e w is in
    let above = number_low (suc x.number) high ws f.rest k (omega (arith, h)) in
    record { units = units_past n x ws (λ z. omega (arith, z, e, above)) ∙ later.units; some = later.some; counted = later.counted }

-- a binary search
pub number_at : (ws : List WideLine) (k : ℕ) (w : WideLine) → k < length ws → get_or (numbers_of ws) k 0 ≡ (get_or ws k w).number
number_at ws k w h = get_or-map (λ x. x.number) ws k w 0 h

pub numbers_count : (ws : List WideLine) → length (numbers_of ws) ≡ length ws
numbers_count ws = length-map ws (λ x. x.number)

module _ (numbers : List ℕ) (r : IsRising numbers) (m n : ℕ) where
  pub below_all : m < length numbers → get_or numbers m 0 < n → (k : ℕ) → k < m + 1 → get_or numbers k 0 < n
  below_all h low k less = elim (cases_order k m) [
    | inl same ↦ subst (λ j. get_or numbers j 0 < n) (sym same) low
    | inr o ↦ elim o [
      | inl before ↦ let a = r k m before h in omega (arith, a, low)
      | inr past ↦ absurd (omega (arith, past, less))
    ]
  ]

  pub above_all : n ≤ get_or numbers m 0 → (get_or numbers m 0 ≡ n → ⊥) → (k : ℕ) → m ≤ k → k < length numbers → n < get_or numbers k 0
  above_all low other k le h =
      let strict : n < get_or numbers m 0 = elim (cases_order n (get_or numbers m 0)) [
        | inl same ↦ absurd (other (sym same))
        | inr o ↦ elim o [ inl less ↦ less | inr more ↦ absurd (omega (arith, more, low)) ]
      ] in
      elim (cases_order m k) [
        | inl same ↦ subst (λ j. n < get_or numbers j 0) same strict
        | inr o ↦ elim o [
          | inl before ↦ let a = r m k before h in omega (arith, a, strict)
          | inr past ↦ absurd (omega (arith, past, le))
        ]
      ]

-- no lines
from_none : (es : List ℕ) (ws : List WideLine) → marks_from 0 [] es ws ≡ []
unfolding marks_from
from_none es ws = refl

pub none_made : (m : Marks) → m.starts ≡ [] → marks_of m ≡ []
none_made m e = ap (λ xs. marks_from 0 xs m.ends m.wide.items) e ∙ from_none m.ends m.wide.items

pub none_marked : (m : Marks) → m.starts ≡ [] → m.ends ≡ [] → m.wide.items ≡ [] → IsMarked m
none_marked m s e w = record { ends = omega (arith, ap length s, ap length e); wide = subst (AreWide 0 (length m.starts)) (sym w) (no_wide 0 (length m.starts)) }

-- lines of the same units
pub from_units : (n : ℕ) (ss es : List ℕ) (ws vs : List WideLine) → ((j : ℕ) → units_at j ws ≡ units_at j vs) → marks_from n ss es ws ≡ marks_from n ss es vs
unfolding marks_from
from_units n [] es ws vs h = refl
from_units n (s ∷ ss) [] ws vs h = refl
from_units n (s ∷ ss) (e ∷ es) ws vs h = ap (λ u. line s e u ∷ marks_from (suc n) ss es ws) (h n) ∙ ap (λ ms. line s e (units_at n vs) ∷ ms) (from_units (suc n) ss es ws vs h)

abbrev pub wide_mark : WideLine → LineMark
wide_mark w = record { start = w.number; end = 0; units = w.units.items }

pub units_same : (n : ℕ) (ws vs : List WideLine) → map wide_mark ws ≡ map wide_mark vs → units_at n ws ≡ units_at n vs
unfolding units_at
units_same n [] [] e = refl
units_same n [] (v ∷ vs) e = let z : 0 ≡ suc (length (map wide_mark vs)) = ap length e in absurd (omega (arith, z))
units_same n (w ∷ ws) [] e = let z : suc (length (map wide_mark ws)) ≡ 0 = ap length e in absurd (omega (arith, z))
units_same n (w ∷ ws) (v ∷ vs) e =
    let head : wide_mark w ≡ wide_mark v = ap (λ l. get_or l 0 (wide_mark w)) e in
    let tail : map wide_mark ws ≡ map wide_mark vs = ap (drop 1) e in
    ap (λ m. cond (m.start == n) m.units (units_at n ws)) head ∙ ap (cond (v.number == n) v.units.items) (units_same n ws vs tail)

some_units : (us : List ℕ) → us ≡ [] → 0 < length us → ⊥
some_units us e h = omega (arith, h, ap length e)

pub same_wide : (low high hi : ℕ) (ws vs : List WideLine) → AreWide low high ws → AreWide low hi vs → ((n : ℕ) → units_at n ws ≡ units_at n vs) → map wide_mark ws ≡ map wide_mark vs
same_wide low high hi [] [] a b h = refl
same_wide low high hi [] (v ∷ vs) a b h =
    let f = first_of low hi v vs b in
    absurd (some_units v.units.items (sym (units_here v.number v vs refl) ∙ sym (h v.number) ∙ units_none v.number) f.some)
same_wide low high hi (w ∷ ws) [] a b h =
    let f = first_of low high w ws a in
    absurd (some_units w.units.items (sym (units_here w.number w ws refl) ∙ h w.number ∙ units_none w.number) f.some)
same_wide low high hi (w ∷ ws) (v ∷ vs) a b h =
    let f = first_of low high w ws a in
    let g = first_of low hi v vs b in
    elim (cases_order w.number v.number) [
      | inl same ↦
          let units : w.units.items ≡ v.units.items = sym (units_here w.number w ws refl) ∙ h w.number ∙ units_here w.number v vs (sym same) in
          let rest : (n : ℕ) → units_at n ws ≡ units_at n vs = λ n. elim (cases_order w.number n) [
            | inl here ↦ units_below (suc w.number) high n ws f.rest (omega (arith, here)) ∙ sym (units_below (suc v.number) hi n vs g.rest (omega (arith, here, same)))
            | inr o ↦
                let other : w.number ≡ n → ⊥ = λ z. elim o [ inl less ↦ omega (arith, less, z) | inr more ↦ omega (arith, more, z) ] in
                sym (units_past n w ws other) ∙ h n ∙ units_past n v vs (λ z. other (same ∙ z))
          ] in
          let at : AreWide (suc w.number) hi vs = subst (λ k. AreWide (suc k) hi vs) (sym same) g.rest in
          ap (λ k. line k 0 w.units.items ∷ map wide_mark ws) same
          ∙ ap (λ u. line v.number 0 u ∷ map wide_mark ws) units
          ∙ ap (λ ms. wide_mark v ∷ ms) (same_wide (suc w.number) high hi ws vs f.rest at rest)
      | inr o ↦ elim o [
        | inl less ↦
            absurd (some_units w.units.items
            (sym (units_here w.number w ws refl) ∙ h w.number ∙ units_past w.number v vs (λ z. omega (arith, z, less)) ∙ units_below (suc v.number) hi w.number vs g.rest (omega (arith, less))) f.some)
        | inr more ↦
            absurd (some_units v.units.items
            (sym (units_here v.number v vs refl) ∙ sym (h v.number) ∙ units_past v.number w ws (λ z. omega (arith, z, more)) ∙ units_below (suc w.number) high v.number ws f.rest (omega (arith, more))) g.some)
      ]
    ]

-- equal lines are kept alike
module _ (a b : Marks) (am : IsMarked a) (bm : IsMarked b) (e : marks_of a ≡ marks_of b) where
  pub same_starts : a.starts ≡ b.starts
  same_starts = sym (marks_start a am) ∙ ap (map (λ x. x.start)) e ∙ marks_start b bm

  pub same_ends : a.ends ≡ b.ends
  same_ends = sym (marks_end a am) ∙ ap (map (λ x. x.end)) e ∙ marks_end b bm

  at_each : (n : ℕ) → units_at n a.wide.items ≡ units_at n b.wide.items
  at_each n = elim (cases_order n (length a.starts)) [
    | inl same ↦ beyond n (omega (arith, same))
    | inr o ↦ elim o [
      | inl less ↦
          let d : LineMark = mark_at a n in
          let there : n < length b.starts = omega (arith, less, ap length same_starts) in
          ap (λ m. m.units) (mark_is a am n less ∙ ap (λ ms. get_or ms n d) e ∙ from_get 0 b.starts b.ends b.wide.items n d bm.ends there)
          ∙ ap (λ j. units_at j b.wide.items) (let z : 0 + n ≡ n = omega arith in z)
      | inr more ↦ beyond n (omega (arith, more))
    ]
  ]
    where
      beyond : (n : ℕ) → length a.starts ≤ n → units_at n a.wide.items ≡ units_at n b.wide.items
      beyond n h = units_above 0 (length a.starts) n a.wide.items am.wide h ∙ sym (units_above 0 (length b.starts) n b.wide.items bm.wide (omega (arith, h, ap length same_starts)))

  pub same_wides : map wide_mark a.wide.items ≡ map wide_mark b.wide.items
  same_wides = same_wide 0 (length a.starts) (length b.starts) a.wide.items b.wide.items am.wide bm.wide at_each

pub same_marks : (a b : Marks) → a.starts ≡ b.starts → a.ends ≡ b.ends → map wide_mark a.wide.items ≡ map wide_mark b.wide.items → marks_of a ≡ marks_of b
same_marks a b s e w =
    ap (λ xs. marks_from 0 xs a.ends a.wide.items) s ∙ ap (λ xs. marks_from 0 b.starts xs a.wide.items) e
    ∙ from_units 0 b.starts b.ends a.wide.items b.wide.items (λ j. units_same j a.wide.items b.wide.items w)

pub found_at : (m : Marks) → IsMarked m → (n : ℕ) (ws : List WideLine) → ws ≡ m.wide.items → (k : ℕ) → (k < length (numbers_of ws)) × (get_or (numbers_of ws) k 0 ≡ n) → (w : WideLine) → w ≡ get_or m.wide.items k w → Found n m.wide.items w
found_at m marked n ws e k at w is =
    let moved : (k < length (numbers_of m.wide.items)) × (get_or (numbers_of m.wide.items) k 0 ≡ n) = subst (λ vs. (k < length (numbers_of vs)) × (get_or (numbers_of vs) k 0 ≡ n)) e at in
    found_wide 0 (length m.starts) n m.wide.items marked.wide k moved.0 moved.1 w is
