-- The computed ends of numbers are those of the longest.
use Rattle.std.proofs.Common.{◌≡◌, ◌⊎◌, inl, inr, ℕ, ◌+◌, ◌<◌, ◌≤◌, ◌==◌, ◌&&◌, true, false, cond, List, length, Some, None, refl, sym, ◌∙◌, ap, subst, arith, nat_lt}
use Rattle.std.proofs.lemmas.Bool.{both_ways, cases_lt, cases_Bool, eqb-true, eq-eqb, ne_eqb, lt-ltb, le-ltb, ltb-true, and_parts, and_right, or_cases, cond_both}
use Rattle.std.proofs.lemmas.Bool.Decides.{nat_tests}
use Rattle.std.proofs.lemmas.List.{get_or_past}
use Rattle.pq_lex.specs.declared.bytes.Set.TheVariants.{Digits, Octals, Hexes}
use Rattle.pq_lex.specs.declared.bytes.Class.TheVariants.{Digit}
use Rattle.pq_lex.specs.Classes.{byte, at, in_set}
use Rattle.pq_lex.specs.Runs.{run_end, Run}
use Rattle.pq_lex.specs.Tokens.{is_x, IsInteger, decimal, octal, hexadecimal, is_e, is_sign, exponent_digits, IsExponent, IsFloat, pointed, raised}
use Rattle.pq_lex.specs.aux.Scan.{integer_end, exponent_end, float_end, float_end_at, pointed_end}
use Rattle.pq_lex.proofs.RunLemmas.{run_is, run_most, run_one}
use Rattle.pq_lex.proofs.FirstBytes.{digit_class}

-- a byte that is not 0 lies in the text
pub inside : (text : List ℕ) (i : ℕ) → (byte text i ≡ 0 → ⊥) → i < length text
inside text i h = elim (cases_lt i (length text)) [ inl less ↦ less | inr past ↦ absurd (h (get_or_past text i 0 past)) ]

pub inside_at : (text : List ℕ) (i b : ℕ) → byte text i ≡ b → 0 < b → i < length text
inside_at text i b e some = inside text i (λ z. let s : b ≡ 0 = sym e ∙ z in omega (arith, s, some))

-- digits end where they end
pub digits_meet : (text : List ℕ) (i n : ℕ) → Run Digits text i n → in_set Digits (byte text n) ≡ false → n ≡ run_end Digits text i
digits_meet text i n r stop = run_one Digits text i n r (λ h. stop)

pub not_digit_46 : (b : ℕ) → b ≡ 46 → in_set Digits b ≡ false
not_digit_46 b e = ap (in_set Digits) e

pub not_digit_e : (b : ℕ) → is_e b ≡ true → in_set Digits b ≡ false
not_digit_e b h = elim (or_cases (b == 101) (b == 69) h) [
  | inl e ↦ ap (in_set Digits) (eqb-true b 101 e)
  | inr e ↦ ap (in_set Digits) (eqb-true b 69 e)
]

some_e : (b : ℕ) → is_e b ≡ true → b ≡ 0 → ⊥
some_e b h e = both_ways (is_e b) (ap is_e e) h

some_sign : (b : ℕ) → is_sign b ≡ true → b ≡ 0 → ⊥
some_sign b h e = both_ways (is_sign b) (ap is_sign e) h

some_x : (b : ℕ) → is_x b ≡ true → b ≡ 0 → ⊥
some_x b h e = both_ways (is_x b) (ap is_x e) h

-- exponents
module _ (text : List ℕ) (i : ℕ) where
  behind_cases : (exponent_digits text i ≡ i + 1) ⊎ ((exponent_digits text i ≡ i + 2) × (i + 1 < length text))
  behind_cases = cond_both (is_sign (byte text (i + 1))) (i + 2) (i + 1) (λ k. (k ≡ i + 1) ⊎ ((k ≡ i + 2) × (i + 1 < length text)))
      (λ e. inr (refl, inside text (i + 1) (some_sign (byte text (i + 1)) e))) (λ e. inl refl)

  behind_low : i + 1 ≤ exponent_digits text i
  behind_low = elim behind_cases [ inl e ↦ omega (arith, e) | inr e ↦ omega (arith, e.0) ]

  behind_high : i < length text → exponent_digits text i ≤ length text
  behind_high h = elim behind_cases [ inl e ↦ omega (arith, e, h) | inr e ↦ omega (arith, e.0, e.1) ]

  exponent_yes : is_e (byte text i) ≡ true → exponent_digits text i < run_end Digits text (exponent_digits text i) → exponent_end text i ≡ run_end Digits text (exponent_digits text i)
  unfolding exponent_end
  exponent_yes h less = let l = lt-ltb (exponent_digits text i) (run_end Digits text (exponent_digits text i)) less in rw (h, l) refl

  exponent_few : is_e (byte text i) ≡ true → run_end Digits text (exponent_digits text i) ≤ exponent_digits text i → exponent_end text i ≡ i
  unfolding exponent_end
  exponent_few h less = let l = le-ltb (exponent_digits text i) (run_end Digits text (exponent_digits text i)) less in rw (h, l) refl

  exponent_no : is_e (byte text i) ≡ false → exponent_end text i ≡ i
  unfolding exponent_end
  exponent_no h = rw h refl

  -- there is one, up to there, or none
  pub exponent_is : (exponent_end text i ≡ i) ⊎ ((i < exponent_end text i) × IsExponent text i (exponent_end text i))
  exponent_is = elim (cases_Bool (is_e (byte text i))) [
    | inr h ↦ inl (exponent_no h)
    | inl h ↦
        let b = exponent_digits text i in
        let r = run_end Digits text b in
        elim (cases_lt b r) [
          | inr few ↦ inl (exponent_few h few)
          | inl some ↦
              let e = exponent_yes h some in
              let within = behind_high (inside text i (some_e (byte text i) h)) in
              inr (rw e (omega (arith, some, behind_low)), rw e (record { letter = h; some = some; digits = run_is Digits text b within }))
        ]
  ]

  pub exponent_low : i ≤ exponent_end text i
  exponent_low = elim exponent_is [ inl e ↦ omega (arith, e) | inr e ↦ omega (arith, e.0) ]

  pub exponent_most : (n : ℕ) → IsExponent text i n → (i < n) × (n ≤ exponent_end text i)
  exponent_most n x =
      let most = run_most Digits text (exponent_digits text i) n x.digits in
      let e = exponent_yes x.letter (omega (arith, most, x.some)) in
      (omega (arith, x.some, behind_low), omega (arith, most, e))

-- floats
module _ (text : List ℕ) (i : ℕ) where
  float_pointed : (p : ℕ) → byte text p ≡ 46 → i + 1 < run_end Digits text (p + 1) → float_end_at text i p ≡ Some (exponent_end text (run_end Digits text (p + 1)))
  float_pointed p e some =
      let t = eq-eqb (byte text p) 46 e in
      let l = lt-ltb (i + 1) (run_end Digits text (p + 1)) some in
      rw (t, l) refl

  float_raised : (p : ℕ) → (byte text p == 46) ≡ false → i < p → p < exponent_end text p → float_end_at text i p ≡ Some (exponent_end text p)
  float_raised p e some more =
      let l = lt-ltb i p some in
      let m = lt-ltb p (exponent_end text p) more in
      rw (e, l, m) refl

  -- each float ends there or before
  pub float_most : (n : ℕ) → IsFloat text i n → (m : ℕ) × (float_end text i ≡ Some m) × (n ≤ m) × (run_end Digits text i < n)
  unfolding float_end
  float_most n (pointed p q whole point part some end) =
      let e : p ≡ run_end Digits text i = digits_meet text i p whole (not_digit_46 (byte text p) point) in
      let q' = run_end Digits text (p + 1) in
      let most = run_most Digits text (p + 1) q part in
      let s = float_pointed p point (omega (arith, some, most)) in
      let up = exponent_low text q' in
      let below : n ≤ exponent_end text q' = elim end [
        | inl same ↦ omega (arith, same, most, up)
        | inr x ↦
            let meet : q ≡ q' = digits_meet text (p + 1) q part (not_digit_e (byte text q) x.letter) in
            let r = exponent_most text q n x in
            subst (λ k. n ≤ exponent_end text k) meet r.1
      ] in
      let above : p < n = elim end [ inl same ↦ omega (arith, same, part.ordered) | inr x ↦ omega (arith, (exponent_most text q n x).0, part.ordered) ] in
      (exponent_end text q', subst (λ k. float_end_at text i k ≡ Some (exponent_end text q')) e s, below, omega (arith, above, e))
  float_most n (raised p some whole x) =
      let e : p ≡ run_end Digits text i = digits_meet text i p whole (not_digit_e (byte text p) x.letter) in
      let r = exponent_most text p n x in
      let no_point : (byte text p == 46) ≡ false = ne_eqb (byte text p) 46 (λ h. both_ways (is_e (byte text p)) (ap is_e h) x.letter) in
      let s = float_raised p no_point some (omega (arith, r.0, r.1)) in
      (exponent_end text p, subst (λ k. float_end_at text i k ≡ Some (exponent_end text p)) e s, r.1, omega (arith, r.0, e))

  float_at_is : (p m : ℕ) → Run Digits text i p → float_end_at text i p ≡ Some m → IsFloat text i m
  float_at_is p m whole = cond_both (byte text p == 46) (pointed_end text i (run_end Digits text (p + 1))) (cond (nat_lt i p && nat_lt p (exponent_end text p)) (Some (exponent_end text p)) None) (λ o. o ≡ Some m → IsFloat text i m)
      (λ e. let point = eqb-true (byte text p) 46 e in
      let q = run_end Digits text (p + 1) in
      let within = inside_at text p 46 point (omega arith) in
      let part = run_is Digits text (p + 1) (omega (arith, within)) in
      cond_both (nat_lt (i + 1) q) (Some (exponent_end text q)) None (λ o. o ≡ Some m → IsFloat text i m)
      (λ l h. let same : exponent_end text q ≡ m = cc in
      pointed p q whole point part (ltb-true (i + 1) q l) (elim (exponent_is text q) [ inl e ↦ inl (sym same ∙ e) | inr x ↦ inr (subst (λ k. IsExponent text q k) same x.1) ]))
      (λ l h. cc))
      (λ e. cond_both (nat_lt i p && nat_lt p (exponent_end text p)) (Some (exponent_end text p)) None (λ o. o ≡ Some m → IsFloat text i m)
      (λ l h. let same : exponent_end text p ≡ m = cc in
      let t = and_parts (nat_lt i p) (nat_lt p (exponent_end text p)) l in
      let more = ltb-true p (exponent_end text p) t.1 in
      raised p (ltb-true i p t.0) whole (elim (exponent_is text p) [ inl e ↦ absurd (omega (arith, e, more)) | inr x ↦ subst (λ k. IsExponent text p k) same x.1 ]))
      (λ l h. cc))

  pub float_is : (m : ℕ) → i ≤ length text → float_end text i ≡ Some m → IsFloat text i m
  unfolding float_end
  float_is m h = float_at_is (run_end Digits text i) m (run_is Digits text i h)

-- integers
octal_digit : (b : ℕ) → in_set Octals b ≡ true → in_set Digits b ≡ true
octal_digit b h = grind (arith, nat_tests, h)

not_digit_x : (b : ℕ) → is_x b ≡ true → in_set Digits b ≡ false
not_digit_x b h = elim (or_cases (b == 120) (b == 88) h) [
  | inl e ↦ ap (in_set Digits) (eqb-true b 120 e)
  | inr e ↦ ap (in_set Digits) (eqb-true b 88 e)
]

not_octal_x : (b : ℕ) → is_x b ≡ true → in_set Octals b ≡ false
not_octal_x b h = elim (or_cases (b == 120) (b == 88) h) [
  | inl e ↦ ap (in_set Octals) (eqb-true b 120 e)
  | inr e ↦ ap (in_set Octals) (eqb-true b 88 e)
]

not_e_x : (b : ℕ) → is_x b ≡ true → is_e b ≡ false
not_e_x b h = elim (or_cases (b == 120) (b == 88) h) [
  | inl e ↦ ap is_e (eqb-true b 120 e)
  | inr e ↦ ap is_e (eqb-true b 88 e)
]

module _ (text : List ℕ) (i : ℕ) where
  hex_end : byte text i ≡ 48 → is_x (byte text (i + 1)) ≡ true → i + 2 < run_end Hexes text (i + 2) → integer_end text i ≡ run_end Hexes text (i + 2)
  unfolding integer_end
  hex_end z x some =
      let t = eq-eqb (byte text i) 48 z in
      let l = lt-ltb (i + 2) (run_end Hexes text (i + 2)) some in
      rw (t, x, l) refl

  octal_end : byte text i ≡ 48 → (is_x (byte text (i + 1)) && nat_lt (i + 2) (run_end Hexes text (i + 2))) ≡ false → integer_end text i ≡ run_end Octals text (i + 1)
  unfolding integer_end
  octal_end z x = let t = eq-eqb (byte text i) 48 z in rw (t, x) refl

  other_end : (byte text i == 48) ≡ false → integer_end text i ≡ run_end Digits text (i + 1)
  unfolding integer_end
  other_end z = rw z refl

  no_digits_hex : is_x (byte text (i + 1)) ≡ false → (is_x (byte text (i + 1)) && nat_lt (i + 2) (run_end Hexes text (i + 2))) ≡ false
  no_digits_hex h = rw h refl

  few_hex : run_end Hexes text (i + 2) ≤ i + 2 → (is_x (byte text (i + 1)) && nat_lt (i + 2) (run_end Hexes text (i + 2))) ≡ false
  few_hex h =
      let l = le-ltb (i + 2) (run_end Hexes text (i + 2)) h in
      and_right (is_x (byte text (i + 1))) (nat_lt (i + 2) (run_end Hexes text (i + 2))) l

  pub integer_is : i < length text → at text i ≡ Digit → IsInteger text i (integer_end text i)
  integer_is here d = elim (cases_Bool (byte text i == 48)) [
    | inr z ↦ subst (λ n. IsInteger text i n) (sym (other_end z)) (decimal d z (run_is Digits text (i + 1) (omega (arith, here))))
    | inl t ↦
        let z = eqb-true (byte text i) 48 t in
        let oct : (is_x (byte text (i + 1)) && nat_lt (i + 2) (run_end Hexes text (i + 2))) ≡ false → IsInteger text i (integer_end text i)
        = λ e. subst (λ n. IsInteger text i n) (sym (octal_end z e)) (octal z (run_is Octals text (i + 1) (omega (arith, here)))) in
        elim (cases_Bool (is_x (byte text (i + 1)))) [
          | inr e ↦ oct (no_digits_hex e)
          | inl x ↦ elim (cases_lt (i + 2) (run_end Hexes text (i + 2))) [
            | inr few ↦ oct (few_hex few)
            | inl some ↦
                let within = inside text (i + 1) (some_x (byte text (i + 1)) x) in
                subst (λ n. IsInteger text i n) (sym (hex_end z x some)) (hexadecimal z x some (run_is Hexes text (i + 2) (omega (arith, within))))
          ]
        ]
  ]

  pub integer_most : (n : ℕ) → IsInteger text i n → n ≤ integer_end text i
  integer_most n (decimal d z r) = omega (arith, other_end z, run_most Digits text (i + 1) n r)
  integer_most n (octal z r) =
      let most = run_most Octals text (i + 1) n r in
      elim (cases_Bool (is_x (byte text (i + 1)))) [
        | inr e ↦ omega (arith, octal_end z (no_digits_hex e), most)
        | inl x ↦ elim (cases_lt (i + 2) (run_end Hexes text (i + 2))) [
          | inr few ↦ omega (arith, octal_end z (few_hex few), most)
          | inl some ↦ elim (cases_lt (i + 1) n) [
            | inl more ↦ absurd (both_ways (in_set Octals (byte text (i + 1))) (not_octal_x (byte text (i + 1)) x) (r.all (i + 1) (omega arith) more))
            | inr less ↦ omega (arith, hex_end z x some, some, less)
          ]
        ]
      ]
  integer_most n (hexadecimal z x some r) =
      let most = run_most Hexes text (i + 2) n r in
      omega (arith, most, hex_end z x (omega (arith, some, most)))

  -- a number's digits, the first among them
  all_digits : (n : ℕ) → in_set Digits (byte text i) ≡ true → (i + 1 ≤ n) → n ≤ length text → ((k : ℕ) → i + 1 ≤ k → k < n → in_set Digits (byte text k) ≡ true) → Run Digits text i n
  all_digits n d low high all = record {
    ordered = omega arith;
    within = high;
    all = λ k from to. elim (cases_lt i k) [
      | inl more ↦ all k (omega (arith, more)) to
      | inr less ↦ let e : i ≡ k = omega (arith, less, from) in subst (λ j. in_set Digits (byte text j) ≡ true) e d
    ];
  }

  -- a float is longer than an integer
  pub float_longer : (m n : ℕ) → IsInteger text i m → IsFloat text i n → m < n
  float_longer m n (decimal d z r) f =
      let most = run_most Digits text i m (all_digits m (digit_class (byte text i) d) r.ordered r.within r.all) in
      omega (arith, most, (float_most text i n f).3)
  float_longer m n (octal z r) f =
      let most = run_most Digits text i m (all_digits m (ap (in_set Digits) z) r.ordered r.within (λ k from to. octal_digit (byte text k) (r.all k from to))) in
      omega (arith, most, (float_most text i n f).3)
  float_longer m n (hexadecimal z x some r) f =
      let one : Run Digits text i (i + 1) = all_digits (i + 1) (ap (in_set Digits) z) (omega arith) (omega (arith, inside text (i + 1) (some_x (byte text (i + 1)) x))) (λ k from to. absurd (omega (arith, from, to))) in
      let e : i + 1 ≡ run_end Digits text i = digits_meet text i (i + 1) one (not_digit_x (byte text (i + 1)) x) in
      absurd (no_float_hex e n f)
    where
      no_float_hex : i + 1 ≡ run_end Digits text i → (n : ℕ) → IsFloat text i n → ⊥
      no_float_hex e n (pointed p q whole point part more end) =
          let meet : p ≡ i + 1 = digits_meet text i p whole (not_digit_46 (byte text p) point) ∙ sym e in
          both_ways (is_x (byte text (i + 1))) (ap is_x (subst (λ k. byte text k ≡ 46) meet point)) x
      no_float_hex e n (raised p more whole y) =
          let meet : p ≡ i + 1 = digits_meet text i p whole (not_digit_e (byte text p) y.letter) ∙ sym e in
          both_ways (is_e (byte text (i + 1))) (not_e_x (byte text (i + 1)) x) (subst (λ k. is_e (byte text k) ≡ true) meet y.letter)
