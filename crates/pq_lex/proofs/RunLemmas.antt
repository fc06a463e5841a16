-- The first place where something holds, and the ends of runs.
use Rattle.std.proofs.Common.{◌≡◌, ◌⊎◌, inl, inr, ℕ, zero, suc, ◌+◌, ◌-◌, ◌<◌, ◌≤◌, Bool, true, false, not, List, length, refl, sym, ◌∙◌, subst, arith}
use Rattle.std.proofs.lemmas.Bool.{both_ways, cases_order, not-true}
use Rattle.pq_lex.specs.declared.bytes.Set.{Set}
use Rattle.pq_lex.specs.Classes.{in_set, byte}
use Rattle.pq_lex.specs.Runs.{first, run_end, Run}
use Rattle.pq_lex.specs.Tokens.{closes}
use Rattle.pq_lex.specs.aux.Scan.{close_at}

-- a number below i + suc k and not i is within the numbers after i
module _ (f : ℕ → Bool) where
  -- what the first place is, whatever f i
  first_here : (k i : ℕ) → f i ≡ true → first f (suc k) i ≡ i
  unfolding first
  first_here k i e = rw e refl

  first_next : (k i : ℕ) → f i ≡ false → first f (suc k) i ≡ first f k (suc i)
  unfolding first
  first_next k i e = rw e refl

  first_zero : (i : ℕ) → first f zero i ≡ i
  unfolding first
  first_zero i = refl

  known : (i : ℕ) → (f i ≡ true) ⊎ (f i ≡ false)
  known i = elim (f i) as (λ b. (b ≡ true) ⊎ (b ≡ false)) [ true ↦ inl refl | false ↦ inr refl ]

  pub first_one : (k i n : ℕ) → i ≤ n → n ≤ i + k → ((j : ℕ) → i ≤ j → j < n → f j ≡ false) → (n < i + k → f n ≡ true) → n ≡ first f k i
  first_one zero i n low high none here = omega (arith, low, high, first_zero i)
  first_one (suc k) i n low high none here = elim (known i) [
    | inl e ↦
        let at : n ≡ i = elim (cases_order i n) [
          | inl same ↦ sym same
          | inr o ↦ elim o [ inl less ↦ absurd (both_ways (f i) (none i (omega arith) less) e) | inr more ↦ absurd (omega (arith, low, more)) ]
        ] in
        at ∙ sym (first_here k i e)
    | inr e ↦
        let past : i < n = elim (cases_order i n) [
          | inl same ↦ absurd (both_ways (f i) e (subst (λ m. f m ≡ true) (sym same) (here (omega (arith, same)))))
          | inr o ↦ elim o [ inl less ↦ less | inr more ↦ absurd (omega (arith, low, more)) ]
        ] in
        first_one k (suc i) n (omega (arith, past)) (omega (arith, high)) (λ j l h. none j (omega (arith, l)) h) (λ h. here (omega (arith, h))) ∙ sym (first_next k i e)
  ]

  pub first_low : (k i : ℕ) → i ≤ first f k i
  first_low zero i = omega (arith, first_zero i)
  first_low (suc k) i = elim (known i) [
    | inl e ↦ omega (arith, first_here k i e)
    | inr e ↦ omega (arith, first_next k i e, first_low k (suc i))
  ]

  pub first_high : (k i : ℕ) → first f k i ≤ i + k
  first_high zero i = omega (arith, first_zero i)
  first_high (suc k) i = elim (known i) [
    | inl e ↦ omega (arith, first_here k i e)
    | inr e ↦ omega (arith, first_next k i e, first_high k (suc i))
  ]

  pub first_none : (k i j : ℕ) → i ≤ j → j < first f k i → f j ≡ false
  first_none zero i j low high = absurd (omega (arith, low, high, first_zero i))
  first_none (suc k) i j low high = elim (known i) [
    | inl e ↦ absurd (omega (arith, low, high, first_here k i e))
    | inr e ↦ elim (cases_order i j) [
      | inl same ↦ subst (λ m. f m ≡ false) same e
      | inr o ↦ elim o [ inl less ↦ first_none k (suc i) j (omega (arith, less)) (omega (arith, high, first_next k i e)) | inr more ↦ absurd (omega (arith, low, more)) ]
    ]
  ]

  pub first_holds : (k i : ℕ) → first f k i < i + k → f (first f k i) ≡ true
  first_holds zero i h = absurd (omega (arith, h, first_zero i))
  first_holds (suc k) i h = elim (known i) [
    | inl e ↦ subst (λ m. f m ≡ true) (sym (first_here k i e)) e
    | inr e ↦ subst (λ m. f m ≡ true) (sym (first_next k i e)) (first_holds k (suc i) (omega (arith, h, first_next k i e)))
  ]

pub not_false : (b : Bool) → not b ≡ false → b ≡ true
not_false true e = refl
not_false false e = sym e

not_of : (b : Bool) → b ≡ true → not b ≡ false
not_of b e = rw e refl

not_of_false : (b : Bool) → b ≡ false → not b ≡ true
not_of_false b e = rw e refl

module _ (set : Set) (text : List ℕ) (i : ℕ) where
  stops : ℕ → Bool
  stops k = not (in_set set (byte text k))

  pub run_low : i ≤ run_end set text i
  unfolding run_end
  run_low = first_low (λ k. not (in_set set (byte text k))) (length text - i) i

  pub run_high : i ≤ length text → run_end set text i ≤ length text
  unfolding run_end
  run_high h = omega (arith, h, first_high (λ k. not (in_set set (byte text k))) (length text - i) i)

  pub run_all : (k : ℕ) → i ≤ k → k < run_end set text i → in_set set (byte text k) ≡ true
  unfolding run_end
  run_all k low high = not_false _ (first_none (λ k. not (in_set set (byte text k))) (length text - i) i k low high)

  pub run_stop : run_end set text i < length text → in_set set (byte text (run_end set text i)) ≡ false
  unfolding run_end
  run_stop h = not-true _ (first_holds (λ k. not (in_set set (byte text k))) (length text - i) i (omega (arith, h)))

  pub run_is : i ≤ length text → Run set text i (run_end set text i)
  run_is h = record { ordered = run_low; within = run_high h; all = run_all }

  pub run_one : (n : ℕ) → Run set text i n → (n < length text → in_set set (byte text n) ≡ false) → n ≡ run_end set text i
  unfolding run_end
  run_one n r stop = first_one (λ k. not (in_set set (byte text k))) (length text - i) i n r.ordered (omega (arith, r.ordered, r.within))
      (λ j low high. not_of _ (r.all j low high)) (λ h. not_of_false _ (stop (omega (arith, r.ordered, r.within, h))))

  pub run_most : (n : ℕ) → Run set text i n → n ≤ run_end set text i
  run_most n r = elim (cases_order n (run_end set text i)) [
    | inl same ↦ omega (arith, same)
    | inr o ↦ elim o [
      | inl less ↦ omega (arith, less)
      | inr more ↦ absurd (both_ways (in_set set (byte text (run_end set text i))) (run_stop (omega (arith, more, r.within))) (r.all (run_end set text i) run_low more))
    ]
  ]

module _ (text : List ℕ) (i : ℕ) where
  pub close_one : (n : ℕ) → i ≤ n → n ≤ length text → ((k : ℕ) → i ≤ k → k < n → closes text k ≡ false) → (n < length text → closes text n ≡ true) → n ≡ close_at text i
  unfolding close_at
  close_one n low high none here = first_one (λ k. closes text k) (length text - i) i n low (omega (arith, low, high)) none (λ h. here (omega (arith, h, low, high)))

  pub close_low : i ≤ close_at text i
  unfolding close_at
  close_low = first_low (λ k. closes text k) (length text - i) i

  pub close_none : (k : ℕ) → i ≤ k → k < close_at text i → closes text k ≡ false
  unfolding close_at
  close_none k low high = first_none (λ k. closes text k) (length text - i) i k low high

  pub close_here : close_at text i < length text → closes text (close_at text i) ≡ true
  unfolding close_at
  close_here h = first_holds (λ k. closes text k) (length text - i) i (omega (arith, h))
