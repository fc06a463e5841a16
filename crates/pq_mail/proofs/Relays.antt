-- Each kind of step keeps the rule of a mailbox: making it (`begins`), splitting a pass (`forks`),
-- sending (`puts`), a refused send (`holds`), receiving (`gets`), a refused receive (`nothing`),
-- joining two passes (`merges`). `leaves` is what a joined pass learns.
use Rattle.std.proofs.Common.{◌≡◌, ◌≢◌, ℕ, zero, suc, ◌+◌, ◌≤◌, true, false, true≢false, List, [], ◌∷◌, ◌++◌, length, set, sym, refl, ap, ◌∙◌, subst, ⊎_elim, append_assoc, arith, length-append}
use mathlib.Core.Option.{some, some-ne-none}
use lib.ListN.{get_elem?}
use Rattle.crossbeam_channel.specs.Fifo.{Pushes, Pops, Forks, Merges, Learns}
use Rattle.atomic_table.proofs.Lists.{at_set, at_snoc}
use Rattle.pq_mail.specs.declared.line.Line.{Line}
use Rattle.pq_mail.specs.aux.Lines.{line, AllFit, IsSeatedAt, Relayed, Put, Got, Holds, Nothing, Leaves}

module _ {T : Type 0} where
  at_end : (l : List (Line T)) (a b : Line T) (j : ℕ) → get_elem? l j ≢ some b → get_elem? (l ++ a ∷ []) j ≡ some b → j ≡ length l
  at_end [] a b zero n e = refl
  at_end [] a b (suc j) n e = absurd (some-ne-none b (sym e))
  at_end (x ∷ xs) a b zero n e = absurd (n e)
  at_end (x ∷ xs) a b (suc j) n e = ap suc (at_end xs a b j n e)

  abbrev All : (ℕ → Line T → Type 0) → List (Line T) → Type 0
  All F views = (port : ℕ) (v : Line T) → get_elem? views port ≡ some v → F port v

  all_set : (F : ℕ → Line T → Type 0) (views : List (Line T)) (port : ℕ) (w : Line T) → F port w → ((j : ℕ) (u : Line T) → j ≢ port → get_elem? views j ≡ some u → F j u) → All F (set views port w)
  all_set F views port w mine others j u e = ⊎_elim (λ (x : (j ≡ port) × (w ≡ u)). subst (λ (y : ℕ × Line T). F y.0 y.1) (λ i. (sym x.0 i, x.1 i)) mine)
      (λ (x : (j ≢ port) × (get_elem? views j ≡ some u)). others j u x.0 x.1) (at_set views port j w u e)

  pub begins : (fits : ℕ → T → Type 0) → Relayed fits [] (line true true [] [] ∷ [])
  begins fits = (0, 0, [], [], refl, omega arith, tt, all_set (IsSeatedAt 0 0 [] []) (line true true [] [] ∷ []) 0 (line true true [] []) ((λ _. (refl, refl)), λ _. (refl, refl)) (λ j u other e. absurd (other (at_end [] _ u j (λ x. some-ne-none u (sym x)) e))))

  module _ (fits : ℕ → T → Type 0) where
    fit_snoc : (n : ℕ) (xs : List T) (x : T) → AllFit fits n xs → fits (n + length xs) x → AllFit fits n (xs ++ x ∷ [])
    fit_snoc n [] x h e = (subst (λ k. fits k x) (omega arith) e, tt)
    fit_snoc n (y ∷ ys) x h e = (h.0, fit_snoc (n + 1) ys x h.1 (subst (λ k. fits k x) (omega arith) e))

    fit_mid : (n : ℕ) (xs : List T) (x : T) (ys : List T) → AllFit fits n (xs ++ x ∷ ys) → fits (n + length xs) x
    fit_mid n [] x ys h = subst (λ k. fits k x) (omega arith) h.0
    fit_mid n (y ∷ xs) x ys h = subst (λ k. fits k x) (omega arith) (fit_mid (n + 1) xs x ys h.1)

    pub puts : (port : ℕ) (v : Line T) (x : T) → v.puts ≡ true → fits (length v.put) x → Pushes (Relayed fits) 32 port v x (Put v x)
    puts port v x may fit items views room h at = let w : Line T = line v.puts v.gets (v.put ++ x ∷ []) v.got in let mine = h.7 port v at in let put = h.2 ++ x ∷ [] in
        let same : v.put ≡ h.2 = (mine.0 may).1 in (
          w,
          (
            h.0,
            h.1,
            put,
            h.3,
            ap (λ l. l ++ x ∷ []) h.4 ∙ append_assoc h.3 items (x ∷ []),
            omega (arith, length-append items (x ∷ [])),
            fit_snoc 0 h.2 x h.6 (subst (λ k. fits k x) (let e = ap length same in omega arith) fit),
            all_set (IsSeatedAt h.0 h.1 put h.3) views port w ((λ _. ((mine.0 may).0, ap (λ l. l ++ x ∷ []) same)), mine.1)
                (λ j u other e. ((λ p. absurd (other (((h.7 j u e).0 p).0 ∙ sym (mine.0 may).0))), (h.7 j u e).1)),
          ),
          refl,
        )

    pub gets : (port : ℕ) (v : Line T) → v.gets ≡ true → Pops (Relayed fits) port v (Got fits v)
    gets port v may x items views h at = let w : Line T = line v.puts v.gets v.put (v.got ++ x ∷ []) in let mine = h.7 port v at in let got = h.3 ++ x ∷ [] in
        let same : v.got ≡ h.3 = (mine.1 may).1 in
        let fit : fits (length v.got) x = subst (λ k. fits k x) (let e = ap length same in omega arith) (fit_mid 0 h.3 x items (subst (λ l. AllFit fits 0 l) h.4 h.6)) in (
          w,
          (
            h.0,
            h.1,
            h.2,
            got,
            h.4 ∙ sym (append_assoc h.3 (x ∷ []) items),
            (let few : suc (length items) ≤ 32 = h.5 in omega arith),
            h.6,
            all_set (IsSeatedAt h.0 h.1 h.2 got) views port w (mine.0, λ _. ((mine.1 may).0, ap (λ l. l ++ x ∷ []) same))
                (λ j u other e. ((h.7 j u e).0, λ p. absurd (other (((h.7 j u e).1 p).0 ∙ sym (mine.1 may).0)))),
          ),
          (refl, fit),
        )

    pub forks : (port : ℕ) (v : Line T) → v.puts ≡ true → v.gets ≡ true → Forks (Relayed fits) port v (line true false v.put []) (line false true [] v.got)
    forks port v a b items views h at = let l : Line T = line true false v.put [] in let r : Line T = line false true [] v.got in let mine = h.7 port v at in let vs : List (Line T) = set views port l in
        let Old : ℕ → Line T → Type 0 = λ j u. (u.puts ≡ true → (j ≡ h.0) × (u.put ≡ h.2)) × (u.gets ≢ true) in
        let old : All Old vs = all_set Old views port l ((λ _. mine.0 a), λ p. true≢false (sym p)) (λ j u other e. ((h.7 j u e).0, λ p. other (((h.7 j u e).1 p).0 ∙ sym (mine.1 b).0))) in (
          h.0,
          length vs,
          h.2,
          h.3,
          h.4,
          h.5,
          h.6,
          λ j u e. ⊎_elim (λ x. ((old j u x).0, λ p. absurd ((old j u x).1 p)))
              (λ (is : r ≡ u). ((λ p. absurd (true≢false (sym (ap (λ (y : Line T). y.puts) is ∙ p)))), λ p. (at_end vs r u j (λ x. (old j u x).1 p) e, ap (λ (y : Line T). y.got) (sym is) ∙ (mine.1 b).1))) (at_snoc vs r u j e),
        )

    pub holds : (port : ℕ) (v : Line T) → v.puts ≡ true → Learns (Relayed fits) port v (Holds v)
    holds port v a items views h at = let mine = h.7 port v at in (h.3, (mine.0 a).1 ∙ h.4)

    pub nothing : (port : ℕ) (v : Line T) → Learns (Relayed fits) port v (Nothing v)
    nothing port v items views h at = tt

    pub merges : (port : ℕ) (v : Line T) (other : ℕ) (u : Line T) → v.puts ≡ true → u.gets ≡ true → Merges (Relayed fits) port v other u (line true true v.put u.got) (line false false [] [])
    merges port v other u a b items views h at two at' = let both : Line T = line true true v.put u.got in let mine = h.7 port v at in let vs : List (Line T) = set views port both in
        let was : get_elem? views other ≡ some u = ⊎_elim (λ x. absurd (two x.0)) (λ x. x.1) (at_set views port other both u at') in let theirs = (h.7 other u was).1 b in
        let Now : ℕ → Line T → Type 0 = λ j y. j ≢ other → IsSeatedAt h.0 port h.2 h.3 j y in
        let now : All Now vs = all_set Now views port both (λ _. ((λ _. mine.0 a), λ _. (refl, theirs.1))) (λ j y _ e apart. ((h.7 j y e).0, λ p. absurd (apart (((h.7 j y e).1 p).0 ∙ sym theirs.0)))) in
        (h.0, port, h.2, h.3, h.4, h.5, h.6, all_set (IsSeatedAt h.0 port h.2 h.3) vs other (line false false [] []) ((λ p. absurd (true≢false (sym p))), λ p. absurd (true≢false (sym p))) (λ j y apart e. now j y e apart))

    pub leaves : (port : ℕ) (v : Line T) → v.puts ≡ true → v.gets ≡ true → Learns (Relayed fits) port v (Leaves v)
    leaves port v a b items views h at = let mine = h.7 port v at in (mine.0 a).1 ∙ h.4 ∙ ap (λ l. l ++ items) (sym (mine.1 b).1)
