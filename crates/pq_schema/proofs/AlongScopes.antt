-- The search of the scopes from a package outwards, by where the names of a scope begin.
use Rattle.std.proofs.Common.{◌≡◌, ℕ, zero, suc, ◌+◌, ◌-◌, ◌<◌, ◌≤◌, Bool, true, false, cond, nat_eq, true≢false, length, get_or, take, map, List, [], ◌∷◌, ◌++◌, Option, Some, None, inl, inr, refl, sym, ap, ◌∙◌, arith}
use Rattle.std.specs.Prelude.{find, option_map}
use Rattle.std.specs.Option.{option_or}
use Rattle.std.proofs.lemmas.Bool.{cases_lt}
use Rattle.std.proofs.lemmas.Bool.Decides.{Decides-eqb}
use Rattle.std.proofs.lemmas.List.{get_or_default, get_or_past, length-take-le, take_all}
use Rattle.std.proofs.lemmas.List.Folds.{find-append}
use Rattle.pq_schema.specs.Definitions.{qualified}
use Rattle.pq_schema.specs.Resolution.{is_package, prefixes, scopes}
use Rattle.pq_schema.specs.declared.scope.scope.FileDefs.{FileDefs}
use Rattle.pq_schema.specs.aux.Along.{IsAlong, IsLastStart, IsPlain, IsStart, scope_before}
use Rattle.pq_schema.proofs.Cases.{either}

find_longer : (p : List ℕ → Bool) (c : ℕ) (ss : List (List ℕ))
    → find p (map (λ s. c ∷ s) ss) ≡ option_map (λ s. c ∷ s) (find (λ s. p (c ∷ s)) ss)
find_longer p c [] = refl
find_longer p c (s ∷ ss) =
    either (p (c ∷ s))
    (λ b. cond b (Some (c ∷ s)) (find p (map (λ s. c ∷ s) ss)) ≡ option_map (λ s. c ∷ s) (cond b (Some s) (find (λ s. p (c ∷ s)) ss)))
    (λ _. refl) (λ _. find_longer p c ss)

-- ---- the prefixes before dots

prefixes_none : (p : List ℕ → Bool) (w : List ℕ) → ((j : ℕ) → j < length w → get_or w j 0 ≡ 46 → p (take j w) ≡ false)
    → find p (prefixes w) ≡ None
unfolding prefixes
prefixes_none p [] h = refl
prefixes_none p (c ∷ cs) h =
    find-append p (map (λ s. c ∷ s) (prefixes cs)) (cond (nat_eq c 46) ([] ∷ []) [])
    ∙ ap (λ (o : Option (List ℕ)). option_or o (find p (cond (nat_eq c 46) ([] ∷ []) [])))
    (find_longer p c (prefixes cs)
    ∙ ap (λ (o : Option (List ℕ)). option_map (λ s. c ∷ s) o) (prefixes_none (λ s. p (c ∷ s)) cs (λ j l d. h (suc j) (omega arith) d)))
    ∙ either (nat_eq c 46) (λ b. find p (cond b ([] ∷ []) []) ≡ None)
    (λ t. ap (λ (b : Bool). cond b (Some []) None) (h 0 (omega arith) ((Decides-eqb c 46).0 t)))
    (λ _. refl)

prefixes_some : (p : List ℕ → Bool) (w : List ℕ) (j : ℕ) → j < length w → get_or w j 0 ≡ 46 → p (take j w) ≡ true
    → ((i : ℕ) → j < i → i < length w → get_or w i 0 ≡ 46 → p (take i w) ≡ false)
    → find p (prefixes w) ≡ Some (take j w)
unfolding prefixes
prefixes_some p [] j within dot t h = absurd (omega arith)
prefixes_some p (c ∷ cs) zero within dot t h =
    find-append p (map (λ s. c ∷ s) (prefixes cs)) (cond (nat_eq c 46) ([] ∷ []) [])
    ∙ ap (λ (o : Option (List ℕ)). option_or o (find p (cond (nat_eq c 46) ([] ∷ []) [])))
    (find_longer p c (prefixes cs)
    ∙ ap (λ (o : Option (List ℕ)). option_map (λ s. c ∷ s) o) (prefixes_none (λ s. p (c ∷ s)) cs (λ j l d. h (suc j) (omega arith) (omega arith) d)))
    ∙ ap (λ (b : Bool). find p (cond b ([] ∷ []) [])) ((Decides-eqb c 46).1 dot)
    ∙ ap (λ (b : Bool). cond b (Some []) None) t
prefixes_some p (c ∷ cs) (suc j) within dot t h =
    find-append p (map (λ s. c ∷ s) (prefixes cs)) (cond (nat_eq c 46) ([] ∷ []) [])
    ∙ ap (λ (o : Option (List ℕ)). option_or o (find p (cond (nat_eq c 46) ([] ∷ []) [])))
    (find_longer p c (prefixes cs)
    ∙ ap (λ (o : Option (List ℕ)). option_map (λ s. c ∷ s) o)
    (prefixes_some (λ s. p (c ∷ s)) cs j (omega arith) dot t (λ i after l d. h (suc i) (omega arith) (omega arith) d)))

-- ---- the scopes

start_none : (root : List ℕ) → IsStart root 0
start_none root = record { within = omega arith; after = λ some. absurd (omega arith) }

start_root : (root : List ℕ) → 0 < length root → IsStart root (length root + 1)
start_root root some =
    let back : length root + 1 - 1 ≡ length root = omega arith in
    record {
      within = omega arith;
      after = λ _. (omega arith, ap (λ (n : ℕ). get_or root n 46) back ∙ get_or_past root (length root) 46 (omega arith));
    }

whole : (root : List ℕ) → scope_before root (length root + 1) ≡ root
whole root = take_all (length root + 1 - 1) root (omega arith)

start_dot : (root : List ℕ) (j : ℕ) → 0 < j → j < length root → get_or root j 0 ≡ 46 → IsStart root (j + 1)
start_dot root j some within dot =
    let back : j + 1 - 1 ≡ j = omega arith in
    record {
      within = omega arith;
      after = λ _. (omega arith, ap (λ (n : ℕ). get_or root n 46) back ∙ get_or_default root j 46 0 within ∙ dot);
    }

back_dot : (root : List ℕ) (j : ℕ) → scope_before root (j + 1) ≡ take j root
back_dot root j = let back : j + 1 - 1 ≡ j = omega arith in ap (λ (n : ℕ). take n root) back

module _ (p : List ℕ → Bool) where
  at_dot : (root : List ℕ) (low : ℕ) → ((u : ℕ) → low ≤ u → IsStart root u → p (scope_before root u) ≡ false)
      → (j : ℕ) → low ≤ j → 0 < j → j < length root → get_or root j 0 ≡ 46 → p (take j root) ≡ false
  at_dot root low h j up some within dot = ap p (sym (back_dot root j)) ∙ h (j + 1) (omega arith) (start_dot root j some within dot)

  not_whole : (root : List ℕ) (low : ℕ) → ((u : ℕ) → low ≤ u → IsStart root u → p (scope_before root u) ≡ false)
      → 0 < length root → low ≤ length root + 1 → p root ≡ false
  not_whole root low h some up = ap p (sym (whole root)) ∙ h (length root + 1) up (start_root root some)

  pub scopes_none : (root : List ℕ) → ((u : ℕ) → IsStart root u → p (scope_before root u) ≡ false) → find p (scopes root) ≡ None
  scopes_none [] h = ap (λ (b : Bool). cond b (Some []) None) (h 0 (start_none []))
  scopes_none (c ∷ cs) h =
      let root = c ∷ cs in
      let g = λ (u : ℕ) (l : 0 ≤ u) (s : IsStart root u). h u s in
      ap (λ (b : Bool). cond b (Some root) (find p (prefixes root ++ [] ∷ []))) (not_whole root 0 g (omega arith) (omega arith))
      ∙ find-append p (prefixes root) ([] ∷ [])
      ∙ ap (λ (o : Option (List ℕ)). option_or o (find p ([] ∷ []))) (prefixes_none p root (λ j within dot. each j within dot))
      ∙ ap (λ (b : Bool). cond b (Some []) None) (h 0 (start_none root))
    where
      each : (j : ℕ) → j < length (c ∷ cs) → get_or (c ∷ cs) j 0 ≡ 46 → p (take j (c ∷ cs)) ≡ false
      each zero within dot = h 0 (start_none (c ∷ cs))
      each (suc j) within dot = at_dot (c ∷ cs) 0 (λ u l s. h u s) (suc j) (omega arith) (omega arith) within dot

  -- the empty scope is the last
  at_last : (c : ℕ) (cs : List ℕ) → p [] ≡ true → ((u : ℕ) → 0 < u → IsStart (c ∷ cs) u → p (scope_before (c ∷ cs) u) ≡ false)
      → find p (prefixes (c ∷ cs) ++ [] ∷ []) ≡ Some []
  at_last c cs t h =
      find-append p (prefixes (c ∷ cs)) ([] ∷ [])
      ∙ either (nat_eq c 46) (λ b. option_or (find p (prefixes (c ∷ cs))) (find p ([] ∷ [])) ≡ Some [])
      (λ d. ap (λ (o : Option (List ℕ)). option_or o (find p ([] ∷ []))) (prefixes_some p (c ∷ cs) 0 (omega arith) ((Decides-eqb c 46).0 d) t (λ i some within dot. at_dot (c ∷ cs) 1 (λ u l s. h u (omega arith) s) i (omega arith) some within dot)))
      (λ d. ap (λ (o : Option (List ℕ)). option_or o (find p ([] ∷ []))) (prefixes_none p (c ∷ cs) (λ j within dot. each d j within dot))
      ∙ ap (λ (b : Bool). cond b (Some []) None) t)
    where
      each : nat_eq c 46 ≡ false → (j : ℕ) → j < length (c ∷ cs) → get_or (c ∷ cs) j 0 ≡ 46 → p (take j (c ∷ cs)) ≡ false
      each d zero within dot = absurd (true≢false (sym ((Decides-eqb c 46).1 dot) ∙ d))
      each d (suc j) within dot = at_dot (c ∷ cs) 1 (λ u l s. h u (omega arith) s) (suc j) (omega arith) (omega arith) within dot

  pub scopes_some : (root : List ℕ) (start : ℕ) → IsStart root start → p (scope_before root start) ≡ true
      → ((u : ℕ) → start < u → IsStart root u → p (scope_before root u) ≡ false)
      → find p (scopes root) ≡ Some (scope_before root start)
  scopes_some [] zero s t h = ap (λ (b : Bool). cond b (Some []) None) t
  scopes_some [] (suc n) s t h =
      let one = (s.after (omega arith)).0 in
      let high = s.within in
      absurd (omega arith)
  scopes_some (c ∷ cs) zero s t h =
      ap (λ (b : Bool). cond b (Some (c ∷ cs)) (find p (prefixes (c ∷ cs) ++ [] ∷ [])))
      (not_whole (c ∷ cs) 1 (λ u l b. h u (omega arith) b) (omega arith) (omega arith))
      ∙ at_last c cs t h
  scopes_some (c ∷ cs) (suc n) s t h =
      let root = c ∷ cs in
      let a = s.after (omega arith) in
      let one = a.0 in
      let high = s.within in
      let back : suc n - 1 ≡ n = omega arith in
      let here : scope_before root (suc n) ≡ take n root = ap (λ (m : ℕ). take m root) back in
      elim (cases_lt n (length root)) [
        | inl inside ↦
            let dot : get_or root n 0 ≡ 46 = get_or_default root n 0 46 inside ∙ ap (λ (m : ℕ). get_or root m 46) (sym back) ∙ a.1 in
            ap (λ (b : Bool). cond b (Some root) (find p (prefixes root ++ [] ∷ [])))
            (not_whole root (suc n + 1) (λ u l b. h u (omega arith) b) (omega arith) (omega arith))
            ∙ find-append p (prefixes root) ([] ∷ [])
            ∙ ap (λ (o : Option (List ℕ)). option_or o (find p ([] ∷ [])))
            (prefixes_some p root n inside dot (ap p (sym here) ∙ t)
            (λ i after within d. ap p (sym (back_dot root i)) ∙ h (i + 1) (omega arith) (start_dot root i (omega arith) within d)))
            ∙ ap Some (sym here)
        | inr past ↦
            let all : take n root ≡ root = take_all n root past in
            ap (λ (b : Bool). cond b (Some root) (find p (prefixes root ++ [] ∷ []))) (ap p (sym (here ∙ all)) ∙ t) ∙ ap Some (sym (here ∙ all))
      ]

-- ---- the innermost scope in which a name is a package

pub innermost_is : (parts : List (List ℕ × ℕ)) (files : List FileDefs) (root name : List ℕ) (answer : Option ℕ)
    → IsAlong parts files root → IsPlain name → IsLastStart parts name answer
    → option_map (λ (start : ℕ). start - 1) answer ≡ option_map length (find (λ s. is_package files (qualified s name)) (scopes root))
innermost_is parts files root name None a plain last =
    sym (ap (λ (o : Option (List ℕ)). option_map length o) (scopes_none (λ s. is_package files (qualified s name)) root
    (λ u s. either (is_package files (qualified (scope_before root u) name)) (λ b. b ≡ false) (λ t. absurd (last u (a.all name u plain s t))) (λ _. refl))))
innermost_is parts files root name (Some start) a plain last =
    let there = a.each name start last.0 plain in
    let high = there.0.within in
    sym (ap (λ (o : Option (List ℕ)). option_map length o) (scopes_some (λ s. is_package files (qualified s name)) root start there.0 there.1
    (λ u up s. either (is_package files (qualified (scope_before root u) name)) (λ b. b ≡ false)
    (λ t. let low = last.1 u (a.all name u plain s t) in absurd (omega arith)) (λ _. refl)))
    ∙ ap Some (length-take-le (start - 1) root (omega arith)))
