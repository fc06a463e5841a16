-- The numbers of keys, in a map that is searched by codes: what is found, and what a claim changes.
use Rattle.std.proofs.Common.{◌≡◌, ℕ, List, ◌⊎◌, inl, inr, Option, Some, None, IsSome, refl, sym, ◌∙◌, ap, subst, Bool, true, false, cond}
use Rattle.std.specs.declared.cmp.Ordering.{Ordering}
use Rattle.std.specs.declared.result.Result.{Result}
use Rattle.std.specs.declared.result.Result.TheVariants.{Ok, Err}
use Rattle.std.specs.Ordering.{is_eq, nat_cmp}
use Rattle.std.specs.Cmp.{Equal-is, tied_itself}
use Rattle.std.specs.Option.{IfSome, IfNone}
use Rattle.std.specs.Result.{IfOk, OnErr}
use Rattle.std.proofs.lemmas.Bool.{cases_Bool}
use Rattle.std.proofs.lemmas.Option.{same_Some}
use Rattle.std.proofs.lemmas.Cmp.{nat_cmp_total}
use Rattle.std.proofs.lemmas.Map.Lookups.{exact_unsigned}
use Rattle.pq_rules.proofs.Weight.{Exact}
use Rattle.pq_memo.specs.aux.Stack.{place_in}
use Rattle.pq_memo.specs.aux.Numbers.{Coded, AreCoded, first_in, number_by, number_in}
use Rattle.pq_memo.proofs.Numbered.{same_key, tied, none_some}

nat_exact : Exact nat_cmp
nat_exact = record { total = nat_cmp_total; exact = exact_unsigned }

none_is : (A : Type 0) → IsSome {T = A} None → ⊥
none_is A h = cc

not_is : (b : Bool) → b ≡ false → b ≡ true → ⊥
not_is b x y = cc

pub some_is : {A : Type 0} (o : Option A) (x : A) → Some x ≡ o → IsSome o
some_is o x e = subst (λ (p : Option _). IsSome p) e refl

-- both ways an option can be
which : {A : Type 0} (P : Type 0) (o : Option A) → (o ≡ None → P) → ((x : A) → o ≡ Some x → P) → P
which P None none some = none refl
which P (Some x) none some = some x refl

module _ {K : Type 0} (order : K → K → Ordering) (exact : Exact order) (code : K → ℕ) where
  apart : (a b : K) → (a ≡ b → ⊥) → is_eq (order a b) ≡ false
  apart a b ne = elim (cases_Bool (is_eq (order a b))) [ inl is ↦ absurd (ne (same_key order exact a b is)) | inr not ↦ not ]

  -- a key that is not the first of its code
  pub other_number : (codes : List (ℕ × (K × ℕ))) (others : List (K × ℕ)) (now : Coded K) → record { codes = codes; others = others } ≡ now
      → (k : K) (h : ℕ) (e : K × ℕ) → h ≡ code k → Some e ≡ first_in codes h → (e.0 ≡ k → ⊥) → place_in order others k ≡ number_in order code now k
  other_number codes others now view k h e made first ne =
      sym (ap (λ (b : Bool). cond b (Some e.1) (place_in order others k)) (apart e.0 k ne))
      ∙ ap (λ (o : Option (K × ℕ)). number_by order k o (place_in order others k)) (first ∙ ap (λ (c : ℕ). first_in codes c) made)
      ∙ ap (λ (n : Coded K). number_in order code n k) view

  -- what a claim of `copy` among the others changes
  module _ (old new : List (K × ℕ)) (copy : K) (number : ℕ) where
    abbrev pub IsKept : Type 0
    IsKept = (q : K) → place_in order new q ≡ place_in order old q

    abbrev pub IsAdded : Type 0
    IsAdded = (q : K) → place_in order new q ≡ cond (is_eq (order copy q)) (Some number) (place_in order old q)

    pub claimed_by : {E : Type 0} (r : Result (Option ℕ) E) → IfOk r (λ o. IfSome o (λ n. IsKept)) → IfOk r (λ o. IfNone o IsAdded) → OnErr r IsKept → IsKept ⊎ IsAdded
    claimed_by (Ok (Some n)) same put refused = inl same
    claimed_by (Ok None) same put refused = inr put
    claimed_by (Err x) same put refused = inl refused

    module _ (codes : List (ℕ × (K × ℕ))) (key : K) (copied : copy ≡ key) where
      pub coded_claimed : AreCoded order code codes old → IsSome (first_in codes (code key)) → IsKept ⊎ IsAdded → AreCoded order code codes new
      coded_claimed are some way = record { first = λ k n h. by k n h way }
        where
          by : (k : K) (n : ℕ) → place_in order new k ≡ Some n → IsKept ⊎ IsAdded → IsSome (first_in codes (code k))
          by k n h (inl kept) = are.first k n (sym (kept k) ∙ h)
          by k n h (inr added) = elim (cases_Bool (is_eq (order copy k))) [
            | inl is ↦ subst (λ (q : K). IsSome (first_in codes (code q))) (sym copied ∙ same_key order exact copy k is) some
            | inr not ↦ are.first k n (sym (added k ∙ ap (λ (b : Bool). cond b (Some number) (place_in order old k)) not) ∙ h)
          ]

      -- the numbers after a claim of a key that is not the first of its code
      pub claimed_put : (now : Coded K) → record { codes = codes; others = old } ≡ now → (h : ℕ) (e : K × ℕ) → h ≡ code key → Some e ≡ first_in codes h → (e.0 ≡ key → ⊥) → IsAdded → (q : K)
          → number_in order code (record { codes = codes; others = new }) q ≡ cond (is_eq (order key q)) (Some number) (number_in order code now q)
      claimed_put now view h e made first ne added q =
          by (first_in codes (code q)) refl ∙ ap (λ (n : Coded K). cond (is_eq (order key q)) (Some number) (number_in order code n q)) view
        where
          here : key ≡ q → Some e ≡ first_in codes (code q)
          here eq = first ∙ ap (λ (c : ℕ). first_in codes c) (made ∙ ap (λ (k : K). code k) eq)

          by : (o : Option (K × ℕ)) → first_in codes (code q) ≡ o
              → number_by order q o (place_in order new q) ≡ cond (is_eq (order key q)) (Some number) (number_by order q o (place_in order old q))
          by None is = sym (ap (λ (b : Bool). cond b (Some number) None) (apart key q (λ eq. none_some e (sym (here eq ∙ is)))))
          by (Some d) is = elim (cases_Bool (is_eq (order d.0 q))) [
            | inl tie ↦ (let other : key ≡ q → ⊥ = λ eq. ne (ap (λ (p : K × ℕ). p.0) (same_Some e d (here eq ∙ is)) ∙ same_key order exact d.0 q tie ∙ sym eq) in
                ap (λ (b : Bool). cond b (Some d.1) (place_in order new q)) tie
                ∙ sym (ap (λ (b : Bool). cond b (Some d.1) (place_in order old q)) tie)
                ∙ sym (ap (λ (b : Bool). cond b (Some number) (number_by order q (Some d) (place_in order old q))) (apart key q other)))
            | inr differ ↦ ap (λ (b : Bool). cond b (Some d.1) (place_in order new q)) differ
                ∙ added q ∙ ap (λ (k : K). cond (is_eq (order k q)) (Some number) (place_in order old q)) copied
                ∙ ap (λ (o : Option ℕ). cond (is_eq (order key q)) (Some number) o) (sym (ap (λ (b : Bool). cond b (Some d.1) (place_in order old q)) differ))
          ]

  -- the numbers after a key was made the first of its code
  pub first_put : (codes new : List (ℕ × (K × ℕ))) (others : List (K × ℕ)) (now : Coded K) → record { codes = codes; others = others } ≡ now → AreCoded order code codes others
      → (key copy : K) (number h : ℕ) → copy ≡ key → h ≡ code key → None ≡ first_in codes h
      → ((c : ℕ) → first_in new c ≡ cond (is_eq (nat_cmp h c)) (Some (copy, number)) (first_in codes c))
      → (q : K) → number_in order code (record { codes = new; others = others }) q ≡ cond (is_eq (order key q)) (Some number) (number_in order code now q)
  first_put codes new others now view are key copy number h copied made none puts q =
      ap (λ (o : Option (K × ℕ)). number_by order q o (place_in order others q)) (puts (code q))
      ∙ elim (cases_Bool (is_eq (nat_cmp h (code q)))) [
        | inl tie ↦ (let same : h ≡ code q = same_key nat_cmp nat_exact h (code q) tie in
            ap (λ (b : Bool). number_by order q (cond b (Some (copy, number)) (first_in codes (code q))) (place_in order others q)) tie
            ∙ ap (λ (k : K). cond (is_eq (order k q)) (Some number) (place_in order others q)) copied
            ∙ ap (λ (o : Option ℕ). cond (is_eq (order key q)) (Some number) o) (gone same ∙ sym (absent same)))
        | inr differ ↦ (let other : key ≡ q → ⊥ = λ eq. not_is (is_eq (nat_cmp h (code q))) differ (tied nat_cmp nat_exact h (code q) (made ∙ ap (λ (k : K). code k) eq)) in
            ap (λ (b : Bool). number_by order q (cond b (Some (copy, number)) (first_in codes (code q))) (place_in order others q)) differ
            ∙ sym (ap (λ (b : Bool). cond b (Some number) (number_by order q (first_in codes (code q)) (place_in order others q))) (apart key q other)))
      ]
      ∙ ap (λ (n : Coded K). cond (is_eq (order key q)) (Some number) (number_in order code n q)) view
    where
      free : h ≡ code q → first_in codes (code q) ≡ None
      free same = sym (none ∙ ap (λ (c : ℕ). first_in codes c) same)

      -- no other key has the code
      gone : h ≡ code q → place_in order others q ≡ None
      gone same = which (place_in order others q ≡ None) (place_in order others q) (λ e. e)
          (λ n e. absurd (none_is (K × ℕ) (subst (λ (o : Option (K × ℕ)). IsSome o) (free same) (are.first q n e))))

      absent : h ≡ code q → number_by order q (first_in codes (code q)) (place_in order others q) ≡ None
      absent same = ap (λ (o : Option (K × ℕ)). number_by order q o (place_in order others q)) (free same)

pub none_weaker : {A : Type 0} {P Q : Type 0} (o : Option A) → (P → Q) → IfNone o P → IfNone o Q
none_weaker None f h = f h
none_weaker (Some x) f h = tt
