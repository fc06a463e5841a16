-- The slots of a table: what a number finds, and what a slot that is written or added changes.
use Rattle.std.proofs.Common.{◌≡◌, ℕ, zero, suc, ◌<◌, List, [], ◌∷◌, ◌++◌, length, ◌⊎◌, Option, Some, None, IsSome, refl, sym, ◌∙◌, ap, subst, inl, inr, arith, Bool, true, false, cond}
use Rattle.std.specs.declared.cmp.Ordering.{Ordering}
use Rattle.std.specs.Ordering.{is_eq}
use Rattle.std.specs.Cmp.{Equal-is, tied_itself}
use Rattle.std.specs.Map.{lookup}
use Rattle.std.specs.BTreeMap.{is_at}
use Rattle.std.proofs.lemmas.Option.{same_Some}
use Rattle.std.proofs.lemmas.Bool.{cases_Bool}
use Rattle.pq_rules.proofs.Weight.{Exact}
use Rattle.pq_memo.specs.Table.{key_at}
use Rattle.pq_memo.specs.aux.Slots.{value_at, with_at, IsNumbered}

-- `Only slots n k` is that no slot but `n` has the key `k`
abbrev Only : {K X : Type 0} → List (K × X) → ℕ → K → Type 0
Only slots n k = (i : ℕ) → key_at slots i ≡ Some k → i ≡ n

only_one : {K X : Type 0} (number : K → Option ℕ) (slots : List (K × X)) → IsNumbered number slots
    → (k : K) (n : ℕ) → key_at slots n ≡ Some k → Only slots n k
only_one number slots is k n there i h = same_Some i n (sym (is.known k i h) ∙ is.known k n there)

pub none_some : {A : Type 0} (x : A) → None ≡ Some x → ⊥
none_some x e = cc

suc_same : (i n : ℕ) → suc i ≡ suc n → i ≡ n
suc_same i n e = omega arith

suc_zero : (i : ℕ) → 0 ≡ suc i → ⊥
suc_zero i e = omega arith

true_false : (b : Bool) → b ≡ true → b ≡ false → ⊥
true_false b x y = cc

module _ {K X : Type 0} where
  -- a slot that is written keeps its key
  pub key_with : (slots : List (K × X)) (n : ℕ) (x : X) (i : ℕ) → key_at (with_at slots n x) i ≡ key_at slots i
  key_with [] n x i = refl
  key_with (e ∷ es) zero x zero = refl
  key_with (e ∷ es) zero x (suc i) = refl
  key_with (e ∷ es) (suc n) x zero = refl
  key_with (e ∷ es) (suc n) x (suc i) = key_with es n x i

  pub value_with : (slots : List (K × X)) (n : ℕ) (x : X) (k : K) → key_at slots n ≡ Some k → value_at (with_at slots n x) n ≡ Some x
  value_with [] n x k h = absurd (none_some k h)
  value_with (e ∷ es) zero x k h = refl
  value_with (e ∷ es) (suc n) x k h = value_with es n x k h

  -- a slot with a key has a value
  pub has_value : (slots : List (K × X)) (n : ℕ) (k : K) → key_at slots n ≡ Some k → IsSome (value_at slots n)
  has_value [] n k h = absurd (none_some k h)
  has_value (e ∷ es) zero k h = refl
  has_value (e ∷ es) (suc n) k h = has_value es n k h

  pub key_within : (slots : List (K × X)) (n : ℕ) (k : K) → key_at slots n ≡ Some k → n < length slots
  key_within [] n k h = absurd (none_some k h)
  key_within (e ∷ es) zero k h = omega arith
  key_within (e ∷ es) (suc n) k h = let l : n < length es = key_within es n k h in omega arith

  pub key_last : (slots : List (K × X)) (k : K) (x : X) → key_at (slots ++ (k, x) ∷ []) (length slots) ≡ Some k
  key_last [] k x = refl
  key_last (e ∷ es) k x = key_last es k x

  -- the slots before one that was added
  pub key_before : (slots : List (K × X)) (k : K) (x : X) (i : ℕ) (q : K) → key_at slots i ≡ Some q → key_at (slots ++ (k, x) ∷ []) i ≡ Some q
  key_before [] k x i q h = absurd (none_some q h)
  key_before (e ∷ es) k x zero q h = h
  key_before (e ∷ es) k x (suc i) q h = key_before es k x i q h

  pub key_after : (slots : List (K × X)) (k : K) (x : X) (i : ℕ) (q : K) → key_at (slots ++ (k, x) ∷ []) i ≡ Some q
      → (key_at slots i ≡ Some q) ⊎ ((i ≡ length slots) × (q ≡ k))
  key_after [] k x zero q h = inr (refl, sym (same_Some k q h))
  key_after [] k x (suc i) q h = absurd (none_some q h)
  key_after (e ∷ es) k x zero q h = inl h
  key_after (e ∷ es) k x (suc i) q h = elim (key_after es k x i q h) [
    | inl j ↦ inl j
    | inr j ↦ inr (ap (λ (n : ℕ). suc n) j.0, j.1)
  ]

module _ {K : Type 0} (order : K → K → Ordering) (exact : Exact order) where
  pub same_key : (a b : K) → is_eq (order a b) ≡ true → a ≡ b
  same_key a b is = exact.exact a b ((Equal-is (order a b)).0 is)

  pub tied : (a b : K) → a ≡ b → is_eq (order a b) ≡ true
  tied a b e = subst (λ (y : K). is_eq (order a y) ≡ true) e ((Equal-is (order a a)).1 (tied_itself exact.total a))

  module _ {X : Type 0} where
    -- the value of the slot that has the key
    pub lookup_there : (slots : List (K × X)) (n : ℕ) (k : K) → key_at slots n ≡ Some k → Only slots n k → lookup (is_at (order k)) slots ≡ value_at slots n
    lookup_there [] n k h only = absurd (none_some k h)
    lookup_there (e ∷ es) zero k h only =
        ap (λ (b : Bool). cond b (Some e.1) (lookup (is_at (order k)) es)) (tied k e.0 (sym (same_Some e.0 k h)))
    lookup_there (e ∷ es) (suc n) k h only = elim (cases_Bool (is_eq (order k e.0))) [
      | inl is ↦ absurd (suc_zero n (only 0 (ap (λ (y : K). Some y) (sym (same_key k e.0 is)))))
      | inr not ↦ ap (λ (b : Bool). cond b (Some e.1) (lookup (is_at (order k)) es)) not
          ∙ lookup_there es n k h (λ i g. suc_same i n (only (suc i) g))
    ]

    pub lookup_none : (slots : List (K × X)) (k : K) → ((n : ℕ) → key_at slots n ≡ Some k → ⊥) → lookup (is_at (order k)) slots ≡ None
    lookup_none [] k out = refl
    lookup_none (e ∷ es) k out = elim (cases_Bool (is_eq (order k e.0))) [
      | inl is ↦ absurd (out 0 (ap (λ (y : K). Some y) (sym (same_key k e.0 is))))
      | inr not ↦ ap (λ (b : Bool). cond b (Some e.1) (lookup (is_at (order k)) es)) not ∙ lookup_none es k (λ n h. out (suc n) h)
    ]

    -- a slot that is written, for the other keys
    lookup_other : (slots : List (K × X)) (n : ℕ) (x : X) (k q : K) → key_at slots n ≡ Some k → (q ≡ k → ⊥)
        → lookup (is_at (order q)) (with_at slots n x) ≡ lookup (is_at (order q)) slots
    lookup_other [] n x k q h other = refl
    lookup_other (e ∷ es) zero x k q h other = elim (cases_Bool (is_eq (order q e.0))) [
      | inl is ↦ absurd (other (same_key q e.0 is ∙ same_Some e.0 k h))
      | inr not ↦ ap (λ (b : Bool). cond b (Some x) (lookup (is_at (order q)) es)) not
          ∙ sym (ap (λ (b : Bool). cond b (Some e.1) (lookup (is_at (order q)) es)) not)
    ]
    lookup_other (e ∷ es) (suc n) x k q h other =
        ap (λ (r : Option X). cond (is_eq (order q e.0)) (Some e.1) r) (lookup_other es n x k q h other)

    lookup_more : (slots : List (K × X)) (k q : K) (x : X) → (q ≡ k → ⊥)
        → lookup (is_at (order q)) (slots ++ (k, x) ∷ []) ≡ lookup (is_at (order q)) slots
    lookup_more [] k q x other = elim (cases_Bool (is_eq (order q k))) [
      | inl is ↦ absurd (other (same_key q k is))
      | inr not ↦ ap (λ (b : Bool). cond b (Some x) None) not
    ]
    lookup_more (e ∷ es) k q x other = ap (λ (r : Option X). cond (is_eq (order q e.0)) (Some e.1) r) (lookup_more es k q x other)

    module _ (number : K → Option ℕ) (slots : List (K × X)) (is : IsNumbered number slots) where
      -- what a key's number leads to
      pub found_value : (k : K) (n : ℕ) → key_at slots n ≡ Some k → lookup (is_at (order k)) slots ≡ value_at slots n
      found_value k n there = lookup_there slots n k there (only_one number slots is k n there)

      pub not_found : (k : K) → number k ≡ None → lookup (is_at (order k)) slots ≡ None
      not_found k none = lookup_none slots k (λ n h. none_some n (sym none ∙ is.known k n h))

      pub has_slot : (k : K) (n : ℕ) → key_at slots n ≡ Some k → IsSome (lookup (is_at (order k)) slots)
      has_slot k n there = subst (λ (o : Option X). IsSome o) (sym (found_value k n there)) (has_value slots n k there)

      -- a slot that is written
      pub numbered_with : (n : ℕ) (x : X) → IsNumbered number (with_at slots n x)
      numbered_with n x = record {
        found = λ k i e. key_with slots n x i ∙ is.found k i e;
        known = λ k i e. is.known k i (sym (key_with slots n x i) ∙ e);
      }

      pub lookup_with : (k : K) (n : ℕ) (x : X) → key_at slots n ≡ Some k → (q : K)
          → lookup (is_at (order q)) (with_at slots n x) ≡ cond (is_eq (order k q)) (Some x) (lookup (is_at (order q)) slots)
      lookup_with k n x there q = elim (cases_Bool (is_eq (order k q))) [
        | inl eq ↦ (let e : k ≡ q = same_key k q eq in
            subst (λ (y : K). lookup (is_at (order y)) (with_at slots n x) ≡ Some x) e
            (lookup_there (with_at slots n x) n k (key_with slots n x n ∙ there)
            (only_one number (with_at slots n x) (numbered_with n x) k n (key_with slots n x n ∙ there)) ∙ value_with slots n x k there)
            ∙ sym (ap (λ (b : Bool). cond b (Some x) (lookup (is_at (order q)) slots)) eq))
        | inr ne ↦ lookup_other slots n x k q there (λ e. true_false (is_eq (order k q)) (tied k q (sym e)) ne)
            ∙ sym (ap (λ (b : Bool). cond b (Some x) (lookup (is_at (order q)) slots)) ne)
      ]

      -- a slot that is added
      pub numbered_more : (after : K → Option ℕ) (k : K) (x : X) → number k ≡ None
          → ((q : K) → after q ≡ cond (is_eq (order k q)) (Some (length slots)) (number q))
          → IsNumbered after (slots ++ (k, x) ∷ [])
      numbered_more after k x none puts = record {
        found = λ q n e. elim (cases_Bool (is_eq (order k q))) [
          | inl eq ↦ (let here : Some (length slots) ≡ Some n = sym (ap (λ (b : Bool). cond b (Some (length slots)) (number q)) eq) ∙ sym (puts q) ∙ e in
              subst (λ (y : K). key_at (slots ++ (k, x) ∷ []) n ≡ Some y) (same_key k q eq)
              (subst (λ (i : ℕ). key_at (slots ++ (k, x) ∷ []) i ≡ Some k) (same_Some (length slots) n here) (key_last slots k x)))
          | inr ne ↦ key_before slots k x n q (is.found q n (sym (ap (λ (b : Bool). cond b (Some (length slots)) (number q)) ne) ∙ sym (puts q) ∙ e))
        ];
        known = λ q n h. elim (key_after slots k x n q h) [
          | inl j ↦ (let ne : is_eq (order k q) ≡ false = apart q n j in
              puts q ∙ ap (λ (b : Bool). cond b (Some (length slots)) (number q)) ne ∙ is.known q n j)
          | inr j ↦ puts q ∙ ap (λ (b : Bool). cond b (Some (length slots)) (number q)) (tied k q (sym j.1)) ∙ ap (λ (i : ℕ). Some i) (sym j.0)
        ];
      }
        where
          apart : (q : K) (n : ℕ) → key_at slots n ≡ Some q → is_eq (order k q) ≡ false
          apart q n j = elim (cases_Bool (is_eq (order k q))) [
            | inl eq ↦ absurd (none_some n (sym none ∙ is.known k n (subst (λ (y : K). key_at slots n ≡ Some y) (sym (same_key k q eq)) j)))
            | inr ne ↦ ne
          ]

      pub lookup_added : (k : K) (x : X) → number k ≡ None → (q : K)
          → lookup (is_at (order q)) (slots ++ (k, x) ∷ []) ≡ cond (is_eq (order k q)) (Some x) (lookup (is_at (order q)) slots)
      lookup_added k x none q = elim (cases_Bool (is_eq (order k q))) [
        | inl eq ↦ subst (λ (y : K). lookup (is_at (order y)) (slots ++ (k, x) ∷ []) ≡ Some x) (same_key k q eq) (here slots (λ n h. none_some n (sym none ∙ is.known k n h)))
            ∙ sym (ap (λ (b : Bool). cond b (Some x) (lookup (is_at (order q)) slots)) eq)
        | inr ne ↦ lookup_more slots k q x (λ e. true_false (is_eq (order k q)) (tied k q (sym e)) ne)
            ∙ sym (ap (λ (b : Bool). cond b (Some x) (lookup (is_at (order q)) slots)) ne)
      ]
        where
          here : (l : List (K × X)) → ((n : ℕ) → key_at l n ≡ Some k → ⊥) → lookup (is_at (order k)) (l ++ (k, x) ∷ []) ≡ Some x
          here [] out = ap (λ (b : Bool). cond b (Some x) None) (tied k k refl)
          here (e ∷ es) out = elim (cases_Bool (is_eq (order k e.0))) [
            | inl is ↦ absurd (out 0 (ap (λ (y : K). Some y) (sym (same_key k e.0 is))))
            | inr not ↦ ap (λ (b : Bool). cond b (Some e.1) (lookup (is_at (order k)) (es ++ (k, x) ∷ []))) not ∙ here es (λ n h. out (suc n) h)
          ]
