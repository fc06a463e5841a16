-- The first name of a text and what comes after it: the loop over the pieces finds the names.
use Rattle.std.proofs.Common.{ℕ, suc, ◌≡◌, ◌+◌, ◌<◌, ◌≤◌, ◌==◌, List, [], ◌∷◌, ◌++◌, length, refl, ap, ◌∙◌, add-one, inl, inr, arith, append_assoc}
use Rattle.std.proofs.lemmas.Bool.{cases_Bool}
use Rattle.std.specs.List.{before_first, after_first, position_or_len, filter, slice_split}
use Rattle.pq_rules.specs.aux.sums.Cuts.{word, rest, as_name}
use Rattle.pq_rules.specs.sums.Names.{space, names, is_name}

one_more : (n : ℕ) → 1 + n ≡ suc n
one_more n = omega arith

pub word_first : (t : List ℕ) → before_first (λ b. b == space) t ≡ word t
word_first [] = refl
word_first (c ∷ cs) = elim (cases_Bool (c == space)) [
  | inl e ↦ rw e refl
  | inr e ↦ rw (e, one_more (position_or_len (λ b. b == space) cs)) (ap (λ x. c ∷ x) (word_first cs))
]

pub rest_first : (t : List ℕ) → after_first (λ b. b == space) t ≡ rest t
rest_first [] = refl
rest_first (c ∷ cs) = elim (cases_Bool (c == space)) [
  | inl e ↦ rw e refl
  | inr e ↦ rw (e, one_more (position_or_len (λ b. b == space) cs), add-one) (rw add-one at (rest_first cs))
]

pub no_space : (t : List ℕ) → position_or_len (λ b. b == space) t ≡ length t → (word t ≡ t) × (rest t ≡ [])
no_space [] h = (refl, refl)
no_space (c ∷ cs) h = elim (cases_Bool (c == space)) [
  | inl e ↦ absurd (let z : 0 ≡ suc (length cs) = rw e at h in omega arith)
  | inr e ↦ (let z : 1 + position_or_len (λ b. b == space) cs ≡ suc (length cs) = rw e at h in
      let r = no_space cs (omega arith) in rw e (ap (λ x. c ∷ x) r.0, r.1))
]

rest_short : (t : List ℕ) → length (rest t) ≤ length t
rest_short [] = omega arith
rest_short (c ∷ cs) = elim (cases_Bool (c == space)) [
  | inl e ↦ rw e (omega arith)
  | inr e ↦ rw e (let h = rest_short cs in omega arith)
]

pub rest_shorter : (t : List ℕ) → (length t ≡ 0 → ⊥) → length (rest t) < length t
rest_shorter [] h = absurd (h refl)
rest_shorter (c ∷ cs) h = elim (cases_Bool (c == space)) [
  | inl e ↦ rw e (omega arith)
  | inr e ↦ rw e (let h = rest_short cs in omega arith)
]

-- the pieces of a text are its first one, and others whose names are those of the rest
pieces : (t : List ℕ) → (more : List (List ℕ)) × (slice_split (λ b. b == space) t ≡ word t ∷ more) × (filter is_name more ≡ names (rest t))
pieces [] = ([], refl, refl)
pieces (c ∷ cs) = elim (cases_Bool (c == space)) [
  | inl e ↦ rw e (slice_split (λ b. b == space) cs, refl, refl)
  | inr e ↦ (let p = pieces cs in rw (e, p.1) (p.0, refl, p.2))
]

first_name : (w : List ℕ) (more : List (List ℕ)) → filter is_name (w ∷ more) ≡ as_name w ++ filter is_name more
first_name [] more = refl
first_name (c ∷ cs) more = refl

pub names_on : (t : List ℕ) → names t ≡ as_name (word t) ++ names (rest t)
names_on t = let p = pieces t in
    ap (λ (x : List (List ℕ)). filter is_name x) p.1 ∙ first_name (word t) p.0 ∙ ap (λ (x : List (List ℕ)). as_name (word t) ++ x) p.2

-- a loop over the pieces goes on
pub one_more_piece : (found after : List (List ℕ)) (t all w left : List ℕ) → found ++ names t ≡ names all
    → w ≡ word t → left ≡ rest t → after ≡ found ++ as_name w → after ++ names left ≡ names all
one_more_piece found after t all w left h a b d =
    rw (d, b, a, append_assoc found (as_name (word t)) (names (rest t)), ← names_on t) h
