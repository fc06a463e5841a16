-- A set of the keys so far: which keys it has after one more.
use Rattle.std.proofs.Common.{◌≡◌, ℕ, ◌+◌, ◌<◌, ◌≤◌, Bool, true, false, cond, not, List, take, length, get_or, refl, sym, ◌∙◌, ap}
use Rattle.std.specs.Prelude.{◌||◌}
use Rattle.std.specs.List.{list_any}
use Rattle.std.specs.Ordering.{is_eq}
use Rattle.std.specs.BTreeSet.{BTreeSet, contains}
use Rattle.std.specs.declared.cmp.Ordering.{Ordering}
use Rattle.std.proofs.lemmas.List.{take_all}
use Rattle.std.proofs.lemmas.List.Folds.{list_any_more}
use Rattle.pq_checks.specs.aux.Sets.{Has}

not_twice : (b : Bool) → not (not b) ≡ b
not_twice true = refl
not_twice false = refl

or_test : (b c : Bool) → cond b true c ≡ (c || b)
or_test true true = refl
or_test true false = refl
or_test false true = refl
or_test false false = refl

module _ {K A : Type 0} (R : K → K → Ordering) (is_key : K → A → Bool) where
  -- one more key
  pub has_more : (seen new : BTreeSet K) (xs : List A) (i : ℕ) (d : A) (k : K) → i < length xs → d ≡ get_or xs i d
      → ((q : K) → is_eq (R k q) ≡ is_key q d)
      → ((q : K) → contains R new q ≡ cond (is_eq (R k q)) true (contains R seen q))
      → Has R is_key seen (take i xs) → Has R is_key new (take (i + 1) xs)
  has_more seen new xs i d k lt at tied added has q =
      added q
      ∙ or_test (is_eq (R k q)) (contains R seen q)
      ∙ ap (λ b. b || is_eq (R k q)) (has q)
      ∙ ap (λ b. list_any (is_key q) (take i xs) || b) (tied q ∙ ap (λ x. is_key q x) at)
      ∙ sym (list_any_more (is_key q) xs i d lt)

  -- no element is left
  pub has_all : (seen : BTreeSet K) (xs : List A) (i : ℕ) → length xs ≤ i → Has R is_key seen (take i xs) → Has R is_key seen xs
  has_all seen xs i past has q = has q ∙ ap (λ ys. list_any (is_key q) ys) (take_all i xs past)

  -- whether a key is one of those so far
  pub has_it : (seen : BTreeSet K) (xs : List A) (k : K) (is_new : Bool) → is_new ≡ not (contains R seen k) → Has R is_key seen xs
      → not is_new ≡ list_any (is_key k) xs
  has_it seen xs k is_new told has = ap not told ∙ not_twice (contains R seen k) ∙ has k
