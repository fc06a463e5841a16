-- Sorted ranges cover the same values once each last value is raised to the greatest so far, and
-- then neither end falls. The search finds the last range that begins at or before a value.
use Rattle.std.proofs.Common.{◌≡◌, ℕ, zero, suc, ◌+◌, ◌-◌, ◌<◌, ◌≤◌, Bool, true, false, not, List, [], ◌∷◌, ◌++◌, drop, length, get_or, refl, sym, ◌∙◌, ap, arith, append_assoc, append-nil, add-one, drop-cons}
use Rattle.std.proofs.lemmas.List.{drop_all}
use Rattle.std.specs.Prelude.{◌&&◌, ◌||◌, if◌then◌else◌}
use Rattle.std.specs.List.{list_any}
use Rattle.std.specs.Cmp.{IsTotalOrder}
use Rattle.std.specs.Ordering.{is_le, is_gt, is_lt, ordering_then, ordering_reverse}
use Rattle.std.specs.declared.cmp.Ordering.{Ordering}
use Rattle.std.specs.declared.cmp.Ordering.TheVariants.{Less, Equal, Greater}
use Rattle.std.proofs.lemmas.Cmp.{upto, tied_itself}
use Rattle.std.proofs.lemmas.List.Folds.{list_any_none, list_any_at}
use Rattle.std.proofs.lemmas.List.Sorted.{sorted_far, ranks_by}
use Rattle.std.proofs.lemmas.Cmp.{then_total, on_total}
use Rattle.std.specs.List.Sorted.{IsSorted}
use Rattle.std.proofs.lemmas.Bool.{cases_lt}
use Rattle.std.proofs.Common.{⊎_elim}
use Rattle.pq_checks.specs.aux.Cover.{is_at_most, is_within, is_covered, higher, raise, raised, Climbs}

le_not_gt : (o : Ordering) → is_le o ≡ not (is_gt o)
le_not_gt Less = refl
le_not_gt Equal = refl
le_not_gt Greater = refl

not_gt : (o : Ordering) → is_le o ≡ true → is_gt o ≡ false
not_gt Less e = refl
not_gt Equal e = refl
not_gt Greater e = cc

is_le_of : (o : Ordering) → is_gt o ≡ false → is_le o ≡ true
is_le_of Less e = refl
is_le_of Equal e = refl
is_le_of Greater e = cc

le_back : (o : Ordering) → is_le o ≡ false → is_le (ordering_reverse o) ≡ true
le_back Less e = cc
le_back Equal e = cc
le_back Greater e = refl

module _ {X : Type 0} {R : X → X → Ordering} (o : IsTotalOrder R) where
  pub most_trans : (x y z : X) → is_at_most R x y ≡ true → is_at_most R y z ≡ true → is_at_most R x z ≡ true
  most_trans x y z p q = is_le_of (R x z) (upto o x y z (not_gt (R x y) p) (not_gt (R y z) q))

  pub most_itself : (x : X) → is_at_most R x x ≡ true
  most_itself x = ap is_le (tied_itself o x)

  pub most_back : (x y : X) → is_at_most R x y ≡ false → is_at_most R y x ≡ true
  most_back x y e = ap is_le (o.antisymm y x) ∙ le_back (R x y) e

  -- at most the greater of two is at most one of them
  higher_or : (x t u : X) → is_at_most R x (higher R t u) ≡ (is_at_most R x t || is_at_most R x u)
  higher_or x t u = by (is_at_most R t u) refl (is_at_most R x t) refl (is_at_most R x u) refl
    where
      by : (b : Bool) → is_at_most R t u ≡ b → (c : Bool) → is_at_most R x t ≡ c → (d : Bool) → is_at_most R x u ≡ d → is_at_most R x (if b then u else t) ≡ (c || d)
      by true e true f true h = h
      by true e true f false h = absurd (cc (most_trans x t u f e))
      by true e false f true h = h
      by true e false f false h = h
      by false e true f d h = f
      by false e false f true h = absurd (cc (most_trans x u t h (most_back t u e)))
      by false e false f false h = f

  -- `begins x rs` is that some first value of `rs` is at most `x`
  abbrev begins : X → List (X × X) → Bool
  begins x rs = list_any (λ r. is_at_most R r.0 x) rs

  -- `Ascends rs` is that the first values of `rs` do not fall
  abbrev pub Ascends : List (X × X) → Type 0
  Ascends rs = (i j : ℕ) (d : X × X) → i ≤ j → j < length rs → is_at_most R (get_or rs i d).0 (get_or rs j d).0 ≡ true

  ascends_tail : (r : X × X) (rs : List (X × X)) → Ascends (r ∷ rs) → Ascends rs
  ascends_tail r rs a i j d le lt = a (suc i) (suc j) d (omega arith) (omega arith)

  head_begins : (r : X × X) (rs : List (X × X)) (x : X) → Ascends (r ∷ rs) → begins x rs ≡ true → is_at_most R r.0 x ≡ true
  head_begins r [] x a h = cc
  head_begins r (s ∷ rs) x a h = by (head_begins r rs x shorter) (is_at_most R s.0 x) refl h
    where
      shorter : Ascends (r ∷ rs)
      shorter zero zero d le lt = most_itself r.0
      shorter zero (suc j) d le lt = a zero (suc (suc j)) d (omega arith) (omega arith)
      shorter (suc i) zero d le lt = absurd (omega arith)
      shorter (suc i) (suc j) d le lt = a (suc (suc i)) (suc (suc j)) d (omega arith) (omega arith)

      by : (begins x rs ≡ true → is_at_most R r.0 x ≡ true) → (b : Bool) → is_at_most R s.0 x ≡ b → (b || begins x rs) ≡ true → is_at_most R r.0 x ≡ true
      by rest true e g = most_trans r.0 s.0 x (a zero (suc zero) s (omega arith) (omega arith)) e
      by rest false e g = rest g

  logic : (p q t c b : Bool) → (b ≡ true → p ≡ true) → ((p && (t || q)) || (c || (b && (t || q)))) ≡ (((p && q) || c) || ((p || b) && t))
  logic true true true c b f = refl
  logic true true false c b f = refl
  logic true false true true b f = refl
  logic true false true false b f = refl
  logic true false false true b f = refl
  logic true false false false true f = refl
  logic true false false false false f = refl
  logic false q t c true f = absurd (cc (f refl))
  logic false q t true false f = refl
  logic false q t false false f = refl

  first_logic : (p q c b : Bool) → (b ≡ true → p ≡ true) → ((p && q) || (c || (b && q))) ≡ ((p && q) || c)
  first_logic true true c b f = refl
  first_logic true false true b f = refl
  first_logic true false false true f = refl
  first_logic true false false false f = refl
  first_logic false q c true f = absurd (cc (f refl))
  first_logic false q true false f = refl
  first_logic false q false false f = refl

  raise_covers : (t : X) (rs : List (X × X)) (x : X) → Ascends rs → is_covered R (raise R t rs) x ≡ (is_covered R rs x || (begins x rs && is_at_most R x t))
  unfolding raise
  raise_covers t [] x a = refl
  raise_covers t (r ∷ rs) x a =
      let p = is_at_most R r.0 x in let q = is_at_most R x r.1 in let c = is_covered R rs x in let b = begins x rs in
      ap (λ u. (p && is_at_most R x (higher R t r.1)) || u) (raise_covers (higher R t r.1) rs x (ascends_tail r rs a))
      ∙ ap (λ h. (p && h) || (c || (b && h))) (higher_or x t r.1)
      ∙ logic p q (is_at_most R x t) c b (head_begins r rs x a)

  -- sorted ranges cover the same values once raised
  pub raised_covers : (rs : List (X × X)) (x : X) → Ascends rs → is_covered R (raised R rs) x ≡ is_covered R rs x
  unfolding raised
  raised_covers [] x a = refl
  raised_covers (r ∷ rs) x a =
      ap (λ u. is_within R x r || u) (raise_covers r.1 rs x (ascends_tail r rs a))
      ∙ first_logic (is_at_most R r.0 x) (is_at_most R x r.1) (is_covered R rs x) (begins x rs) (head_begins r rs x a)

  left_of_higher : (t u : X) → is_at_most R t (higher R t u) ≡ true
  left_of_higher t u = by (is_at_most R t u) refl
    where
      by : (b : Bool) → is_at_most R t u ≡ b → is_at_most R t (if b then u else t) ≡ true
      by true e = e
      by false e = most_itself t

  raise_length : (t : X) (rs : List (X × X)) → length (raise R t rs) ≡ length rs
  unfolding raise
  raise_length t [] = refl
  raise_length t (r ∷ rs) = ap (λ n. suc n) (raise_length (higher R t r.1) rs)

  first_kept : (t : X) (rs : List (X × X)) (j : ℕ) (d : X × X) → (get_or (raise R t rs) j d).0 ≡ (get_or rs j d).0
  unfolding raise
  first_kept t [] j d = refl
  first_kept t (r ∷ rs) zero d = refl
  first_kept t (r ∷ rs) (suc j) d = first_kept (higher R t r.1) rs j d

  reach : (t : X) (rs : List (X × X)) (j : ℕ) (d : X × X) → j < length (raise R t rs) → is_at_most R t (get_or (raise R t rs) j d).1 ≡ true
  unfolding raise
  reach t [] j d lt = absurd (omega arith)
  reach t (r ∷ rs) zero d lt = left_of_higher t r.1
  reach t (r ∷ rs) (suc j) d lt = most_trans t (higher R t r.1) _ (left_of_higher t r.1) (reach (higher R t r.1) rs j d (omega arith))

  -- a range before raised ones that reach at least as far
  climbs_front : (r : X × X) (t : X) (rs : List (X × X)) → r.1 ≡ t → ((j : ℕ) (d : X × X) → j < length rs → is_at_most R r.0 (get_or rs j d).0 ≡ true)
      → Climbs R (raise R t rs) → Climbs R (r ∷ raise R t rs)
  unfolding raise
  climbs_front r t rs same firsts rest zero zero d le lt = (most_itself r.0, most_itself r.1)
  climbs_front r t rs same firsts rest zero (suc j) d le lt =
      let in_range : j < length (raise R t rs) = omega arith in
      (ap (is_at_most R r.0) (first_kept t rs j d) ∙ firsts j d (omega (arith, raise_length t rs)), ap (λ u. is_at_most R u (get_or (raise R t rs) j d).1) same ∙ reach t rs j d in_range)
  climbs_front r t rs same firsts rest (suc i) zero d le lt = absurd (omega arith)
  climbs_front r t rs same firsts rest (suc i) (suc j) d le lt = rest i j d (omega arith) (omega arith)

  raise_climbs : (t : X) (rs : List (X × X)) → Ascends rs → Climbs R (raise R t rs)
  unfolding raise
  raise_climbs t [] a = λ i j d le lt. absurd (omega arith)
  raise_climbs t (r ∷ rs) a =
      climbs_front (r.0, higher R t r.1) (higher R t r.1) rs refl (λ j d lt. a zero (suc j) d (omega arith) (omega arith)) (raise_climbs (higher R t r.1) rs (ascends_tail r rs a))

  pub raised_climbs : (rs : List (X × X)) → Ascends rs → Climbs R (raised R rs)
  unfolding raised
  raised_climbs [] a = λ i j d le lt. absurd (omega arith)
  raised_climbs (r ∷ rs) a = climbs_front r r.1 rs refl (λ j d lt. a zero (suc j) d (omega arith) (omega arith)) (raise_climbs r.1 rs (ascends_tail r rs a))

  -- one more raised range
  pub raise_more : (done after whole rs : List (X × X)) (i : ℕ) (r : X × X) (t u : X) → i < length rs → r ≡ get_or rs i r → u ≡ higher R t r.1
      → after ≡ done ++ (r.0, u) ∷ [] → done ++ raise R t (drop i rs) ≡ whole → after ++ raise R u (drop (i + 1) rs) ≡ whole
  unfolding raise
  raise_more done after whole rs i r t u lt is top said so_far =
      let cut : drop i rs ≡ r ∷ drop (i + 1) rs = drop-cons rs i r lt ∙ ap (λ n. get_or rs i r ∷ drop n rs) (sym (add-one i)) ∙ ap (λ x. x ∷ drop (i + 1) rs) (sym is) in
      ap (λ ys. ys ++ raise R u (drop (i + 1) rs)) said
      ∙ append_assoc done ((r.0, u) ∷ []) (raise R u (drop (i + 1) rs))
      ∙ ap (λ x. done ++ (r.0, x) ∷ raise R x (drop (i + 1) rs)) top
      ∙ ap (λ ys. done ++ raise R t ys) (sym cut)
      ∙ so_far

  -- no range is left
  pub raise_all : (done whole rs : List (X × X)) (i : ℕ) (t : X) → length rs ≤ i → done ++ raise R t (drop i rs) ≡ whole → done ≡ whole
  unfolding raise
  raise_all done whole rs i t past so_far = sym (append-nil done) ∙ ap (λ ys. done ++ raise R t ys) (sym (drop_all i rs past)) ∙ so_far

  -- ---- the search

  other_default : (rs : List (X × X)) (i : ℕ) (d e : X × X) → i < length rs → get_or rs i d ≡ get_or rs i e
  other_default [] i d e lt = absurd (omega arith)
  other_default (r ∷ rs) zero d e lt = refl
  other_default (r ∷ rs) (suc i) d e lt = other_default rs i d e (omega arith)

  and_true : (a b : Bool) → a ≡ true → b ≡ true → (a && b) ≡ true
  and_true true true e f = refl
  and_true true false e f = cc
  and_true false b e f = cc

  not_both : (a b : Bool) → (a ≡ true → b ≡ true → ⊥) → (a && b) ≡ false
  not_both true true f = absurd (f refl refl)
  not_both true false f = refl
  not_both false b f = refl

  module _ (rs : List (X × X)) (x : X) (climbs : Climbs R rs) (d : X × X) where
    pub found : (k : ℕ) → k < length rs → is_at_most R (get_or rs k d).0 x ≡ true → is_at_most R x (get_or rs k d).1 ≡ true → is_covered R rs x ≡ true
    found k lt from to = list_any_at (is_within R x) rs k d lt (and_true _ _ from to)

    -- `k` is the place of the first range that begins after `x`
    pub missed : (k : ℕ) → k ≤ length rs
        → (0 < k → is_at_most R x (get_or rs (k - 1) d).1 ≡ false)
        → ((e : X × X) → k < length rs → is_at_most R (get_or rs k e).0 x ≡ false)
        → is_covered R rs x ≡ false
    missed k at_most short behind = list_any_none (is_within R x) rs (λ i e lt. ⊎_elim (before_it i e lt) (at_or_after i e lt) (cases_lt i k))
      where
        before_it : (i : ℕ) (e : X × X) → i < length rs → i < k → is_within R x (get_or rs i e) ≡ false
        before_it i e lt front =
            not_both _ _ (λ from to.
            let last : k - 1 < length rs = omega arith in
            let same : get_or rs i e ≡ get_or rs i d = other_default rs i e d lt in
            let further = (climbs i (k - 1) d (omega arith) last).1 in
            let reached : is_at_most R x (get_or rs (k - 1) d).1 ≡ true = most_trans x (get_or rs i d).1 _ (ap (λ (r : X × X). is_at_most R x r.1) (sym same) ∙ to) further in
            let missing : is_at_most R x (get_or rs (k - 1) d).1 ≡ false = short (omega arith) in
            cc)

        at_or_after : (i : ℕ) (e : X × X) → i < length rs → k ≤ i → is_within R x (get_or rs i e) ≡ false
        at_or_after i e lt back =
            not_both _ _ (λ from to.
            let begun = (climbs k i e back lt).0 in
            let reached : is_at_most R (get_or rs k e).0 x ≡ true = most_trans (get_or rs k e).0 (get_or rs i e).0 x begun from in
            let missing : is_at_most R (get_or rs k e).0 x ≡ false = behind e (omega arith) in
            cc)

  -- ---- sorted ranges

  abbrev pub pair_cmp : X × X → X × X → Ordering
  pair_cmp a b = ordering_then (R a.0 b.0) (R a.1 b.1)

  not_lt_first : (p q : Ordering) → is_lt (ordering_then p q) ≡ false → is_le (ordering_reverse p) ≡ true
  not_lt_first Less q e = cc
  not_lt_first Equal q e = refl
  not_lt_first Greater q e = refl

  pub ascends_sorted : (rs : List (X × X)) → IsSorted pair_cmp rs → Ascends rs
  ascends_sorted rs s i j d le lt =
      let total = then_total (on_total (λ (r : X × X). r.0) o) (on_total (λ (r : X × X). r.1) o) in
      let far = sorted_far (λ a b. is_lt (pair_cmp a b)) (ranks_by total (λ r. r)) rs s i j d le lt in
      ap is_le (o.antisymm (get_or rs i d).0 (get_or rs j d).0) ∙ not_lt_first (R (get_or rs j d).0 (get_or rs i d).0) _ far
