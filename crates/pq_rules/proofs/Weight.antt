-- The number that each step of the evaluator lowers.
use Rattle.std.proofs.Common.{◌≡◌, ℕ, ◌+◌, ◌*◌, ◌^◌, ◌<◌, ◌≤◌, List, [], ◌∷◌, ◌++◌, length, refl, sym, subst, inl, inr, arith, Bool, true, false, cond}
use Rattle.std.proofs.lemmas.Bool.{cases_Bool}
use Rattle.std.specs.Cmp.{IsTotalOrder, Equal-is, tied_itself}
use Rattle.std.specs.declared.cmp.Ordering.{Ordering}
use Rattle.std.specs.declared.cmp.Ordering.TheVariants.{Equal}
use Rattle.std.specs.Ordering.{is_eq}
use Rattle.pq_rules.specs.aux.AnswerTable.{Finished}
use Rattle.pq_rules.specs.declared.scratch.Frame.{Frame}
use Rattle.pq_rules.specs.Turns.{Instance}
use Rattle.pq_rules.specs.Relations.{In}
use Rattle.pq_rules.specs.aux.Evaluator.{has, unseen, weight, top_left, left_number, seen, Linked}

pub record Exact {K : Type 0} (order : K → K → Ordering) : Type 0 where
  pub total : IsTotalOrder order
  pub exact : (a b : K) → order a b ≡ Equal → a ≡ b

pub in_has : {K : Type 0} (order : K → K → Ordering) → Exact order → (x : K) (ys : List K) → In x ys → has order x ys ≡ true
unfolding has
in_has order o x [] i = absurd i
in_has {K} order o x (y ∷ ys) (inl p) =
    let t : order x y ≡ Equal = subst (λ (z : K). order x z ≡ Equal) p (tied_itself o.total x) in
    let e : is_eq (order x y) ≡ true = (Equal-is (order x y)).1 t in rw e refl
in_has order o x (y ∷ ys) (inr i) =
    elim (cases_Bool (is_eq (order x y))) [ inl e ↦ rw e refl | inr e ↦ rw e (in_has order o x ys i) ]

pub has_in : {K : Type 0} (order : K → K → Ordering) → Exact order → (x : K) (ys : List K) → has order x ys ≡ true → In x ys
unfolding has
has_in order o x [] h = cc
has_in order o x (y ∷ ys) h =
    elim (cases_Bool (is_eq (order x y))) [
      | inl e ↦ inl (o.exact x y ((Equal-is (order x y)).0 e))
      | inr e ↦ inr (has_in order o x ys (rw e at h))
    ]

cost : Bool → ℕ
cost b = cond b 0 1

pub one_le : (a b : Bool) → (a ≡ true → b ≡ true) → cond b 0 1 ≤ cond a 0 1
one_le true true f = omega arith
one_le true false f = let e : false ≡ true = f refl in cc
one_le false true f = omega arith
one_le false false f = omega arith

pub unseen_le : {K : Type 0} (order : K → K → Ordering) → Exact order → (xs ys zs : List K)
    → ((k : K) → In k ys → In k zs) → unseen order xs zs ≤ unseen order xs ys
unfolding unseen
unseen_le order o [] ys zs f = omega arith
unseen_le order o (x ∷ xs) ys zs f =
    let a = one_le (has order x ys) (has order x zs) (λ e. in_has order o x zs (f x (has_in order o x ys e))) in
    let b = unseen_le order o xs ys zs f in omega arith

pub unseen_lt : {K : Type 0} (order : K → K → Ordering) → Exact order → (xs ys zs : List K) (q : K)
    → ((k : K) → In k ys → In k zs) → In q xs → (In q ys → ⊥) → In q zs → unseen order xs zs < unseen order xs ys
unfolding unseen
unseen_lt order o [] ys zs q f i n j = absurd i
unseen_lt {K} order o (x ∷ xs) ys zs q f (inl p) n j =
    let b = unseen_le order o xs ys zs f in
    let there : has order x zs ≡ true = in_has order o x zs (subst (λ (k : K). In k zs) p j) in
    let not_here : has order x ys ≡ false =
    elim (cases_Bool (has order x ys)) [
      | inl e ↦ absurd (n (subst (λ (k : K). In k ys) (sym p) (has_in order o x ys e)))
      | inr e ↦ e
    ] in
    rw (there, not_here) (omega arith)
unseen_lt order o (x ∷ xs) ys zs q f (inr i) n j =
    let a = one_le (has order x ys) (has order x zs) (λ e. in_has order o x zs (f x (has_in order o x ys e))) in
    let b = unseen_lt order o xs ys zs q f i n j in omega arith

pub top_is : {K P V : Type 0} (m : Instance K P V) (stack : List (Frame K P)) (f : Frame K P)
    → top_left m (stack ++ f ∷ []) ≡ left_number (m.left f.part)
unfolding top_left
top_is m [] f = refl
top_is m (x ∷ []) f = refl
top_is m (x ∷ (y ∷ ys)) f = top_is m (y ∷ ys) f

pub number_below : (a b : ℕ) → a < 2 ^ 32 → b < 2 ^ 64 → a * (2 ^ 64) + b < 2 ^ 97
number_below a b h j = omega arith

pub top_below : {K P V : Type 0} (m : Instance K P V) (stack : List (Frame K P)) → Linked m stack → top_left m stack < 2 ^ 97
unfolding top_left Linked
top_below m [] l = omega arith
top_below m (x ∷ []) l = number_below (m.left x.part).0 (m.left x.part).1 l.0.fits.0 l.0.fits.1
top_below m (x ∷ (y ∷ ys)) l = top_below m (y ∷ ys) l.2

less_work : (u l t v k s : ℕ) → 2 * v + k < 2 * u + l → s < 2 ^ 97
    → (2 * v + k) * (2 ^ 97) + s < (2 * u + l) * (2 ^ 97) + t
less_work u l t v k s h j = omega arith

pub weight_lt : {K P V : Type 0} (m : Instance K P V) (reach : List K)
    (done : List (Finished K V)) (stack : List (Frame K P)) (after : List (Finished K V)) (rest : List (Frame K P))
    → 2 * unseen m.order reach (seen after rest) + length rest < 2 * unseen m.order reach (seen done stack) + length stack
    → Linked m rest → weight m reach after rest < weight m reach done stack
unfolding weight
weight_lt m reach done stack after rest h l =
    less_work (unseen m.order reach (seen done stack)) (length stack) (top_left m stack)
    (unseen m.order reach (seen after rest)) (length rest) (top_left m rest) h (top_below m rest l)
