-- What is among all that the lines of a table say is what one line says of one element of its list.
use Rattle.std.proofs.Common.{◌≡◌, zero, suc, Bool, true, false, cond, List, [], ◌∷◌, ◌++◌, refl, sym, subst, inl, inr, arith}
use Rattle.std.specs.Prelude.{◌↔◌, ◌⊎◌, Contains, flat_map}
use Rattle.std.proofs.lemmas.List.Elements.{Contains-append_cases, Contains-append_left, Contains-append_right}
use Rattle.pq_checks.specs.Line.{Line, each, after, unless, said, all_said, IsSaidOf, IsSaid, IsSaidByOne}
use Rattle.pq_checks.specs.declared.errors.fault.Fault.{Fault}
use Rattle.pq_checks.proofs.SaidAfter.{said_is_of_one, of_one_is_said}

-- `Reads xs x P` is that `x` is among `xs` exactly if `P`
abbrev Reads : List Fault → Fault → Type 0 → Type 0
Reads xs x P = Contains xs x ↔ P

either : {P Q R S : Type 0} → (P → R) → (Q → S) → (P ⊎ Q) → (R ⊎ S)
either f g (inl p) = inl (f p)
either f g (inr q) = inr (g q)

joined : {P Q R : Type 0} → (P → R) → (Q → R) → (P ⊎ Q) → R
joined f g (inl p) = f p
joined f g (inr q) = g q

appended : {P Q : Type 0} (xs ys : List Fault) (x : Fault) → Reads xs x P → Reads ys x Q → Reads (xs ++ ys) x (P ⊎ Q)
appended xs ys x r s =
    (λ h. either r.0 s.0 (Contains-append_cases xs ys x h), joined (λ p. Contains-append_left xs ys x (r.1 p)) (λ q. Contains-append_right xs ys x (s.1 q)))

-- an element comes first, or among the rest
pub contains_head : {A : Type 0} (y : A) (ys : List A) → Contains (y ∷ ys) y
contains_head y ys = (zero, omega arith, refl)

pub none_said : {A : Type 0} (x : A) → Contains [] x → ⊥
none_said x (k, lt, is) = omega arith

pub head_or_tail : {A : Type 0} (y z : A) (ys : List A) → Contains (y ∷ ys) z → (y ≡ z) ⊎ Contains ys z
head_or_tail y z ys (zero, lt, is) = inl is
head_or_tail y z ys (suc k, lt, is) = inr (k, omega arith, is)

pub tail : {A : Type 0} (y z : A) (ys : List A) → Contains ys z → Contains (y ∷ ys) z
tail y z ys (k, lt, is) = (suc k, omega arith, is)

-- the only element of a list
pub only_one : {A : Type 0} (y z : A) → Contains (y ∷ []) z → z ≡ y
only_one y z h = by (head_or_tail y z [] h)
  where
    by : ((y ≡ z) ⊎ Contains [] z) → z ≡ y
    by (inl is) = sym is
    by (inr none) = absurd (none_said z none)

pub said_of : {A B : Type 0} (f : A → List B) (xs : List A) (x : B) → Contains (flat_map f xs) x → IsSaidOf f xs x
said_of f [] x h = absurd (none_said x h)
said_of {A = A} f (y ∷ ys) x h = by (said_of f ys x) (Contains-append_cases (f y) (flat_map f ys) x h)
  where
    by : (Contains (flat_map f ys) x → IsSaidOf f ys x) → (Contains (f y) x ⊎ Contains (flat_map f ys) x) → IsSaidOf f (y ∷ ys) x
    by rest (inl here) = (y, contains_head y ys, here)
    by rest (inr there) = let r = rest there in (r.0, tail y r.0 ys r.1, r.2)

of_said : {A : Type 0} (f : A → List Fault) (xs : List A) (x : Fault) → IsSaidOf f xs x → Contains (flat_map f xs) x
of_said f [] x (y, at, h) = absurd (none_said y at)
of_said {A = A} f (z ∷ zs) x (y, at, h) = by (of_said f zs x) (head_or_tail z y zs at)
  where
    by : (IsSaidOf f zs x → Contains (flat_map f zs) x) → ((z ≡ y) ⊎ Contains zs y) → Contains (f z ++ flat_map f zs) x
    by rest (inl is) = Contains-append_left (f z) (flat_map f zs) x (subst (λ (w : A). Contains (f w) x) (sym is) h)
    by rest (inr there) = Contains-append_right (f z) (flat_map f zs) x (rest (y, there, h))

unless_said : {P : Type 0} (b : Bool) (xs : List Fault) (x : Fault) → Reads xs x P → Reads (cond b [] xs) x ((b ≡ false) × P)
unless_said true xs x r = (λ h. absurd (none_said x h), λ p. absurd (cc (p.0)))
unless_said false xs x r = (λ h. (refl, r.0 h), λ p. r.1 p.1)

line : (l : Line) (x : Fault) → Reads (said l) x (IsSaid l x)
line (each f xs) x = (said_of f xs x, of_said f xs x)
line (after f xs) x = (said_is_of_one f [] xs x, of_one_is_said f [] xs x)
line (unless b l) x = unless_said b (said l) x (line l x)

pub each_line : (ls : List Line) (x : Fault) → Reads (all_said ls) x (IsSaidByOne ls x)
each_line [] x = (λ h. none_said x h, λ h. absurd h)
each_line (l ∷ ls) x = appended (said l) (all_said ls) x (line l x) (each_line ls x)
