-- The number that each step of a demand lowers.
use Rattle.std.proofs.Common.{◌≡◌, ℕ, ◌+◌, ◌*◌, ◌^◌, ◌<◌, ◌≤◌, ◌⊎◌, List, [], ◌∷◌, ◌++◌, length, refl, subst, ap, inl, inr, arith, Bool, true, false, ◌||◌, Option, Some, None, ◌∙◌}
use Rattle.std.specs.declared.cmp.Ordering.{Ordering}
use Rattle.std.proofs.lemmas.Bool.{eqb-true, eq-eqb}
use Rattle.std.proofs.lemmas.Bool.{cases_Bool}
use Rattle.pq_inputs.specs.Sources.{Table}
use Rattle.pq_rules.specs.Turns.{Machine}
use Rattle.pq_rules.specs.Relations.{In}
use Rattle.pq_rules.specs.aux.Evaluator.{has}
use Rattle.pq_rules.proofs.ListLemmas.{last_length}
use Rattle.pq_rules.proofs.Weight.{Exact, has_in, in_has, number_below, one_le}
use Rattle.pq_memo.specs.declared.stepping.frame.Frame.{Frame}
use Rattle.pq_memo.specs.declared.stepping.frame.Stage.{Stage}
use Rattle.pq_memo.specs.declared.stepping.frame.Stage.TheVariants.{Walking, Waiting}
use Rattle.pq_memo.specs.Sound.{Memo}
use Rattle.pq_memo.specs.Frames.{frame_keys}
use Rattle.pq_memo.specs.Demand.{IsVerified}
use Rattle.pq_memo.specs.aux.Demand.{Fits, Linked, is_now, is_seen, unseen, rank, top_rank, weight}

count_le : {K : Type 0} (p q : K → Bool) → ((k : K) → p k ≡ true → q k ≡ true) → (xs : List K) → unseen q xs ≤ unseen p xs
unfolding unseen
count_le p q f [] = omega arith
count_le p q f (x ∷ xs) = let a = one_le (p x) (q x) (f x) in let b = count_le p q f xs in omega arith

count_lt : {K : Type 0} (p q : K → Bool) → ((k : K) → p k ≡ true → q k ≡ true) → (xs : List K) (x : K) → In x xs → p x ≡ false → q x ≡ true → unseen q xs < unseen p xs
unfolding unseen
count_lt p q f [] x i not is_ = absurd i
count_lt {K} p q f (y ∷ ys) x (inl e) not is_ =
    let b = count_le p q f ys in
    let was : p y ≡ false = subst (λ (z : K). p z ≡ false) e not in
    let is : q y ≡ true = subst (λ (z : K). q z ≡ true) e is_ in
    rw (was, is) (omega arith)
count_lt p q f (y ∷ ys) x (inr i) not is_ =
    let a = one_le (p y) (q y) (f y) in
    let b = count_lt p q f ys x i not is_ in omega arith

or_either : (a b : Bool) → (a || b) ≡ true → (a ≡ true) ⊎ (b ≡ true)
or_either true b h = inl refl
or_either false b h = inr h

or_right : (a b : Bool) → b ≡ true → (a || b) ≡ true
or_right true b h = refl
or_right false b h = h

or_left : (a b : Bool) → a ≡ true → (a || b) ≡ true
or_left true b h = refl
or_left false b h = cc

now_verified : {K V : Type 0} (now : ℕ) (table : K → Option (Memo K V)) (k : K) (o : Option (Memo K V)) → table k ≡ o → is_now now o ≡ true → IsVerified now table k
now_verified now table k None is h = cc
now_verified now table k (Some memo) is h = (memo, is, eqb-true memo.verified now h)

pub verified_now : {K V : Type 0} (now : ℕ) (table : K → Option (Memo K V)) (k : K) → IsVerified now table k → is_now now (table k) ≡ true
verified_now {K} {V} now table k r =
    ap (λ (o : Option (Memo K V)). is_now now o) r.1 ∙ eq-eqb r.0.verified now r.2

-- `k` was verified now or is a key of the stack
abbrev pub Seen : {K P V : Type 0} → ℕ → (K → Option (Memo K V)) → List (Frame K P) → K → Type 0
Seen now table stack k = IsVerified now table k ⊎ In k (frame_keys stack)

module _ {K P V : Type 0} (order : K → K → Ordering) (exact : Exact order) (now : ℕ) where
  seen_is : (table : K → Option (Memo K V)) (stack : List (Frame K P)) (k : K) → Seen now table stack k → is_seen order now table stack k ≡ true
  seen_is table stack k (inl v) = or_left (is_now now (table k)) (has order k (frame_keys stack)) (verified_now now table k v)
  seen_is table stack k (inr i) = or_right (is_now now (table k)) (has order k (frame_keys stack)) (in_has order exact k (frame_keys stack) i)

  is_seen_so : (table : K → Option (Memo K V)) (stack : List (Frame K P)) (k : K) → is_seen order now table stack k ≡ true → Seen now table stack k
  is_seen_so table stack k h = elim (or_either (is_now now (table k)) (has order k (frame_keys stack)) h) [
    | inl v ↦ inl (now_verified now table k (table k) refl v)
    | inr i ↦ inr (has_in order exact k (frame_keys stack) i)
  ]

  module _ (before after : K → Option (Memo K V)) (stack rest : List (Frame K P)) (more : (k : K) → Seen now before stack k → Seen now after rest k) where
    grown : (k : K) → is_seen order now before stack k ≡ true → is_seen order now after rest k ≡ true
    grown k h = seen_is after rest k (more k (is_seen_so before stack k h))

    pub unseen_le : (reach : List K) → unseen (is_seen order now after rest) reach ≤ unseen (is_seen order now before stack) reach
    unseen_le reach = count_le (is_seen order now before stack) (is_seen order now after rest) grown reach

    pub unseen_lt : (reach : List K) (x : K) → In x reach → (Seen now before stack x → ⊥) → Seen now after rest x
        → unseen (is_seen order now after rest) reach < unseen (is_seen order now before stack) reach
    unseen_lt reach x i new there =
        count_lt (is_seen order now before stack) (is_seen order now after rest) grown reach x i
        (elim (cases_Bool (is_seen order now before stack x)) [ inl e ↦ absurd (new (is_seen_so before stack x e)) | inr e ↦ e ])
        (seen_is after rest x there)

rank_below : {K P V : Type 0} (m : Machine K P V) (stage : Stage K P) → Fits m stage → rank m stage < 2 ^ 97 + 1
rank_below m (Walking place) f = omega arith
rank_below m (Waiting part asked reads) f = let n = number_below (m.left part).0 (m.left part).1 f.0 f.1 in omega arith

pub top_is : {K P V : Type 0} (m : Machine K P V) (stack : List (Frame K P)) (f : Frame K P) → top_rank m (stack ++ f ∷ []) ≡ rank m f.stage
unfolding top_rank
top_is m [] f = refl
top_is m (x ∷ []) f = refl
top_is m (x ∷ (y ∷ ys)) f = top_is m (y ∷ ys) f

top_below : {K P V : Type 0} (order : K → K → Ordering) (m : Machine K P V) (inputs : Table) (table : K → Option (Memo K V)) (stack : List (Frame K P))
    → Linked order m inputs table stack → top_rank m stack < 2 ^ 97 + 1
unfolding top_rank Linked
top_below order m inputs table [] l = omega arith
top_below order m inputs table (x ∷ []) l = rank_below m x.stage l.1
top_below order m inputs table (x ∷ (y ∷ ys)) l = top_below order m inputs table (y ∷ ys) l.3

less_work : (u l t v k s : ℕ) → 2 * v + k < 2 * u + l → s < 2 ^ 97 + 1
    → (2 * v + k) * (2 ^ 97 + 1) + s < (2 * u + l) * (2 ^ 97 + 1) + t
less_work u l t v k s h j = omega arith

-- fewer keys or frames
pub weight_lt : {K P V : Type 0} (order : K → K → Ordering) (m : Machine K P V) (inputs : Table) (reach : List K)
    (before after : K → Option (Memo K V)) (stack rest : List (Frame K P))
    → 2 * unseen (is_seen order inputs.revision after rest) reach + length rest < 2 * unseen (is_seen order inputs.revision before stack) reach + length stack
    → Linked order m inputs after rest → weight order m inputs.revision reach after rest < weight order m inputs.revision reach before stack
unfolding weight
weight_lt order m inputs reach before after stack rest h l =
    less_work (unseen (is_seen order inputs.revision before stack) reach) (length stack) (top_rank m stack)
    (unseen (is_seen order inputs.revision after rest) reach) (length rest) (top_rank m rest) h (top_below order m inputs after rest l)

-- no more keys, and the last frame has less to do
pub weight_top : {K P V : Type 0} (order : K → K → Ordering) (m : Machine K P V) (now : ℕ) (reach : List K)
    (before after : K → Option (Memo K V)) (stack : List (Frame K P)) (f g : Frame K P)
    → unseen (is_seen order now after (stack ++ g ∷ [])) reach ≤ unseen (is_seen order now before (stack ++ f ∷ [])) reach
    → rank m g.stage < rank m f.stage
    → weight order m now reach after (stack ++ g ∷ []) < weight order m now reach before (stack ++ f ∷ [])
unfolding weight
weight_top order m now reach before after stack f g fewer h =
    rw (last_length stack f, last_length stack g, top_is m stack f, top_is m stack g)
    (top_work (unseen (is_seen order now before (stack ++ f ∷ [])) reach) (unseen (is_seen order now after (stack ++ g ∷ [])) reach) (length stack + 1) (rank m f.stage) (rank m g.stage) fewer h)
  where
    top_work : (u v l t s : ℕ) → v ≤ u → s < t → (2 * v + l) * (2 ^ 97 + 1) + s < (2 * u + l) * (2 ^ 97 + 1) + t
    top_work u v l t s a b = omega arith

pub weight_same : {K P V : Type 0} (order : K → K → Ordering) (m : Machine K P V) (now : ℕ) (reach : List K)
    (before after : K → Option (Memo K V)) (stack : List (Frame K P)) (f g : Frame K P)
    → unseen (is_seen order now after (stack ++ g ∷ [])) reach ≤ unseen (is_seen order now before (stack ++ f ∷ [])) reach
    → rank m g.stage ≡ rank m f.stage
    → weight order m now reach after (stack ++ g ∷ []) ≤ weight order m now reach before (stack ++ f ∷ [])
unfolding weight
weight_same order m now reach before after stack f g fewer h =
    rw (last_length stack f, last_length stack g, top_is m stack f, top_is m stack g, h)
    (top_work (unseen (is_seen order now before (stack ++ f ∷ [])) reach) (unseen (is_seen order now after (stack ++ g ∷ [])) reach) (length stack + 1) (rank m f.stage) fewer)
  where
    top_work : (u v l t : ℕ) → v ≤ u → (2 * v + l) * (2 ^ 97 + 1) + t ≤ (2 * u + l) * (2 ^ 97 + 1) + t
    top_work u v l t a = omega arith
