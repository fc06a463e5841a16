-- The keys of a ring are distinct (`ring_distinct`).
--
-- Each key of a ring has one next key. From a key that is twice in the ring two ways of different
-- lengths would lead to the first key, without passing it before.
use Rattle.std.proofs.Common.{◌≡◌, ℕ, zero, suc, ◌<◌, List, [], ◌∷◌, length, refl, sym, ap, subst, inl, inr, arith}
use Rattle.std.specs.declared.cmp.Ordering.TheVariants.{Less}
use Rattle.pq_rules.specs.declared.turn.Answer.TheVariants.{Cycle}
use Rattle.pq_rules.specs.Turns.{Instance}
use Rattle.pq_rules.specs.Relations.{In, Chain, IsRing}
use Rattle.pq_rules.specs.Value.{Next, Answers, Below, Means}
use Rattle.pq_rules.specs.aux.Evaluator.{Distinct}
use Rattle.pq_rules.specs.aux.Runs.{means_at}
use Rattle.pq_rules.proofs.Rings.{Single, Strict, first_return, each_in}
use Rattle.pq_rules.proofs.Settled.{next_single}
use Rattle.pq_rules.proofs.Uniqueness.{below_lower}
use Rattle.pq_memo.specs.Demand.{Differ}

-- what is left of a chain after one of its keys
record Rest {K : Type 0} (N : K → K → Type 0) (xs : List K) (x z : K) : Type 0 where
  left : List K
  chain : Chain N x left z
  shorter : length left < length xs
  among : (y : K) → In y left → In y xs

rest_of : {K : Type 0} (N : K → K → Type 0) (k : K) (xs : List K) (z x : K) → Chain N k xs z → In x xs → Rest N xs x z
unfolding Chain
rest_of N k [] z x c i = absurd i
rest_of {K} N k (y ∷ ys) z x c (inl p) =
    record { left = ys; chain = subst (λ (w : K). Chain N w ys z) (sym p) c.1; shorter = omega arith; among = λ w j. inr j }
rest_of N k (y ∷ ys) z x c (inr i) =
    let r = rest_of N y ys z x c.1 i in
    let s : length r.left < length ys = r.shorter in
    record { left = r.left; chain = r.chain; shorter = omega arith; among = λ w j. inr (r.among w j) }

-- no key of a chain comes again before its end
not_again : {K : Type 0} (N : K → K → Type 0) → Single N → (x : K) (xs : List K) (z : K) → Chain N x xs z → (In z xs → ⊥) → In x xs → ⊥
not_again {K} N single x xs z c away i =
    let r = rest_of N x xs z x c i in
    let same : xs ≡ r.left = first_return N single x z xs r.left c r.chain away (λ j. away (r.among z j)) in
    let long : length xs ≡ length r.left = ap (λ (l : List K). length l) same in
    let s : length r.left < length xs = r.shorter in
    omega arith

chain_distinct : {K : Type 0} (N : K → K → Type 0) → Single N → (k : K) (xs : List K) (z : K) → Chain N k xs z → (In z xs → ⊥) → Distinct xs
unfolding Chain Distinct
chain_distinct N single k [] z c away = tt
chain_distinct N single k (x ∷ xs) z c away =
    (not_again N single x xs z c.1 (λ i. away (inr i)), chain_distinct N single x xs z c.1 (λ i. away (inr i)))

pub ring_distinct : {K P V : Type 0} (s : Instance K P V) → Strict s.order → (k : K) (ring : List K) → 0 < s.level k → Means s k (Cycle ring) → Distinct ring
unfolding Answers IsRing Distinct
ring_distinct {K} {P} {V} s strict k ring up means = at_level (s.level k) refl up ring means
  where
    of_ring : (N : K → K → Type 0) → Single N → (r : List K) → IsRing s.order N r → Distinct r
    of_ring N single [] i = absurd i
    of_ring N single (z ∷ zs) i =
        let away : In z zs → ⊥ = λ j. (let p = each_in (λ x. s.order z x ≡ Less) z zs i.1 j in strict.not_both z z p p) in
        (away, chain_distinct N single z zs z i.0 away)

    at_level : (l : ℕ) → s.level k ≡ l → 0 < l → (r : List K) → Means s k (Cycle r) → Distinct r
    at_level zero at h r m = absurd (omega arith)
    at_level (suc l) at h r m =
        let here = means_at s (suc l) k (Cycle r) at m in
        of_ring (Next s (Below s (suc l)) (suc l)) (next_single s (Below s (suc l)) (suc l) (below_lower s strict (suc l))) r here.0

-- keys that differ are distinct
pub distinct_of : {K : Type 0} (ks : List K) → Differ ks → Distinct ks
unfolding Distinct
distinct_of [] d = tt
distinct_of (k ∷ ks) d = (d.0, distinct_of ks d.1)
