-- Auxiliary: the evaluator's table of answers (used by proofs and invariants only).
use Rattle.std.specs.Prelude.{ℕ, ◌≡◌, ◌<◌, List, [], ◌∷◌, ◌++◌, length, slice_get, Option, Some, None, Bool, true, false}
use Rattle.std.specs.Map.{lookup}
use Rattle.std.specs.BTreeMap.{is_at}
use Rattle.std.specs.declared.cmp.Ordering.{Ordering}
use Rattle.pq_rules.specs.declared.turn.Answer.{Answer}
use Rattle.pq_rules.specs.declared.turn.Answer.TheVariants.{Value, Cycle}
use Rattle.pq_rules.specs.Relations.{Each, In}

-- `Finished K V` is a key with its answer
pub record Finished (K V : Type 0) : Type 0 where
  pub key : K
  pub answer : Answer K V

-- `Places K V` is a table: each key with the place of its answer in the list of answers, and each
-- started key with the place that its frame was given
pub record Places (K V : Type 0) : Type 0 where
  pub places : List (K × ℕ)
  pub answers : List (Answer K V)
  pub started : List (K × ℕ)

-- `finished_at k a` is the key `k` with its answer, if `a` has one
abbrev pub finished_at : {K V : Type 0} → K → Option (Answer K V) → List (Finished K V)
finished_at k None = []
finished_at k (Some a) = record { key = k; answer = a } ∷ []

-- `finished_in places answers` is each key of `places` with its answer
abbrev pub finished_in : {K V : Type 0} → List (K × ℕ) → List (Answer K V) → List (Finished K V)
finished_in [] answers = []
finished_in (e ∷ es) answers = finished_at e.0 (slice_get answers e.1) ++ finished_in es answers

-- `finished p` is each key of the table `p` with its answer
abbrev pub finished : {K V : Type 0} → Places K V → List (Finished K V)
finished p = finished_in p.places p.answers

-- `done_keys fs` is the keys of `fs`
abbrev pub done_keys : {K V : Type 0} → List (Finished K V) → List K
done_keys [] = []
done_keys (f ∷ fs) = f.key ∷ done_keys fs

-- `Within places answers` is that each place is one of an answer
abbrev pub Within : {K V : Type 0} → List (K × ℕ) → List (Answer K V) → Type 0
Within places answers = Each (λ e. e.1 < length answers) places

-- `Covers before after` is that `after` has no entry but those of `before`, and all keys of it
pub record Covers {K V : Type 0} (before after : List (Finished K V)) : Type 0 where
  pub from : (f : Finished K V) → In f after → In f before
  pub keys : (k : K) → In k (done_keys before) → In k (done_keys after)

-- `Placed order started keys` is that each of `keys` is in `started`, with its place in `keys`
pub record Placed {K : Type 0} (order : K → K → Ordering) (started : List (K × ℕ)) (keys : List K) : Type 0 where
  pub at : (i : ℕ) (k : K) → slice_get keys i ≡ Some k → lookup (is_at (order k)) started ≡ Some i

-- `is_cycle a` is whether the answer `a` is a cycle
abbrev pub is_cycle : {K V : Type 0} → Answer K V → Bool
is_cycle (Value v) = false
is_cycle (Cycle r) = true

-- `entry k a` is the key `k` with the answer `a`
abbrev pub entry : {K V : Type 0} → K → Answer K V → Finished K V
entry k a = record { key = k; answer = a }
