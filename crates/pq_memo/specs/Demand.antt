-- What a demand answers and what it leaves. The names are those of `specs/Sound`.
use Rattle.std.specs.Prelude.{ℕ, ◌≡◌, ◌⊎◌, List, [], ◌∷◌, Option}
use Rattle.std.specs.declared.cmp.Ordering.{Ordering}
use Rattle.pq_inputs.specs.Sources.{Sources}
use Rattle.pq_rules.specs.Turns.{Machine}
use Rattle.pq_rules.specs.Relations.{In}
use Rattle.pq_memo.specs.declared.demand.demanded.Carried.{Carried}
use Rattle.pq_memo.specs.Sound.{Memo}
use Rattle.pq_memo.specs.Cause.{IsCause}
use Rattle.pq_memo.specs.Table.{HasIn}

-- `IsCarried order m history now Has entry` is that `entry` names the revision `now`, and a cause
-- that the table gives to start the rule of its key
pub record IsCarried {K P V : Type 0} (order : K → K → Ordering) (m : Machine K P V) (history : List Sources) (now : ℕ)
    (Has : K → Memo K V → Type 0) (entry : Carried K) : Type 0 where
  pub revision : entry.revision ≡ now
  pub cause : IsCause order m history now Has entry.key entry.why

-- `carried_keys entries` is the keys of `entries`
abbrev pub carried_keys : {K : Type 0} → List (Carried K) → List K
carried_keys [] = []
carried_keys (entry ∷ entries) = entry.key ∷ carried_keys entries

-- `Differ ks` is that no key is in `ks` twice
abbrev pub Differ : {K : Type 0} → List K → Type 0
Differ [] = Unit {0}
Differ (k ∷ ks) = (In k ks → ⊥) × Differ ks

-- `IsVerified now table k` is that `table` has a memo of `k` that was verified now
abbrev pub IsVerified : {K V : Type 0} → ℕ → (K → Option (Memo K V)) → K → Type 0
IsVerified {K} {V} now table k = (memo : Memo K V) × HasIn table k memo × (memo.verified ≡ now)

-- `NoneLost before after` is that `after` has a memo of each key of which `before` has one, and
-- that its changed revision is the same if their answers are equal
abbrev pub NoneLost : {K V : Type 0} → (K → Option (Memo K V)) → (K → Option (Memo K V)) → Type 0
NoneLost {K} {V} before after =
    (k : K) (old : Memo K V) → HasIn before k old
    → (memo : Memo K V) × HasIn after k memo × (memo.answer ≡ old.answer → memo.changed ≡ old.changed)

-- `IsSameOrVerified now before after k` is that `after` has of `k` the memo of `before`, or one
-- that was verified now
abbrev pub IsSameOrVerified : {K V : Type 0} → ℕ → (K → Option (Memo K V)) → (K → Option (Memo K V)) → K → Type 0
IsSameOrVerified now before after k = (after k ≡ before k) ⊎ IsVerified now after k
