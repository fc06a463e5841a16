-- What contracts see of a table of memos: the rule set, and the places of the keys, in their order.
-- A key may have a place without a memo.
use Rattle.std.specs.Prelude.{ℕ, zero, suc, ◌≡◌, ◌+◌, List, [], ◌∷◌, ◌++◌, length, slice_get, Option, Some, None, cond}
use Rattle.std.specs.Map.{lookup}
use Rattle.std.specs.BTreeMap.{is_at}
use Rattle.std.specs.Ordering.{is_eq}
use Rattle.std.specs.declared.cmp.Ordering.{Ordering}
use Rattle.pq_inputs.specs.Sources.{Table}
use Rattle.pq_rules.specs.Turns.{Machine}
use Rattle.pq_memo.specs.Sound.{Memo}
use Rattle.pq_memo.specs.Kept.{Kept}

-- `View R K V` is a rule set and the places of a table
pub record View (R K V : Type 0) : Type 0 where
  pub rules : R
  pub places : List (K × Option (Memo K V))

-- `key_at places n` is the key of the place `n`, counted from 0, if there is one
abbrev pub key_at : {K X : Type 0} → List (K × X) → ℕ → Option K
key_at [] n = None
key_at (e ∷ es) zero = Some e.0
key_at (e ∷ es) (suc n) = key_at es n

-- `joined o` is what is in the place `o`, if there is a place
abbrev pub joined : {A : Type 0} → Option (Option A) → Option A
joined None = None
joined (Some o) = o

-- `memo_at order places k` is the memo of `k`, if `places` has one
abbrev pub memo_at : {K V : Type 0} → (K → K → Ordering) → List (K × Option (Memo K V)) → K → Option (Memo K V)
memo_at order places k = joined (lookup (is_at (order k)) places)

-- `HasIn table k memo` is that `table` has `memo` of `k`
abbrev pub HasIn : {K V : Type 0} → (K → Option (Memo K V)) → K → Memo K V → Type 0
HasIn table k memo = table k ≡ Some memo

-- `IsPut order before k memo after` is that `after` has `memo` of `k`, and of every other key the
-- memo of `before`
abbrev pub IsPut : {K V : Type 0} → (K → K → Ordering) → (K → Option (Memo K V)) → K → Memo K V → (K → Option (Memo K V)) → Type 0
IsPut {K} order before k memo after = (q : K) → after q ≡ cond (is_eq (order k q)) (Some memo) (before q)

-- `IsSameTable before after` is that `after` has of each key the memo of `before`
abbrev pub IsSameTable : {K V : Type 0} → (K → Option (Memo K V)) → (K → Option (Memo K V)) → Type 0
IsSameTable {K} before after = (q : K) → after q ≡ before q

-- `KeptOver order m inputs places` is the invariant of the table, over the history of `inputs`
abbrev pub KeptOver : {K P V : Type 0} → (K → K → Ordering) → Machine K P V → Table → List (K × Option (Memo K V)) → Type 0
KeptOver order m inputs places = Kept order m inputs.history inputs.revision (HasIn (memo_at order places))

-- `IsNext before after` is that the inputs `after` have one revision more than `before`
pub record IsNext (before after : Table) : Type 0 where
  pub counted : length before.history ≡ before.revision + 1
  pub latest : slice_get before.history before.revision ≡ Some before.files
  pub revision : after.revision ≡ before.revision + 1
  pub history : after.history ≡ before.history ++ after.files ∷ []
