-- Auxiliary: what the private tests of a memo answer. The names are those of `specs/Sound`.
use Rattle.std.specs.Prelude.{ℕ, ◌≡◌, ◌⊎◌, ◌<◌, List, take, Some, slice_get, Bool, true, false}
use Rattle.pq_inputs.specs.Sources.{Sources}
use Rattle.pq_rules.specs.Turns.{Machine}
use Rattle.pq_rules.specs.Relations.{Each}
use Rattle.pq_memo.specs.declared.table.state.Passed.{Passed}
use Rattle.pq_memo.specs.declared.table.state.Passed.TheVariants.{All, Stale, Newer}
use Rattle.pq_memo.specs.declared.table.state.State.{State}
use Rattle.pq_memo.specs.declared.table.state.State.TheVariants.{Verified, Valid, Behind, Outdated, Cyclic}
use Rattle.pq_memo.specs.Sound.{Memo}
use Rattle.pq_memo.specs.Look.{IsUpToDate, HasChanged, IsStill, Lasts, HasLapsed, IsOnItsRing, IsOld, IsByReads}

-- `Confirms test history memo` is that `test` is whether durability confirms `memo`
abbrev pub Confirms : {K V : Type 0} → Bool → List Sources → Memo K V → Type 0
Confirms true history memo = Lasts history memo
Confirms false history memo = HasLapsed history memo

-- `OnRing test k memo` is that `test` is whether `k` is a key of the cycle that is the answer of
-- `memo`
abbrev pub OnRing : {K V : Type 0} → Bool → K → Memo K V → Type 0
OnRing true k memo = IsOnItsRing k memo
OnRing false k memo = IsOnItsRing k memo → ⊥

-- `IsReachedAt m history now Has since reads place q` is that `q` is the read at `place`, and that
-- each before it is up to date and did not change after `since`
pub record IsReachedAt {K P V : Type 0} (m : Machine K P V) (history : List Sources) (now : ℕ) (Has : K → Memo K V → Type 0)
    (since : ℕ) (reads : List K) (place : ℕ) (q : K) : Type 0 where
  pub there : slice_get reads place ≡ Some q
  pub still : Each (IsStill m history now Has since) (take place reads)

-- `IsPass m history now Has since reads passed` is that a pass over `reads` ends with `passed`
abbrev pub IsPass : {K P V : Type 0} → Machine K P V → List Sources → ℕ → (K → Memo K V → Type 0) → ℕ → List K → Passed → Type 0
IsPass m history now Has since reads All = Each (IsStill m history now Has since) reads
IsPass {K} m history now Has since reads (Stale i) =
    (q : K) × IsReachedAt m history now Has since reads i q × (IsUpToDate m now Has q → ⊥)
IsPass {K} m history now Has since reads (Newer i) =
    (q : K) × IsReachedAt m history now Has since reads i q × IsUpToDate m now Has q
    × ((revision : ℕ) × HasChanged m history Has q revision × (since < revision))

-- `IsState m history now Has k memo state` is that `state` is the state of `memo`, which the table
-- has of `k`
abbrev pub IsState : {K P V : Type 0} → Machine K P V → List Sources → ℕ → (K → Memo K V → Type 0) → K → Memo K V → State → Type 0
IsState m history now Has k memo Verified = memo.verified ≡ now
IsState m history now Has k memo Valid =
    (IsOld now Has k memo × Lasts history memo)
    ⊎ (IsByReads history now Has k memo × Each (IsStill m history now Has memo.verified) memo.reads)
IsState {K} m history now Has k memo (Behind i) =
    IsByReads history now Has k memo × ((q : K) × IsReachedAt m history now Has memo.verified memo.reads i q × (IsUpToDate m now Has q → ⊥))
IsState {K} m history now Has k memo (Outdated i) =
    IsByReads history now Has k memo × ((q : K) × IsReachedAt m history now Has memo.verified memo.reads i q × IsUpToDate m now Has q
    × ((revision : ℕ) × HasChanged m history Has q revision × (memo.verified < revision)))
IsState m history now Has k memo Cyclic = IsOld now Has k memo × HasLapsed history memo × IsOnItsRing k memo
