-- When a memo is valid, and what has to be done where it may not be: by durability first, and then
-- by its reads in order. (The Salsa book, "The red-green algorithm".)
--
-- For each key exactly one holds of `IsUpToDate`, `IsGreen`, `WalksTo` for one read,
-- `HasChangedRead` for one read, `IsFresh` and `IsLapsedRing`. The names are those of
-- `specs/Sound`.
use Rattle.std.specs.Prelude.{ℕ, ◌≡◌, ◌⊎◌, ◌<◌, ◌≤◌, List, ◌∷◌, ◌++◌, Option, Some, None}
use Rattle.pq_inputs.specs.Sources.{Sources}
use Rattle.pq_inputs.specs.Changes.{IsLastChange, IsLastChangeOf}
use Rattle.pq_rules.specs.declared.turn.Answer.TheVariants.{Cycle}
use Rattle.pq_rules.specs.Turns.{Machine}
use Rattle.pq_rules.specs.Relations.{Each, In}
use Rattle.pq_memo.specs.Sound.{Memo}

-- `FileChanged history name revision` is that the file `name` last changed at `revision`; without a
-- name, that `revision` is 0
abbrev pub FileChanged : List Sources → Option (List ℕ) → ℕ → Type 0
FileChanged history None revision = revision ≡ 0
FileChanged history (Some name) revision = IsLastChange history name revision

-- `IsUpToDate m now Has k` is that `k` is an input, or that its memo was verified now
abbrev pub IsUpToDate : {K P V : Type 0} → Machine K P V → ℕ → (K → Memo K V → Type 0) → K → Type 0
IsUpToDate {K} {P} {V} m now Has k = (m.level k ≡ 0) ⊎ ((memo : Memo K V) × Has k memo × (memo.verified ≡ now))

-- `HasChanged m history Has k revision` is that the file of the input `k`, or the answer of its
-- memo, last changed at `revision`
abbrev pub HasChanged : {K P V : Type 0} → Machine K P V → List Sources → (K → Memo K V → Type 0) → K → ℕ → Type 0
HasChanged {K} {P} {V} m history Has k revision =
    ((m.level k ≡ 0) × FileChanged history (m.file k) revision) ⊎ ((memo : Memo K V) × Has k memo × (memo.changed ≡ revision))

-- `IsStill m history now Has since q` is that `q` is up to date and did not change after `since`
pub record IsStill {K P V : Type 0} (m : Machine K P V) (history : List Sources) (now : ℕ) (Has : K → Memo K V → Type 0) (since : ℕ) (q : K) : Type 0 where
  pub up_to_date : IsUpToDate m now Has q
  pub revision : ℕ
  pub changed : HasChanged m history Has q revision
  pub not_after : revision ≤ since

-- `Lasts history memo` is that no file of the memo's durability or more changed after the memo was
-- verified
abbrev pub Lasts : {K V : Type 0} → List Sources → Memo K V → Type 0
Lasts history memo = (last : ℕ) × IsLastChangeOf history memo.durability last × (last ≤ memo.verified)

-- `HasLapsed history memo` is that a file of the memo's durability or more changed after the memo
-- was verified
abbrev pub HasLapsed : {K V : Type 0} → List Sources → Memo K V → Type 0
HasLapsed history memo = (last : ℕ) × IsLastChangeOf history memo.durability last × (memo.verified < last)

-- `IsOnItsRing k memo` is that the answer of `memo` is a cycle and that `k` is a key of it
abbrev pub IsOnItsRing : {K V : Type 0} → K → Memo K V → Type 0
IsOnItsRing {K} k memo = (ring : List K) × (memo.answer ≡ Cycle ring) × In k ring

-- `IsOld now Has k memo` is that the table has `memo` of `k`, and that it was not verified now
pub record IsOld {K V : Type 0} (now : ℕ) (Has : K → Memo K V → Type 0) (k : K) (memo : Memo K V) : Type 0 where
  pub has : Has k memo
  pub earlier : memo.verified ≡ now → ⊥

-- `IsByReads history now Has k memo` is that only its reads can confirm the memo of `k`
pub record IsByReads {K V : Type 0} (history : List Sources) (now : ℕ) (Has : K → Memo K V → Type 0) (k : K) (memo : Memo K V) : Type 0 where
  pub old : IsOld now Has k memo
  pub lapsed : HasLapsed history memo
  pub no_ring : IsOnItsRing k memo → ⊥

-- `IsReached m history now Has since reads q` is that `q` is one of `reads`, and that each before
-- it is up to date and did not change after `since`
pub record IsReached {K P V : Type 0} (m : Machine K P V) (history : List Sources) (now : ℕ) (Has : K → Memo K V → Type 0)
    (since : ℕ) (reads : List K) (q : K) : Type 0 where
  pub front : List K
  pub back : List K
  pub whole : reads ≡ front ++ q ∷ back
  pub still : Each (IsStill m history now Has since) front

-- `IsGreen m history now Has k` is that the memo of `k` is valid: by durability, or by its reads
abbrev pub IsGreen : {K P V : Type 0} → Machine K P V → List Sources → ℕ → (K → Memo K V → Type 0) → K → Type 0
IsGreen {K} {P} {V} m history now Has k =
    (memo : Memo K V) × ((IsOld now Has k memo × Lasts history memo)
    ⊎ (IsByReads history now Has k memo × Each (IsStill m history now Has memo.verified) memo.reads))

-- `WalksTo m history now Has k q` is that `q` is the first read of the memo of `k` that is not up
-- to date, and that no read before it changed
abbrev pub WalksTo : {K P V : Type 0} → Machine K P V → List Sources → ℕ → (K → Memo K V → Type 0) → K → K → Type 0
WalksTo {K} {P} {V} m history now Has k q =
    (memo : Memo K V) × IsByReads history now Has k memo × IsReached m history now Has memo.verified memo.reads q
    × (IsUpToDate m now Has q → ⊥)

-- `HasChangedRead m history now Has k q` is that `q` is the first read of the memo of `k` that
-- changed after the memo was verified, and that the reads up to it are up to date
abbrev pub HasChangedRead : {K P V : Type 0} → Machine K P V → List Sources → ℕ → (K → Memo K V → Type 0) → K → K → Type 0
HasChangedRead {K} {P} {V} m history now Has k q =
    (memo : Memo K V) × IsByReads history now Has k memo × IsReached m history now Has memo.verified memo.reads q
    × IsUpToDate m now Has q × ((revision : ℕ) × HasChanged m history Has q revision × (memo.verified < revision))

-- `IsFresh m Has k` is that `k` has a rule and the table has no memo of it
abbrev pub IsFresh : {K P V : Type 0} → Machine K P V → (K → Memo K V → Type 0) → K → Type 0
IsFresh {K} {P} {V} m Has k = (0 < m.level k) × ((memo : Memo K V) → Has k memo → ⊥)

-- `IsLapsedRing history now Has k` is that `k` is a key of the cycle that is its memo's answer, and
-- that durability does not confirm the memo
abbrev pub IsLapsedRing : {K V : Type 0} → List Sources → ℕ → (K → Memo K V → Type 0) → K → Type 0
IsLapsedRing {K} {V} history now Has k =
    (memo : Memo K V) × IsOld now Has k memo × HasLapsed history memo × IsOnItsRing k memo
