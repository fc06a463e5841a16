-- Auxiliary: frames that wait for each other in a round, and the private steps of a frame. The
-- names are those of `specs/Sound`.
use Rattle.std.specs.Prelude.{ℕ, ◌≡◌, ◌⊎◌, List, [], ◌∷◌, ◌++◌, Option, Bool, true, false}
use Rattle.std.specs.declared.cmp.Ordering.{Ordering}
use Rattle.pq_inputs.specs.Sources.{Sources}
use Rattle.pq_rules.specs.declared.turn.Answer.{Answer}
use Rattle.pq_rules.specs.declared.turn.Answer.TheVariants.{Value, Cycle}
use Rattle.pq_rules.specs.Turns.{Machine, over}
use Rattle.pq_rules.specs.Value.{Means}
use Rattle.pq_memo.specs.declared.stepping.frame.Frame.{Frame}
use Rattle.pq_memo.specs.declared.stepping.frame.Stage.{Stage}
use Rattle.pq_memo.specs.declared.stepping.frame.Stage.TheVariants.{Walking, Waiting}
use Rattle.pq_memo.specs.declared.stepping.frame.Found.{Found}
use Rattle.pq_memo.specs.declared.stepping.frame.Found.TheVariants.{Verified, Valid, Behind, Outdated, Cyclic}
use Rattle.pq_memo.specs.Sound.{Memo}
use Rattle.pq_memo.specs.Look.{IsUpToDate, IsGreen, IsByReads, HasChangedRead, IsLapsedRing}
use Rattle.pq_memo.specs.Frames.{Sits, front_of}
use Rattle.pq_memo.specs.aux.Tests.{IsReachedAt}

-- `RingSits order m history now Has first es` is that each key of `es`, each with what it read,
-- sits at a question for the next, and the last at one for `first`
unfoldable pub RingSits : {K P V : Type 0} → (K → K → Ordering) → Machine K P V → List Sources → ℕ → (K → Memo K V → Type 0) → K → List (K × List K) → Type 0
RingSits order m history now Has first [] = ⊥
RingSits {K} {P} {V} order m history now Has first (e ∷ []) = (p : P) × Sits order m history now Has e.0 first p e.1
RingSits {K} {P} {V} order m history now Has first (e ∷ (f ∷ es)) =
    ((p : P) × Sits order m history now Has e.0 f.0 p e.1) × RingSits order m history now Has first (f ∷ es)

-- `members first es` is the keys of `es` with all their reads, the last of which leads to the next
-- key, and that of the last key to `first`
abbrev pub members : {K : Type 0} → K → List (K × List K) → List (K × List K)
members first [] = []
members first (e ∷ []) = (e.0, e.1 ++ first ∷ []) ∷ []
members first (e ∷ (f ∷ es)) = (e.0, e.1 ++ f.0 ∷ []) ∷ members first (f ∷ es)

-- `IsCycleRead m now Has k q answer` is that `q` is of the level of `k`, and that its memo was
-- verified now and has `answer`, a cycle
pub record IsCycleRead {K P V : Type 0} (m : Machine K P V) (now : ℕ) (Has : K → Memo K V → Type 0) (k q : K) (answer : Answer K V) : Type 0 where
  pub level : m.level q ≡ m.level k
  pub read : Memo K V
  pub has : Has q read
  pub verified : read.verified ≡ now
  pub ring : List K
  pub read_is : read.answer ≡ Cycle ring
  pub answer_is : answer ≡ Cycle ring

-- `IsFound m history now Has k found` is that `found` is the state of the memo of `k`
abbrev pub IsFound : {K P V : Type 0} → Machine K P V → List Sources → ℕ → (K → Memo K V → Type 0) → K → Found K → Type 0
IsFound m history now Has k Verified = IsUpToDate m now Has k
IsFound m history now Has k Valid = IsGreen m history now Has k
IsFound {K} {P} {V} m history now Has k (Behind i q) =
    (memo : Memo K V) × IsByReads history now Has k memo × IsReachedAt m history now Has memo.verified memo.reads i q
    × (IsUpToDate m now Has q → ⊥)
IsFound m history now Has k (Outdated q) = HasChangedRead m history now Has k q
IsFound m history now Has k Cyclic = IsLapsedRing history now Has k

-- `IsReadAnswer order m files now Has q answer` is that `answer` is that of `q`, which is up to
-- date
abbrev pub IsReadAnswer : {K P V : Type 0} → (K → K → Ordering) → Machine K P V → Sources → ℕ → (K → Memo K V → Type 0) → K → Answer K V → Type 0
IsReadAnswer {K} {P} {V} order m files now Has q answer =
    ((m.level q ≡ 0) × Means (over order m files) q answer)
    ⊎ ((memo : Memo K V) × Has q memo × (memo.verified ≡ now) × (memo.answer ≡ answer))

-- `IsAtHand now Has q answer` is that the memo of `q` was verified now, and that its answer is
-- `answer`, a value
pub record IsAtHand {K V : Type 0} (now : ℕ) (Has : K → Memo K V → Type 0) (q : K) (answer : Answer K V) : Type 0 where
  pub memo : Memo K V
  pub has : Has q memo
  pub verified : memo.verified ≡ now
  pub answer_is : memo.answer ≡ answer
  pub value : V
  pub value_is : answer ≡ Value value

-- `Passes test m k q answer` is that `test` is whether `k` has `answer`, that of its read `q`, as
-- its own answer: a cycle of its level
abbrev pub Passes : {K P V : Type 0} → Bool → Machine K P V → K → K → Answer K V → Type 0
Passes {K} {P} {V} true m k q answer = (m.level q ≡ m.level k) × ((ring : List K) × (answer ≡ Cycle ring))
Passes {K} {P} {V} false m k q answer = m.level q ≡ m.level k → (value : V) × (answer ≡ Value value)

-- `WaitsAt stage part asked front` is that the rule waits at `stage`, with `part`, for `asked`,
-- after the reads `front`
abbrev pub WaitsAt : {K P : Type 0} → Stage K P → P → K → List K → Type 0
WaitsAt (Walking place) part asked front = ⊥
WaitsAt (Waiting other question reads) part asked front = (other ≡ part) × (question ≡ asked) × (reads.items ≡ front)

-- `pairs table frames` is the keys of `frames`, each with the reads before the one that it waits
-- for
abbrev pub pairs : {K P V : Type 0} → (K → Option (Memo K V)) → List (Frame K P) → List (K × List K)
pairs table [] = []
pairs table (f ∷ fs) = (f.key, front_of table f.key f.stage) ∷ pairs table fs
