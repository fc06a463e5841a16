-- Frames: keys that are being brought up to date. A frame walks over the recorded reads of its
-- key's memo, or its key's rule waits for an answer. The names are those of `specs/Sound`.
use Rattle.std.specs.Prelude.{ℕ, ◌≡◌, ◌<◌, ◌≤◌, List, [], ◌∷◌, ◌++◌, length, take, slice_get, Option, Some, None}
use Rattle.std.specs.declared.cmp.Ordering.{Ordering}
use Rattle.std.specs.declared.cmp.Ordering.TheVariants.{Less}
use Rattle.pq_inputs.specs.Sources.{Sources}
use Rattle.pq_rules.specs.declared.turn.Turn.{Turn}
use Rattle.pq_rules.specs.declared.turn.Turn.TheVariants.{Ask}
use Rattle.pq_rules.specs.Turns.{Machine}
use Rattle.pq_rules.specs.Relations.{Each}
use Rattle.pq_rules.specs.Value.{Trace, ComesBy}
use Rattle.pq_memo.specs.declared.stepping.frame.Frame.{Frame}
use Rattle.pq_memo.specs.declared.stepping.frame.Stage.{Stage}
use Rattle.pq_memo.specs.declared.stepping.frame.Stage.TheVariants.{Walking, Waiting}
use Rattle.pq_memo.specs.Sound.{Memo, at, asked_keys}
use Rattle.pq_memo.specs.Look.{IsUpToDate, HasLapsed, IsStill}
use Rattle.pq_memo.specs.Table.{HasIn}

-- `Came order m history now Has k turn front` is that the rule of `k` comes now, by right reads of
-- the keys `front`, to `turn`; these keys are up to date, and durability does not confirm the memo
-- of `k`
pub record Came {K P V : Type 0} (order : K → K → Ordering) (m : Machine K P V) (history : List Sources) (now : ℕ)
    (Has : K → Memo K V → Type 0) (k : K) (turn : Turn K P V) (front : List K) : Type 0 where
  pub ruled : 0 < m.level k
  pub lapsed : (memo : Memo K V) → Has k memo → HasLapsed history memo
  pub run : Trace K V
  pub comes : ComesBy (at order m history now) k run turn
  pub reads : asked_keys run ≡ front
  pub fresh : Each (IsUpToDate m now Has) front

-- `Sits order m history now Has k q part front` is that it comes to the question `q`, with `part`
abbrev pub Sits : {K P V : Type 0} → (K → K → Ordering) → Machine K P V → List Sources → ℕ → (K → Memo K V → Type 0) → K → K → P → List K → Type 0
Sits order m history now Has k q part front = Came order m history now Has k (Ask q part) front

-- `IsWalked m history now Has k place` is that in the memo of `k` the reads before `place` are up
-- to date and did not change
abbrev pub IsWalked : {K P V : Type 0} → Machine K P V → List Sources → ℕ → (K → Memo K V → Type 0) → K → ℕ → Type 0
IsWalked {K} {P} {V} m history now Has k place =
    (memo : Memo K V) → Has k memo → (place ≤ length memo.reads) × Each (IsStill m history now Has memo.verified) (take place memo.reads)

-- `IsFrame order m history now Has k stage` is that `k` can be brought up to date from `stage` on
abbrev pub IsFrame : {K P V : Type 0} → (K → K → Ordering) → Machine K P V → List Sources → ℕ → (K → Memo K V → Type 0) → K → Stage K P → Type 0
IsFrame order m history now Has k (Walking place) = (0 < m.level k) × IsWalked m history now Has k place
IsFrame order m history now Has k (Waiting part asked reads) = Sits order m history now Has k asked part reads.items

-- `WalksAt order m history now Has k place q` is that `q` is the read at `place` of the memo of
-- `k`, that those before it are up to date and did not change, and that the rule of `k` asks `q`
-- now
pub record WalksAt {K P V : Type 0} (order : K → K → Ordering) (m : Machine K P V) (history : List Sources) (now : ℕ)
    (Has : K → Memo K V → Type 0) (k : K) (place : ℕ) (q : K) : Type 0 where
  pub memo : Memo K V
  pub has : Has k memo
  pub there : slice_get memo.reads place ≡ Some q
  pub still : Each (IsStill m history now Has memo.verified) (take place memo.reads)
  pub part : P
  pub sits : Sits order m history now Has k q part (take place memo.reads)

-- `Awaits order m history now Has k stage q` is that the frame of `k` at `stage` waits for `q`
abbrev pub Awaits : {K P V : Type 0} → (K → K → Ordering) → Machine K P V → List Sources → ℕ → (K → Memo K V → Type 0) → K → Stage K P → K → Type 0
Awaits order m history now Has k (Walking place) q = WalksAt order m history now Has k place q
Awaits order m history now Has k (Waiting part asked reads) q = (asked ≡ q) × Sits order m history now Has k asked part reads.items

-- `IsSameStage a b` is that contracts see the stages `a` and `b` as one
abbrev pub IsSameStage : {K P : Type 0} → Stage K P → Stage K P → Type 0
IsSameStage (Walking i) (Walking j) = i ≡ j
IsSameStage (Walking i) (Waiting part asked reads) = ⊥
IsSameStage (Waiting part asked reads) (Walking i) = ⊥
IsSameStage (Waiting part asked reads) (Waiting other question front) = (part ≡ other) × (asked ≡ question) × (reads.items ≡ front.items)

-- `reads_of place` is the reads of the memo in `place`, if there is one
abbrev pub reads_of : {K V : Type 0} → Option (Memo K V) → List K
reads_of None = []
reads_of (Some memo) = memo.reads

-- `front_of table k stage` is the reads before the one that the frame of `k` at `stage` waits for
abbrev pub front_of : {K P V : Type 0} → (K → Option (Memo K V)) → K → Stage K P → List K
front_of table k (Walking place) = take place (reads_of (table k))
front_of table k (Waiting part asked reads) = reads.items

-- `RoundOf order m history now table first frames` is that each of `frames` waits for the key of
-- the next, and the last for `first`
unfoldable pub RoundOf : {K P V : Type 0} → (K → K → Ordering) → Machine K P V → List Sources → ℕ → (K → Option (Memo K V)) → K → List (Frame K P) → Type 0
RoundOf order m history now table first [] = ⊥
RoundOf order m history now table first (f ∷ []) = Awaits order m history now (HasIn table) f.key f.stage first
RoundOf order m history now table first (f ∷ (g ∷ fs)) =
    Awaits order m history now (HasIn table) f.key f.stage g.key × RoundOf order m history now table first (g ∷ fs)

-- `frame_keys frames` is the keys of `frames`
abbrev pub frame_keys : {K P : Type 0} → List (Frame K P) → List K
frame_keys [] = []
frame_keys (f ∷ fs) = f.key ∷ frame_keys fs

-- `IsRound order m history now table frames` is that `frames` wait for each other in a round, and
-- that the first has the least key
abbrev pub IsRound : {K P V : Type 0} → (K → K → Ordering) → Machine K P V → List Sources → ℕ → (K → Option (Memo K V)) → List (Frame K P) → Type 0
IsRound order m history now table [] = ⊥
IsRound order m history now table (f ∷ fs) =
    RoundOf order m history now table f.key (f ∷ fs) × Each (λ x. order f.key x ≡ Less) (frame_keys fs)

-- `IsMember order m history now table frame member` is that `member` is the key of `frame` with its
-- reads, the one that it waits for included
abbrev pub IsMember : {K P V : Type 0} → (K → K → Ordering) → Machine K P V → List Sources → ℕ → (K → Option (Memo K V)) → Frame K P → K × List K → Type 0
IsMember {K} order m history now table frame member =
    (q : K) → Awaits order m history now (HasIn table) frame.key frame.stage q
    → member ≡ (frame.key, front_of table frame.key frame.stage ++ q ∷ [])

-- `AreMembers order m history now table frames members` is that `members` are those of `frames`
abbrev pub AreMembers : {K P V : Type 0} → (K → K → Ordering) → Machine K P V → List Sources → ℕ → (K → Option (Memo K V)) → List (Frame K P) → List (K × List K) → Type 0
AreMembers order m history now table [] [] = Unit {0}
AreMembers order m history now table [] (e ∷ es) = ⊥
AreMembers order m history now table (f ∷ fs) [] = ⊥
AreMembers order m history now table (f ∷ fs) (e ∷ es) = IsMember order m history now table f e × AreMembers order m history now table fs es
