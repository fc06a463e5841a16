-- What one step of a frame does. The names are those of `specs/Sound`.
use Rattle.std.specs.Prelude.{ℕ, ◌≡◌, ◌⊎◌, List, [], ◌∷◌, ◌++◌, Option}
use Rattle.std.specs.declared.cmp.Ordering.{Ordering}
use Rattle.pq_inputs.specs.Sources.{Sources, Table}
use Rattle.pq_rules.specs.declared.turn.Answer.{Answer}
use Rattle.pq_rules.specs.Turns.{Machine}
use Rattle.pq_memo.specs.declared.table.look.Why.{Why}
use Rattle.pq_memo.specs.declared.table.look.Why.TheVariants.{Fresh, Changed, Ring}
use Rattle.pq_memo.specs.declared.stepping.frame.Stage.{Stage}
use Rattle.pq_memo.specs.declared.stepping.frame.Stage.TheVariants.{Walking, Waiting}
use Rattle.pq_memo.specs.declared.stepping.frame.Step.{Step}
use Rattle.pq_memo.specs.declared.stepping.frame.Step.TheVariants.{Finished, Needs, Starts, GoesOn}
use Rattle.pq_memo.specs.Sound.{Memo}
use Rattle.pq_memo.specs.Look.{IsUpToDate, HasChangedRead, IsFresh, IsLapsedRing}
use Rattle.pq_memo.specs.Table.{memo_at, HasIn, IsSameTable}
use Rattle.pq_memo.specs.Writes.{IsMarked, IsPublished}
use Rattle.pq_memo.specs.Frames.{Came, Awaits}

-- `IsWhy m history now Has k why` is that the rule of `k` has to be started, because of `why`
abbrev pub IsWhy : {K P V : Type 0} → Machine K P V → List Sources → ℕ → (K → Memo K V → Type 0) → K → Why K → Type 0
IsWhy m history now Has k Fresh = IsFresh m Has k
IsWhy m history now Has k (Changed q) = HasChangedRead m history now Has k q
IsWhy m history now Has k Ring = IsLapsedRing history now Has k

-- `IsFinished order m inputs before after k` is that `k` was up to date, or that its memo was
-- marked as verified or published
abbrev pub IsFinished : {K P V : Type 0} → (K → K → Ordering) → Machine K P V → Table → List (K × Option (Memo K V)) → List (K × Option (Memo K V)) → K → Type 0
IsFinished {K} {P} {V} order m inputs before after k =
    (IsSameTable (memo_at order before) (memo_at order after) × IsUpToDate m inputs.revision (HasIn (memo_at order before)) k)
    ⊎ (IsMarked order m inputs before k after ⊎ ((answer : Answer K V) × (reads : List K) × IsPublished order m inputs before k answer reads after))

-- `HasPart stage part` is that the rule waits at `stage`, with `part`
abbrev pub HasPart : {K P : Type 0} → Stage K P → P → Type 0
HasPart (Walking i) part = ⊥
HasPart (Waiting other asked reads) part = other ≡ part

-- `HasRead stage reads` is that the rule waits at `stage`, and that `reads` are its reads before and
-- the key that it asks for
abbrev pub HasRead : {K P : Type 0} → Stage K P → List K → Type 0
HasRead (Walking i) reads = ⊥
HasRead (Waiting part asked front) reads = reads ≡ front.items ++ asked ∷ []

-- `IsWalking stage` is that the key's frame walks at `stage`
abbrev pub IsWalking : {K P : Type 0} → Stage K P → Type 0
IsWalking (Walking i) = Unit {0}
IsWalking (Waiting part asked reads) = ⊥

-- `StaysAt before after` is that the frame walks at both stages, or that its rule waits at both for
-- the same answer
abbrev pub StaysAt : {K P : Type 0} → Stage K P → Stage K P → Type 0
StaysAt (Walking i) (Walking j) = Unit {0}
StaysAt (Walking i) (Waiting part asked reads) = ⊥
StaysAt (Waiting part asked reads) (Walking i) = ⊥
StaysAt (Waiting part asked reads) (Waiting other question front) = (part ≡ other) × (asked ≡ question) × (reads.items ≡ front.items)

-- `IsStep order m inputs before after k stage step` is that a step of the frame of `k` at `stage`
-- ends in `step`, and changes the places from `before` to `after`
abbrev pub IsStep : {K P V : Type 0} → (K → K → Ordering) → Machine K P V → Table → List (K × Option (Memo K V)) → List (K × Option (Memo K V))
    → K → Stage K P → Step K P V → Type 0
IsStep order m inputs before after k stage Finished = IsFinished order m inputs before after k
IsStep order m inputs before after k stage (Needs frame q) =
    IsSameTable (memo_at order before) (memo_at order after) × (frame.key ≡ k) × StaysAt stage frame.stage
    × Awaits order m inputs.history inputs.revision (HasIn (memo_at order before)) k frame.stage q
    × (IsUpToDate m inputs.revision (HasIn (memo_at order before)) q → ⊥)
IsStep order m inputs before after k stage (Starts key why) =
    IsSameTable (memo_at order before) (memo_at order after) × (key ≡ k) × IsWalking stage
    × IsWhy m inputs.history inputs.revision (HasIn (memo_at order before)) k why
IsStep order m inputs before after k stage (GoesOn key part answer reads) =
    IsSameTable (memo_at order before) (memo_at order after) × (key ≡ k) × HasPart stage part
    × Came order m inputs.history inputs.revision (HasIn (memo_at order before)) k (m.advance part answer) reads.items
    × HasRead stage reads.items
