-- Auxiliary: a demand under way. Its state is the table, the stack of frames, and the list of the
-- rules started so far. Each frame but the last waits for the key of the one above it.
--
-- `order` is the order of the keys, `m` the rule set, `inputs` the inputs, and a table is a
-- function from keys. `old` is the table before the demand.
use Rattle.std.specs.Prelude.{ℕ, ◌≡◌, ◌⊎◌, ◌<◌, ◌+◌, ◌*◌, ◌^◌, List, [], ◌∷◌, ◌++◌, length, Bool, false, ◌||◌, cond, nat_eq, slice_index_or, Option, Some, None}
use Rattle.std.specs.declared.cmp.Ordering.{Ordering}
use Rattle.std.specs.Ordering.{is_gt}
use Rattle.pq_inputs.specs.declared.durability.Durability.{Durability}
use Rattle.pq_inputs.specs.Sources.{Table}
use Rattle.pq_rules.specs.declared.turn.Turn.{Turn}
use Rattle.pq_rules.specs.declared.turn.Turn.TheVariants.{Ask}
use Rattle.pq_rules.specs.declared.turn.Answer.{Answer}
use Rattle.pq_rules.specs.Turns.{Machine, IsLower}
use Rattle.pq_rules.specs.Relations.{Each, In}
use Rattle.pq_rules.specs.aux.Evaluator.{Distinct, has, left_number}
use Rattle.pq_memo.specs.declared.stepping.frame.Frame.{Frame}
use Rattle.pq_memo.specs.declared.stepping.frame.Stage.{Stage}
use Rattle.pq_memo.specs.declared.stepping.frame.Stage.TheVariants.{Walking, Waiting}
use Rattle.pq_memo.specs.declared.demand.demanded.Carried.{Carried}
use Rattle.pq_memo.specs.declared.table.look.Why.{Why}
use Rattle.pq_memo.specs.Sound.{Memo}
use Rattle.pq_memo.specs.Kept.{Kept}
use Rattle.pq_memo.specs.Look.{IsUpToDate, IsGreen, Lasts, HasLapsed}
use Rattle.pq_memo.specs.Table.{key_at, memo_at, HasIn, IsSameTable}
use Rattle.pq_memo.specs.Writes.{Dated}
use Rattle.pq_memo.specs.Frames.{IsFrame, Awaits, Came, frame_keys}
use Rattle.pq_memo.specs.Steps.{IsWhy, HasPart, IsWalking, StaysAt}
use Rattle.pq_memo.specs.Demand.{IsCarried, IsVerified, carried_keys}
use Rattle.pq_memo.specs.aux.Durabilities.{IsLeastRead}
use Rattle.pq_memo.specs.aux.Frames.{WaitsAt}

-- `Fits m stage` is that what is left for a rule that waits at `stage` fits in its machine integers
abbrev pub Fits : {K P V : Type 0} → Machine K P V → Stage K P → Type 0
Fits m (Walking place) = Unit {0}
Fits m (Waiting part asked reads) = ((m.left part).0 < 2 ^ 32) × ((m.left part).1 < 2 ^ 64)

-- `LinksTo order m inputs table f fs` is that the frame `f` waits for the key of the first of `fs`,
-- if there is one
abbrev pub LinksTo : {K P V : Type 0} → (K → K → Ordering) → Machine K P V → Table → (K → Option (Memo K V)) → Frame K P → List (Frame K P) → Type 0
LinksTo order m inputs table f [] = Unit {0}
LinksTo order m inputs table f (g ∷ gs) = Awaits order m inputs.history inputs.revision (HasIn table) f.key f.stage g.key

-- `Linked order m inputs table fs` is that each of `fs` can be brought up to date, and waits for
-- the key of the frame after it
unfoldable pub Linked : {K P V : Type 0} → (K → K → Ordering) → Machine K P V → Table → (K → Option (Memo K V)) → List (Frame K P) → Type 0
Linked order m inputs table [] = Unit {0}
Linked order m inputs table (f ∷ fs) =
    IsFrame order m inputs.history inputs.revision (HasIn table) f.key f.stage × Fits m f.stage
    × LinksTo order m inputs table f fs × Linked order m inputs table fs

-- `LastAwaits order m inputs table z fs` is that the last of `fs` waits for `z`
unfoldable pub LastAwaits : {K P V : Type 0} → (K → K → Ordering) → Machine K P V → Table → (K → Option (Memo K V)) → K → List (Frame K P) → Type 0
LastAwaits order m inputs table z [] = ⊥
LastAwaits order m inputs table z (f ∷ []) = Awaits order m inputs.history inputs.revision (HasIn table) f.key f.stage z
LastAwaits order m inputs table z (f ∷ (g ∷ gs)) = LastAwaits order m inputs table z (g ∷ gs)

-- `IsLeastKey order fs i` is that the key of frame `i` is greater than no other frame's
unfoldable pub IsLeastKey : {K P : Type 0} → (K → K → Ordering) → List (Frame K P) → ℕ → Type 0
IsLeastKey {K} {P} order fs i =
    (j : ℕ) (d : Frame K P) → j < length fs
    → is_gt (order (slice_index_or fs i d).key (slice_index_or fs j d).key) ≡ false

-- `waiting_key k stage` is `k` if its rule waits at `stage`
abbrev pub waiting_key : {K P : Type 0} → K → Stage K P → List K
waiting_key k (Walking place) = []
waiting_key k (Waiting part asked reads) = k ∷ []

-- `waiting_keys fs` is the keys of the frames of `fs` whose rules wait
abbrev pub waiting_keys : {K P : Type 0} → List (Frame K P) → List K
waiting_keys [] = []
waiting_keys (f ∷ fs) = waiting_key f.key f.stage ++ waiting_keys fs

-- `IsHandedOn now old table k` is that `table` has of `k` the memo of `old`, or one that was
-- verified now and has the changed revision of its answer
abbrev pub IsHandedOn : {K V : Type 0} → ℕ → (K → Option (Memo K V)) → (K → Option (Memo K V)) → K → Type 0
IsHandedOn {K} {V} now old table k =
    (table k ≡ old k) ⊎ ((memo : Memo K V) × HasIn table k memo × (memo.verified ≡ now) × Dated now (HasIn old) k memo)

-- `Stands order m inputs reach root table stack` is the invariant of the stack of a demand of
-- `root`
pub record Stands {K P V : Type 0} (order : K → K → Ordering) (m : Machine K P V) (inputs : Table) (reach : List K) (root : K)
    (table : K → Option (Memo K V)) (stack : List (Frame K P)) : Type 0 where
  pub linked : Linked order m inputs table stack
  pub distinct : Distinct (frame_keys stack)
  pub stale : (k : K) → In k (frame_keys stack) → IsUpToDate m inputs.revision (HasIn table) k → ⊥
  pub within : (k : K) → In k (frame_keys stack) → In k reach
  pub rooted : In root (frame_keys stack) ⊎ IsUpToDate m inputs.revision (HasIn table) root

-- `Tells order m inputs old table stack carried` is that `carried` are the rules started so far,
-- each for a cause before the demand
pub record Tells {K P V : Type 0} (order : K → K → Ordering) (m : Machine K P V) (inputs : Table) (old table : K → Option (Memo K V))
    (stack : List (Frame K P)) (carried : List (Carried K)) : Type 0 where
  pub handed_on : (k : K) → IsHandedOn inputs.revision old table k
  pub causes : Each (IsCarried order m inputs.history inputs.revision (HasIn old)) carried
  pub once : Distinct (carried_keys carried)
  pub begun : (k : K) → In k (carried_keys carried) → IsVerified inputs.revision table k ⊎ In k (waiting_keys stack)

-- `Going order m inputs reach root old table stack carried` is the invariant of a demand of `root`
pub record Going {K P V : Type 0} (order : K → K → Ordering) (m : Machine K P V) (inputs : Table) (reach : List K) (root : K) (old table : K → Option (Memo K V))
    (stack : List (Frame K P)) (carried : List (Carried K)) : Type 0 where
  pub kept : Kept order m inputs.history inputs.revision (HasIn table)
  pub stands : Stands order m inputs reach root table stack
  pub tells : Tells order m inputs old table stack carried

-- `is_now now place` is whether `place` has a memo that was verified now
abbrev pub is_now : {K V : Type 0} → ℕ → Option (Memo K V) → Bool
is_now now None = false
is_now now (Some memo) = nat_eq memo.verified now

-- `is_seen order now table stack k` is whether `k` was verified now or is a key of the stack
abbrev pub is_seen : {K P V : Type 0} → (K → K → Ordering) → ℕ → (K → Option (Memo K V)) → List (Frame K P) → K → Bool
is_seen order now table stack k = is_now now (table k) || has order k (frame_keys stack)

-- `unseen test ks` is the count of the keys of `ks` of which `test` is false
unfoldable pub unseen : {K : Type 0} → (K → Bool) → List K → ℕ
unseen test [] = 0
unseen test (k ∷ ks) = cond (test k) 0 1 + unseen test ks

-- `rank m stage` is what is left to do at `stage`
abbrev pub rank : {K P V : Type 0} → Machine K P V → Stage K P → ℕ
rank m (Walking place) = 2 ^ 97
rank m (Waiting part asked reads) = left_number (m.left part)

-- `top_rank m stack` is what is left to do at the last frame
unfoldable pub top_rank : {K P V : Type 0} → Machine K P V → List (Frame K P) → ℕ
top_rank m [] = 0
top_rank m (f ∷ []) = rank m f.stage
top_rank m (f ∷ (g ∷ gs)) = top_rank m (g ∷ gs)

-- `weight order m now reach table stack` is the number that each step lowers: first the keys of
-- `reach` that are not seen, then the frames, then what is left to do at the last frame
unfoldable pub weight : {K P V : Type 0} → (K → K → Ordering) → Machine K P V → ℕ → List K → (K → Option (Memo K V)) → List (Frame K P) → ℕ
weight order m now reach table stack =
    (2 * unseen (is_seen order now table stack) reach + length stack) * (2 ^ 97 + 1) + top_rank m stack

-- `Wrote now before after keys` is that `after` has of `keys` memos that were verified now, each
-- with the changed revision of its answer, and of every other key the memo of `before`
pub record Wrote {K V : Type 0} (now : ℕ) (before after : K → Option (Memo K V)) (keys : List K) : Type 0 where
  pub others : (k : K) → (In k keys → ⊥) → after k ≡ before k
  pub news : (k : K) → In k keys → (memo : Memo K V) × HasIn after k memo × (memo.verified ≡ now) × Dated now (HasIn before) k memo

-- `Asked m before after key turn front stack rest` is that the turn of `key` was a question, for
-- which its frame was pushed
pub record Asked {K P V : Type 0} (m : Machine K P V) (before after : K → Option (Memo K V)) (key : K) (turn : Turn K P V) (front : List K)
    (stack rest : List (Frame K P)) : Type 0 where
  pub asked : K
  pub part : P
  pub frame : Frame K P
  pub asks : turn ≡ Ask asked part
  pub fits : ((m.left part).0 < 2 ^ 32) × ((m.left part).1 < 2 ^ 64)
  pub same : IsSameTable before after
  pub key_is : frame.key ≡ key
  pub waits : WaitsAt frame.stage part asked front
  pub pushed : rest ≡ stack ++ frame ∷ []

-- `HasTaken m now before after key turn front stack rest` is that the turn of `key` was taken: a
-- frame was pushed for a question, or a memo was written for a value
abbrev pub HasTaken : {K P V : Type 0} → Machine K P V → ℕ → (K → Option (Memo K V)) → (K → Option (Memo K V)) → K → Turn K P V → List K
    → List (Frame K P) → List (Frame K P) → Type 0
HasTaken m now before after key turn front stack rest =
    Asked m before after key turn front stack rest ⊎ (Wrote now before after (key ∷ []) × (rest ≡ stack))

-- `IsLater m first last` is that `last` is the turn `first`, or that `first` is a question and less
-- is left at each question that `last` is
abbrev pub IsLater : {K P V : Type 0} → Machine K P V → Turn K P V → Turn K P V → Type 0
IsLater {K} {P} {V} m first last =
    (last ≡ first)
    ⊎ ((asked : K) × (part : P) × (first ≡ Ask asked part) × ((q : K) (p : P) → last ≡ Ask q p → IsLower (m.left p) (m.left part)))

-- `HasGone order m inputs before after key turn stack rest` is that the rule of `key` went on from
-- `turn` by right reads to a later turn, which was taken
pub record HasGone {K P V : Type 0} (order : K → K → Ordering) (m : Machine K P V) (inputs : Table) (before after : K → Option (Memo K V))
    (key : K) (turn : Turn K P V) (stack rest : List (Frame K P)) : Type 0 where
  pub last : Turn K P V
  pub front : List K
  pub later : IsLater m turn last
  pub came : Came order m inputs.history inputs.revision (HasIn before) key last front
  pub taken : HasTaken m inputs.revision before after key last front stack rest

-- `walks k` is the frame of `k` that walks from its memo's first read on
abbrev pub walks : {K P : Type 0} → K → Frame K P
walks k = record { key = k; stage = Walking 0 }

-- `Pushed before after all next rest` is that the frame of `next` was pushed
pub record Pushed {K P V : Type 0} (before after : K → Option (Memo K V)) (all : List (Frame K P)) (next : K) (rest : List (Frame K P)) : Type 0 where
  pub same : IsSameTable before after
  pub new : In next (frame_keys all) → ⊥
  pub pushed : rest ≡ all ++ walks next ∷ []

-- `Popped now before after all rest` is that some frames at the end of `all` were popped, and that
-- memos of their keys were written
pub record Popped {K P V : Type 0} (now : ℕ) (before after : K → Option (Memo K V)) (all rest : List (Frame K P)) : Type 0 where
  pub first : Frame K P
  pub others : List (Frame K P)
  pub whole : all ≡ rest ++ first ∷ others
  pub keys : List K
  pub into : (k : K) → In k keys → In k (frame_keys (first ∷ others))
  pub from : (k : K) → In k (frame_keys (first ∷ others)) → In k keys
  pub written : Wrote now before after keys

-- `HasEntered now before after all next rest` is that the last of the frames `all`, which waits for
-- `next`, has a frame of `next` above it now, or was popped with the ring that it closes
abbrev pub HasEntered : {K P V : Type 0} → ℕ → (K → Option (Memo K V)) → (K → Option (Memo K V)) → List (Frame K P) → K → List (Frame K P) → Type 0
HasEntered now before after all next rest = Pushed before after all next rest ⊎ Popped now before after all rest

-- `Enters order m inputs before after f stack rest` is that the frame `f` came to wait for a key
pub record Enters {K P V : Type 0} (order : K → K → Ordering) (m : Machine K P V) (inputs : Table) (before after : K → Option (Memo K V))
    (f : Frame K P) (stack rest : List (Frame K P)) : Type 0 where
  pub frame : Frame K P
  pub next : K
  pub key_is : frame.key ≡ f.key
  pub stays : StaysAt f.stage frame.stage
  pub awaits : Awaits order m inputs.history inputs.revision (HasIn before) f.key frame.stage next
  pub stale : IsUpToDate m inputs.revision (HasIn before) next → ⊥
  pub entered : HasEntered inputs.revision before after (stack ++ frame ∷ []) next rest

-- `Starts order m inputs before after f stack rest entry` is that the rule of the frame `f`, which
-- walked, was started, and `entry` records that
pub record Starts {K P V : Type 0} (order : K → K → Ordering) (m : Machine K P V) (inputs : Table) (before after : K → Option (Memo K V))
    (f : Frame K P) (stack rest : List (Frame K P)) (entry : Carried K) : Type 0 where
  pub why : Why K
  pub walked : IsWalking f.stage
  pub because : IsWhy m inputs.history inputs.revision (HasIn before) f.key why
  pub entry_is : entry ≡ record { key = f.key; revision = inputs.revision; why = why }
  pub gone : HasGone order m inputs before after f.key (m.start f.key) stack rest

-- `GoesOn order m inputs before after f stack rest` is that the rule of the frame `f` went on
pub record GoesOn {K P V : Type 0} (order : K → K → Ordering) (m : Machine K P V) (inputs : Table) (before after : K → Option (Memo K V))
    (f : Frame K P) (stack rest : List (Frame K P)) : Type 0 where
  pub part : P
  pub answer : Answer K V
  pub waited : HasPart f.stage part
  pub gone : HasGone order m inputs before after f.key (m.advance part answer) stack rest

-- `Advances order m inputs before after f stack carried rest entries` is that a step of the frame
-- `f`, the last above `stack`, led to `rest` and to the list `entries` of the rules started
abbrev pub Advances : {K P V : Type 0} → (K → K → Ordering) → Machine K P V → Table → (K → Option (Memo K V)) → (K → Option (Memo K V))
    → Frame K P → List (Frame K P) → List (Carried K) → List (Frame K P) → List (Carried K) → Type 0
Advances {K} order m inputs before after f stack carried rest entries =
    ((entry : Carried K) × Starts order m inputs before after f stack rest entry × (entries ≡ carried ++ entry ∷ []))
    ⊎ ((entries ≡ carried) × ((Wrote inputs.revision before after (f.key ∷ []) × (rest ≡ stack))
    ⊎ (Enters order m inputs before after f stack rest ⊎ GoesOn order m inputs before after f stack rest)))

-- `Caused m inputs table fs` is that each rule that waits in the frames `fs` has a cause to be
-- started still
abbrev pub Caused : {K P V : Type 0} → Machine K P V → Table → (K → Option (Memo K V)) → List (Frame K P) → Type 0
Caused {K} m inputs table fs = (k : K) → In k (waiting_keys fs) → (why : Why K) × IsWhy m inputs.history inputs.revision (HasIn table) k why

-- `HasConfirmed m now before after ks` is that memos of keys that were not up to date, none of
-- which is one of `ks`, were written
pub record HasConfirmed {K P V : Type 0} (m : Machine K P V) (now : ℕ) (before after : K → Option (Memo K V)) (ks : List K) : Type 0 where
  pub keys : List K
  pub written : Wrote now before after keys
  pub stale : (k : K) → In k keys → IsUpToDate m now (HasIn before) k → ⊥
  pub off : (k : K) → In k keys → In k ks → ⊥

-- `HasNow m inputs table memo durability` is that `durability` is that of the valid memo `memo` now:
-- its own where durability confirms it, and else the least of its reads'
abbrev pub HasNow : {K P V : Type 0} → Machine K P V → Table → (K → Option (Memo K V)) → Memo K V → Durability → Type 0
HasNow m inputs table memo durability =
    ((Lasts inputs.history memo) × (durability ≡ memo.durability))
    ⊎ ((HasLapsed inputs.history memo) × IsLeastRead m inputs.files (HasIn table) (λ q. In q memo.reads) durability)

-- `IsValidAt order m inputs places n durability` is that the place `n` has a key whose memo is valid and
-- has `durability` now
pub record IsValidAt {K P V : Type 0} (order : K → K → Ordering) (m : Machine K P V) (inputs : Table)
    (places : List (K × Option (Memo K V))) (n : ℕ) (durability : Durability) : Type 0 where
  pub key : K
  pub there : key_at places n ≡ Some key
  pub memo : Memo K V
  pub has : HasIn (memo_at order places) key memo
  pub green : IsGreen m inputs.history inputs.revision (HasIn (memo_at order places)) key
  pub lasting : HasNow m inputs (memo_at order places) memo durability
