-- Auxiliary: the index of the replies of an account that are made; and the client of the ledger that
-- an account represents.
use Rattle.std.specs.Prelude.{ℕ, ◌≡◌, ◌+◌, ◌<◌, ◌≤◌, ◌^◌, List, [], ◌∷◌, ◌++◌, length, slice_get, Option, Some, true}
use Rattle.pq_core.specs.Replies.{ReplyView}
use Rattle.pq_core.specs.Ledger.{Out, Ready, Entry, Client}
use Rattle.pq_core.specs.Ledger.{Waiting as PlaceWaiting, Running as PlaceRunning}
use Rattle.pq_core.specs.Lanes.{ReadyView}
use Rattle.pq_core.specs.Accounts.{AccountView, next_of, IsStage}
use Rattle.pq_core.specs.declared.store.account.Stage.{Stage}
use Rattle.pq_core.specs.declared.store.account.Stage.TheVariants.{Waiting, Running, Made, Collected}

-- `noted made n stage` is `made` with `n` if the reply in `stage` is made and not collected
abbrev pub noted : {K T : Type 0} → List ℕ → ℕ → Stage K T → List ℕ
noted made n (Waiting request accepted) = made
noted made n (Running begun) = made
noted made n (Made ready) = made ++ n ∷ []
noted made n Collected = made

-- `made_one stage` is 1 if the reply is made and not collected, else 0
abbrev pub made_one : {K T : Type 0} → Stage K T → ℕ
made_one (Waiting request accepted) = 0
made_one (Running begun) = 0
made_one (Made ready) = 1
made_one Collected = 0

-- `made_count stages` is the number of the replies that are made and not collected
abbrev pub made_count : {K T : Type 0} → List (Stage K T) → ℕ
made_count [] = 0
made_count (stage ∷ stages) = made_one stage + made_count stages

-- `HasMade account` is that a reply of `account` is made and not collected
abbrev pub HasMade : {K V M : Type 0} → AccountView K V M → Type 0
HasMade {K} {V} {M} account = (n : ℕ) × (ready : ReadyView K V M) × IsStage account n (Made ready)

-- `AccountKept account made room` is what each account keeps: `made` has each number whose reply is
-- made and not collected, once, and `room` is enough for all its requests
pub record AccountKept {K V M : Type 0} (account : AccountView K V M) (made : List ℕ) (room : ℕ) : Type 0 where
  pub bounded : next_of account < 2 ^ 64
  pub room_for : length account.stages ≤ room
  pub counted : length made ≡ made_count account.stages
  pub each : (i n : ℕ) → slice_get made i ≡ Some n → (ready : ReadyView K V M) × IsStage account n (Made ready)
  pub all : (n : ℕ) (ready : ReadyView K V M) → IsStage account n (Made ready) → (i : ℕ) × (slice_get made i ≡ Some n)
  pub once : (i j n : ℕ) → slice_get made i ≡ Some n → slice_get made j ≡ Some n → i ≡ j
  pub numbered : (n : ℕ) (ready : ReadyView K V M) → IsStage account n (Made ready) → ready.reply.number ≡ n

-- ---- the client of the ledger

-- `StageStands stage entry` is that `stage` represents `entry`: a request that runs is in the run of
-- its stage, and a reply that was collected is ready until it is acknowledged as put
abbrev pub StageStands : {K V M : Type 0} → Stage K (ReadyView K V M) → Entry K V M → Type 0
StageStands (Waiting request accepted) entry = (entry.place ≡ PlaceWaiting) × (entry.request ≡ request) × (entry.accepted ≡ accepted)
StageStands {K} {V} {M} (Running begun) entry = (started : ℕ) × (out : Option (Out K)) × (entry.place ≡ PlaceRunning begun.run started out) × (entry.accepted ≡ begun.accepted)
StageStands (Made ready) entry = (entry.place ≡ Ready ready.reply) × (entry.accepted ≡ ready.accepted)
StageStands {K} {V} {M} Collected entry = (reply : ReplyView K V M) × (entry.place ≡ Ready reply)

-- `StageAt client n stage` is that `stage` represents the request `n` of `client`
pub record StageAt {K V M O : Type 0} (client : Client K V M O) (n : ℕ) (stage : Stage K (ReadyView K V M)) : Type 0 where
  pub entry : Entry K V M
  pub here : slice_get client.entries n ≡ Some entry
  pub stands : StageStands stage entry

-- `AccountStands puts account client` is that `account` represents the open `client`
pub record AccountStands {K V M O : Type 0} (puts : O → List (ReplyView K V M)) (account : AccountView K V M) (client : Client K V M O) : Type 0 where
  pub open_yet : client.is_open ≡ true
  pub seen : account.seen ≡ length (puts client.outbox)
  pub counted : length client.entries ≡ account.seen + length account.stages
  pub each : (i : ℕ) (stage : Stage K (ReadyView K V M)) → slice_get account.stages i ≡ Some stage → StageAt client (account.seen + i) stage
