-- An account: what the store knows of an open client.
--
-- The store keeps of each request that was accepted how far it is, until the reply is acknowledged
-- as put. A reply that is made is collected once, by the thread that fills it into the lane.
use Rattle.std.specs.Prelude.{ℕ, ◌≡◌, ◌+◌, ◌-◌, ◌<◌, ◌≤◌, List, [], ◌∷◌, ◌++◌, length, drop, slice_get, slice_set, Option, Some, None}
use Rattle.pq_core.specs.Lanes.{ReadyView}
use Rattle.pq_core.specs.declared.values.request.Request.{Request}
use Rattle.pq_core.specs.declared.values.request.Want.{Want}
use Rattle.pq_core.specs.declared.values.request.Want.TheVariants.{Demand, Fixed}
use Rattle.pq_core.specs.declared.values.outcome.Outcome.TheVariants.{Plain}
use Rattle.pq_core.specs.declared.store.account.Stage.{Stage}
use Rattle.pq_core.specs.declared.store.account.Stage.TheVariants.{Waiting, Made, Collected}

-- `AccountView K V M` is an open client: the number below which all replies are acknowledged, and
-- the stages of its requests from that number on
pub record AccountView (K V M : Type 0) : Type 0 where
  pub seen : ℕ
  pub stages : List (Stage K (ReadyView K V M))

-- `no_requests` is a client before its first request
abbrev pub no_requests : {K V M : Type 0} → AccountView K V M
no_requests = record { seen = 0; stages = [] }

-- `next_of account` is the number of the next request
abbrev pub next_of : {K V M : Type 0} → AccountView K V M → ℕ
next_of account = account.seen + length account.stages

-- `IsStage account n stage` is that the request `n` of `account` is in `stage`
pub record IsStage {K V M : Type 0} (account : AccountView K V M) (n : ℕ) (stage : Stage K (ReadyView K V M)) : Type 0 where
  pub past : account.seen ≤ n
  pub here : slice_get account.stages (n - account.seen) ≡ Some stage

-- `with_stage account n stage` is `account` with its request `n` in `stage`
abbrev pub with_stage : {K V M : Type 0} → AccountView K V M → ℕ → Stage K (ReadyView K V M) → AccountView K V M
with_stage account n stage = record { seen = account.seen; stages = slice_set account.stages (n - account.seen) stage }

-- `with_request account stage` is `account` with one more request, which is in `stage`
abbrev pub with_request : {K V M : Type 0} → AccountView K V M → Stage K (ReadyView K V M) → AccountView K V M
with_request account stage = record { seen = account.seen; stages = account.stages ++ stage ∷ [] }

-- `first_stage c n request revision want` is the stage of the request `n` of the client `c` at its
-- acceptance at `revision`: a demand waits, and the reply to a fixed text is made
abbrev pub first_stage : {K V M : Type 0} → ℕ → ℕ → Request K → ℕ → Want K → Stage K (ReadyView K V M)
first_stage c n request revision (Demand key) = Waiting request revision
first_stage c n request revision (Fixed text) =
    Made (record { reply = record { client = c; number = n; request = request; revision = revision; outcome = Plain }; accepted = revision })

-- `Collects answer l m` is that one reply that is made is taken out of `l`, which is `m` afterwards;
-- or that there is none
abbrev pub Collects : {K V M : Type 0} → Option (ReadyView K V M) → AccountView K V M → AccountView K V M → Type 0
Collects (Some ready) l m = IsStage l ready.reply.number (Made ready) × (m ≡ with_stage l ready.reply.number Collected)
Collects {K} {V} {M} None l m = ((n : ℕ) (ready : ReadyView K V M) → IsStage l n (Made ready) → ⊥) × (m ≡ l)

-- `MaySee account n` is that all numbers below `n` may be acknowledged to `account`: a higher number
-- was not, and each reply below `n` that was not acknowledged is collected
pub record MaySee {K V M : Type 0} (account : AccountView K V M) (n : ℕ) : Type 0 where
  pub later : account.seen ≤ n
  pub collected : (i : ℕ) → account.seen ≤ i → i < n → IsStage account i Collected

-- `seen_below account n` is `account` after all numbers below `n` were acknowledged
abbrev pub seen_below : {K V M : Type 0} → AccountView K V M → ℕ → AccountView K V M
seen_below account n = record { seen = n; stages = drop (n - account.seen) account.stages }

-- `Sees n l m` is that all numbers below `n` are acknowledged to `l`, which is `m` afterwards, if they
-- may be; else nothing changes
pub record Sees {K V M : Type 0} (n : ℕ) (l m : AccountView K V M) : Type 0 where
  pub told : MaySee l n → m ≡ seen_below l n
  pub ignored : (MaySee l n → ⊥) → m ≡ l
