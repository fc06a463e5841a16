-- Auxiliary: how the stages of requests go on in a call.
use Rattle.std.specs.Prelude.{ℕ, ◌≡◌, ◌⊎◌, List, Some, None}
use Rattle.pq_core.specs.Lanes.{ReadyView}
use Rattle.pq_core.specs.Accounts.{AccountView, IsStage}
use Rattle.pq_core.specs.declared.store.account.Stage.{Stage}
use Rattle.pq_core.specs.declared.store.account.Stage.TheVariants.{Waiting, Running, Made, Collected}
use Rattle.pq_core.specs.declared.store.rising.Place.{Place}
use Rattle.pq_core.specs.aux.Rising.{found}

-- `NotReady stage` is that the reply is not made
abbrev pub NotReady : {K T : Type 0} → Stage K T → Type 0
NotReady (Waiting request accepted) = Unit {0}
NotReady (Running begun) = Unit {0}
NotReady (Made ready) = ⊥
NotReady Collected = ⊥

-- `NotCollected stage` is that the reply was not collected
abbrev pub NotCollected : {K T : Type 0} → Stage K T → Type 0
NotCollected (Waiting request accepted) = Unit {0}
NotCollected (Running begun) = Unit {0}
NotCollected (Made ready) = Unit {0}
NotCollected Collected = ⊥

-- `Advances a b` is that of the account `a`, which is `b` afterwards, the replies that were made are so
-- still, that none was collected, that those collected stay so, and that a reply was made at most to a
-- request whose reply was not
pub record Advances {K V M : Type 0} (a b : AccountView K V M) : Type 0 where
  pub made : (n : ℕ) (ready : ReadyView K V M) → IsStage a n (Made ready) → IsStage b n (Made ready)
  pub collected : (n : ℕ) → IsStage b n Collected → IsStage a n Collected
  pub stays : (n : ℕ) → IsStage a n Collected → IsStage b n Collected
  pub fresh : (n : ℕ) (ready : ReadyView K V M) → IsStage b n (Made ready) → IsStage a n (Made ready) ⊎ ((stage : Stage K (ReadyView K V M)) → IsStage a n stage → NotReady stage)

-- `AllAdvance before after` is this of each account; an account that is new has no requests
pub record AllAdvance {K V M : Type 0} (before after : List (Place (AccountView K V M))) : Type 0 where
  pub each : (c : ℕ) (a b : AccountView K V M) → found before c ≡ Some a → found after c ≡ Some b → Advances a b
  pub opened : (c : ℕ) (b : AccountView K V M) → found before c ≡ None → found after c ≡ Some b → (n : ℕ) (stage : Stage K (ReadyView K V M)) → IsStage b n stage → ⊥

-- `AllGoOn before after` is that the same clients have accounts, and that each goes on
pub record AllGoOn {K V M : Type 0} (before after : List (Place (AccountView K V M))) : Type 0 where
  pub each : (c : ℕ) (a : AccountView K V M) → found before c ≡ Some a → (b : AccountView K V M) × (found after c ≡ Some b) × Advances a b
  pub none : (c : ℕ) → found before c ≡ None → found after c ≡ None
