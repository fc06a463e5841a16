-- Auxiliary: the queue of the requests that wait, of all clients.
use Rattle.std.specs.Prelude.{ℕ, ◌≡◌, List, [], ◌∷◌, Some, Bool, ◌||◌, not, eqb}
use Rattle.pq_rules.specs.Relations.{In}
use Rattle.pq_core.specs.Accounts.{AccountView, IsStage}
use Rattle.pq_core.specs.declared.values.request.Request.{Request}
use Rattle.pq_core.specs.declared.store.account.Stage.TheVariants.{Waiting}
use Rattle.pq_core.specs.declared.store.rising.Place.{Place}
use Rattle.pq_core.specs.aux.Rising.{found}

-- `is_of_other c seat` is whether `seat`, a client and a number, is of another client than `c`
abbrev pub is_of_other : ℕ → ℕ × ℕ → Bool
is_of_other c seat = not (eqb seat.0 c)

-- `is_other_seat c n seat` is whether `seat`, a client and a number, is another than the request `n` of
-- the client `c`
abbrev pub is_other_seat : ℕ → ℕ → ℕ × ℕ → Bool
is_other_seat c n seat = not (eqb seat.0 c) || not (eqb seat.1 n)

-- `WaitsIn accounts c n request` is that `request`, the request `n` of the client `c`, waits
pub record WaitsIn {K V M : Type 0} (accounts : List (Place (AccountView K V M))) (c n : ℕ) (request : Request K) : Type 0 where
  pub account : AccountView K V M
  pub here : found accounts c ≡ Some account
  pub accepted : ℕ
  pub waits : IsStage account n (Waiting request accepted)

-- `IsOnce xs` is that no element of `xs` is in it twice
unfoldable pub IsOnce : {A : Type 0} → List A → Type 0
IsOnce [] = Unit {0}
IsOnce (x ∷ xs) = (In x xs → ⊥) × IsOnce xs

-- `IsQueue accounts queue` is that `queue` is of the requests that wait in `accounts`, each by its
-- client and number, and each once
pub record IsQueue {K V M : Type 0} (accounts : List (Place (AccountView K V M))) (queue : List (ℕ × ℕ)) : Type 0 where
  pub waits : (c n : ℕ) → In (c, n) queue → (request : Request K) × WaitsIn accounts c n request
  pub queued : (c n : ℕ) (request : Request K) → WaitsIn accounts c n request → In (c, n) queue
  pub once : IsOnce queue
