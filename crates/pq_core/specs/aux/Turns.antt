-- Auxiliary: the queue of the requests that wait, as turns of clients.
use Rattle.std.specs.Prelude.{ℕ, ◌≡◌, ◌+◌, ◌<◌, ◌^◌, ◌⊎◌, List, [], ◌∷◌, ◌++◌, map, length, slice_get, Option, Some, IfSome}
use Rattle.std.specs.List.{flat_map}
use Rattle.std.specs.VecDeque.{deque_capacity}
use Rattle.pq_rules.specs.Relations.{In}
use Rattle.pq_core.specs.declared.store.queue.ClientTurn.{ClientTurn}
use Rattle.pq_core.specs.aux.Queue.{IsOnce}

-- `QueueView` is what contracts see of a queue: the requests that wait, each by its client and number,
-- and the client for which there is room for one more
pub record QueueView : Type 0 where
  pub seats : List (ℕ × ℕ)
  pub ready : Option ℕ

-- ---- what the calls do

-- `AreOf c seats` is that each of `seats`, requests that wait, is of the client `c`
abbrev pub AreOf : ℕ → List (ℕ × ℕ) → Type 0
AreOf c seats = (k n : ℕ) → In (k, n) seats → k ≡ c

-- `NoneOf c seats` is that none of `seats` is of the client `c`
abbrev pub NoneOf : ℕ → List (ℕ × ℕ) → Type 0
NoneOf c seats = (n : ℕ) → In (c, n) seats → ⊥

-- `Pops seat before after` is that `seat` is taken out, the first of `before`, and that the others of its
-- client, which follow it, go behind those of all other clients
pub record Pops (seat : ℕ × ℕ) (before after : List (ℕ × ℕ)) : Type 0 where
  pub own : List (ℕ × ℕ)
  pub others : List (ℕ × ℕ)
  pub was : before ≡ seat ∷ (own ++ others)
  pub is : after ≡ others ++ own
  pub are_own : AreOf seat.0 own
  pub none_own : NoneOf seat.0 others

-- `Pushes c n before after` is that the request `n` of the client `c` is added: behind the last of that
-- client, or behind all if `c` has none
pub record Pushes (c n : ℕ) (before after : List (ℕ × ℕ)) : Type 0 where
  pub front : List (ℕ × ℕ)
  pub back : List (ℕ × ℕ)
  pub was : before ≡ front ++ back
  pub is : after ≡ front ++ (c, n) ∷ back
  pub none_behind : NoneOf c back
  pub last : (m : ℕ) → In (c, m) before → (rest : List (ℕ × ℕ)) × (k : ℕ) × (front ≡ rest ++ (c, k) ∷ [])
  pub first : NoneOf c before → back ≡ []

-- ---- turns

-- `seats_in turn` is the requests of `turn`, in their order
abbrev pub seats_in : ClientTurn → List (ℕ × ℕ)
seats_in turn = map (λ (n : ℕ). (turn.client, n)) turn.numbers.items

-- `seats_of turns` is the requests of all `turns`, the turns one after the other
abbrev pub seats_of : List ClientTurn → List (ℕ × ℕ)
seats_of turns = flat_map seats_in turns

-- `clients turns` is the clients of `turns`
abbrev pub clients : List ClientTurn → List ℕ
clients turns = map (λ (turn : ClientTurn). turn.client) turns

-- `AreApart turns` is that no client has two of `turns`
abbrev pub AreApart : List ClientTurn → Type 0
AreApart turns = IsOnce (clients turns)

-- `IsTurnOf turns place client` is that a turn of `client` is at `place`
pub record IsTurnOf (turns : List ClientTurn) (place client : ℕ) : Type 0 where
  pub turn : ClientTurn
  pub here : slice_get turns place ≡ Some turn
  pub is_of : turn.client ≡ client

-- `IsSettledAt turns place client` is that a turn of `client` is at `place`, and that it has a request or
-- is the last of `turns`
pub record IsSettledAt (turns : List ClientTurn) (place client : ℕ) : Type 0 where
  pub turn : ClientTurn
  pub here : slice_get turns place ≡ Some turn
  pub is_of : turn.client ≡ client
  pub settled : (0 < length turn.numbers.items) ⊎ (length turns ≡ place + 1)

-- `HasRoomAt turns place client` is that such a turn has room for one more number
pub record HasRoomAt (turns : List ClientTurn) (place client : ℕ) : Type 0 where
  pub turn : ClientTurn
  pub here : slice_get turns place ≡ Some turn
  pub is_of : turn.client ≡ client
  pub settled : (0 < length turn.numbers.items) ⊎ (length turns ≡ place + 1)
  pub room : length turn.numbers.items < deque_capacity turn.numbers

-- `FirstWaits turns` is that the first of `turns`, if there is one, has a request
unfoldable pub FirstWaits : List ClientTurn → Type 0
FirstWaits [] = Unit {0}
FirstWaits (turn ∷ turns) = 0 < length turn.numbers.items

-- `IsKept turns count ready place` is the invariant of a queue of `count` requests. If it is ready for
-- a client, the turn at `place` is of that client and has room.
pub record IsKept (turns : List ClientTurn) (count : ℕ) (ready : Option ℕ) (place : ℕ) : Type 0 where
  pub counted : count ≡ length (seats_of turns)
  pub apart : AreApart turns
  pub room : IfSome ready (λ client. (count + 1 < 2 ^ 64) × HasRoomAt turns place client)
