-- Outboxes: what a refused put hands back, what a take takes, and lists of limited room.
use Rattle.std.specs.Prelude.{ℕ, ◌≡◌, ◌≤◌, ◌-◌, ◌++◌, ◌∷◌, [], List, length, take, slice_get, Some}
use Rattle.pq_core.specs.Replies.{ReplyView}
use Rattle.pq_core.specs.declared.lanes.outbox.PutFault.{PutFault}
use Rattle.pq_core.specs.declared.lanes.outbox.PutFault.TheVariants.{Full, Gone}

-- `handed_back fault` is the reply that a refused put hands back
abbrev pub handed_back : {K V M : Type 0} → PutFault K V M → ReplyView K V M
handed_back (Full reply) = reply
handed_back (Gone reply) = reply

-- `IsFull fault` is that the outbox was full
abbrev pub IsFull : {K V M : Type 0} → PutFault K V M → Type 0
IsFull (Full reply) = Unit {0}
IsFull (Gone reply) = ⊥

-- `IsGone fault` is that the end that takes the replies was gone
abbrev pub IsGone : {K V M : Type 0} → PutFault K V M → Type 0
IsGone (Full reply) = ⊥
IsGone (Gone reply) = Unit {0}

-- `TakesNext puts before after` is that of the replies `puts`, of which `before` were taken, the
-- next is taken
pub record TakesNext {K V M : Type 0} (puts before after : List (ReplyView K V M)) : Type 0 where
  pub reply : ReplyView K V M
  pub next : slice_get puts (length before) ≡ Some reply
  pub after_it : after ≡ before ++ reply ∷ []

-- `Listed K V M` is a list of replies, the count of those that were taken, and the number of others
-- that it has room for
pub record Listed (K V M : Type 0) : Type 0 where
  pub replies : List (ReplyView K V M)
  pub taken : ℕ
  pub room : ℕ

-- `taken_front o` is the replies that were taken out of `o`
abbrev pub taken_front : {K V M : Type 0} → Listed K V M → List (ReplyView K V M)
taken_front o = take o.taken o.replies

-- `HasNoRoom o` is that `o` is full
abbrev pub HasNoRoom : {K V M : Type 0} → Listed K V M → Type 0
HasNoRoom o = o.room ≤ length o.replies - o.taken

-- `HasLostEnd o` is that the end that takes the replies of `o` is gone: never, since the owner of `o`
-- takes them
abbrev pub HasLostEnd : {K V M : Type 0} → Listed K V M → Type 0
HasLostEnd o = ⊥
