-- Auxiliary: why a client may not post.
use Rattle.std.specs.Prelude.{ℕ, ◌≡◌, ◌≤◌, ◌<◌, ◌+◌, ◌^◌, ◌⊎◌, length, Some, None}
use Rattle.pq_core.specs.Moves.{window}
use Rattle.pq_core.specs.Accounts.{AccountView, next_of}
use Rattle.pq_core.specs.Stores.{Held}
use Rattle.pq_core.specs.aux.Rising.{found}
use Rattle.pq_core.specs.declared.values.fault.EditFault.{EditFault}
use Rattle.pq_core.specs.declared.values.fault.EditFault.TheVariants.{NoClient as EditNoClient, Closed as EditClosed, BadRange, Input}
use Rattle.pq_core.specs.declared.values.fault.AcceptFault.{AcceptFault}
use Rattle.pq_core.specs.declared.values.fault.AcceptFault.TheVariants.{NoClient, Closed, WindowFull, Memory}

-- `IsFullAccount account` is that the window of `account` is full, or that its numbers are used up
abbrev pub IsFullAccount : {K V M : Type 0} → AccountView K V M → Type 0
IsFullAccount account = (window ≤ length account.stages) ⊎ (2 ^ 64 ≤ next_of account + 1)

-- `MayNot h c fault` is that the client `c` may not post a request, because of `fault`
abbrev pub MayNot : {K P V M : Type 0} → Held K P V M → ℕ → AcceptFault → Type 0
MayNot h c NoClient = h.clients ≤ c
MayNot h c Closed = (c < h.clients) × (found h.accounts c ≡ None)
MayNot {K} {P} {V} {M} h c WindowFull = (account : AccountView K V M) × (found h.accounts c ≡ Some account) × IsFullAccount account
MayNot h c Memory = ⊥

-- `MayPost h c` is that the client `c` may post a request
abbrev pub MayPost : {K P V M : Type 0} → Held K P V M → ℕ → Type 0
MayPost {K} {P} {V} {M} h c = (account : AccountView K V M) × (found h.accounts c ≡ Some account) × (IsFullAccount account → ⊥)

-- `MayNotEdit h c fault` is that the client `c` may not edit, because of `fault`
abbrev pub MayNotEdit : {K P V M : Type 0} → Held K P V M → ℕ → EditFault → Type 0
MayNotEdit h c EditNoClient = h.clients ≤ c
MayNotEdit h c EditClosed = (c < h.clients) × (found h.accounts c ≡ None)
MayNotEdit h c BadRange = ⊥
MayNotEdit h c (Input fault) = ⊥
