-- The places of a lane that are vacant.
use Rattle.std.specs.Prelude.{ℕ, ◌≡◌, ◌≤◌, Some, slice_get}
use Rattle.pq_core.specs.Replies.{ReplyView}
use Rattle.pq_core.specs.Lanes.{ReadyView}
use Rattle.pq_mail.specs.Mailbox.{Side}
use Rattle.pq_hall.specs.Sending.{LaneView}

-- `VacantFrom k l` is that the places of the lane `l` from `k` on are vacant, while it is open
abbrev pub VacantFrom : {K V M : Type 0} → ℕ → LaneView K V M → Type 0
VacantFrom {K} {V} {M} k l =
    (outbox : Side (ReplyView K V M)) → l.outbox ≡ Some outbox → (i : ℕ) (ready : ReadyView K V M) → slice_get l.places i ≡ Some (Some ready) → k ≤ i → ⊥
