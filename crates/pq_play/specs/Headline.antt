-- The headline: what holds of the world after each event.
use Rattle.std.specs.Prelude.{ℕ, ◌≡◌, List, length, slice_get, Some}
use Rattle.pq_rules.specs.declared.turn.Answer.{Answer}
use Rattle.pq_core.specs.Points.{Point}
use Rattle.pq_core.specs.Replies.{ReplyView}
use Rattle.pq_core.specs.Outboxes.{Listed}
use Rattle.pq_core.specs.Ledger.{Ledger, IsClosed}
use Rattle.pq_core.specs.RightReply.{IsRight}
use Rattle.pq_play.specs.World.{World}

-- `Headline means w` is that what each client has taken is a prefix of the replies to its accepted
-- requests, one each, in order: the reply that the client `c` took as number `i` names the client
-- `c`, the number `i` and the request that was accepted from it as number `i`, and it is right. It
-- is the answer of its key from scratch at the sources of the revision that it names, not older
-- than the request; or it is cancelled, where an edit was accepted after the run's start; or it says
-- that its client withdrew it, where it did; or it is starved, where `starve` was called for the
-- request
pub record Headline {K V : Type 0} (means : Point → Point → K → Answer K V → Type 0) (w : World K V) : Type 0 where
  pub each : (c i : ℕ) (taken : List (ReplyView K V Point)) (reply : ReplyView K V Point) → slice_get w.taken c ≡ Some taken → slice_get taken i ≡ Some reply → IsRight means w.ledger c i reply
  pub clients : length w.taken ≡ length w.ledger.clients

-- `LeavesClosed l m` is that each client that was closed in `l` is closed in `m`, and that its
-- outbox is the same: nothing has entered it
abbrev pub LeavesClosed : {K V : Type 0} → Ledger K V Point (Listed K V Point) → Ledger K V Point (Listed K V Point) → Type 0
LeavesClosed l m = (c : ℕ) (shut : IsClosed l c) → (after : IsClosed m c) × (after.client.outbox ≡ shut.client.outbox)
