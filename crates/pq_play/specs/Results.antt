-- What playing a list of events gives.
use Rattle.std.specs.Prelude.{ℕ, List, map}
use Rattle.pq_core.specs.Points.{Point}
use Rattle.pq_core.specs.Replies.{ReplyView}
use Rattle.pq_core.specs.Ledger.{Entry, Client}
use Rattle.pq_core.specs.declared.values.request.Request.{Request}
use Rattle.pq_core.specs.Outboxes.{Listed}
use Rattle.pq_play.specs.World.{World}

-- `PlayedView K V` is, of each client, by its number, the requests that were accepted and the
-- replies that it has taken, in order, and the last revision
pub record PlayedView (K V : Type 0) : Type 0 where
  pub accepted : List (List (Request K))
  pub taken : List (List (ReplyView K V Point))
  pub revision : ℕ

-- `request_of entry` is the request of `entry`
abbrev pub request_of : {K V : Type 0} → Entry K V Point → Request K
request_of entry = entry.request

-- `accepted_of client` is the requests that were accepted from `client`, in order
abbrev pub accepted_of : {K V : Type 0} → Client K V Point (Listed K V Point) → List (Request K)
accepted_of client = map request_of client.entries

-- `played_of w` is what is played in the world `w`
abbrev pub played_of : {K V : Type 0} → World K V → PlayedView K V
played_of w = record { accepted = map accepted_of w.ledger.clients; taken = w.taken; revision = w.ledger.inputs.revision }
