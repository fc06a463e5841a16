-- The world that events are played in: the ledger of a core, and what its clients have taken.
use Rattle.std.specs.Prelude.{List, [], ◌∷◌}
use Rattle.pq_inputs.specs.Sources.{Table}
use Rattle.pq_inputs.specs.Refusal.{max_files}
use Rattle.pq_core.specs.Points.{Point}
use Rattle.pq_core.specs.Replies.{ReplyView}
use Rattle.pq_core.specs.Outboxes.{Listed}
use Rattle.pq_core.specs.Ledger.{Ledger, unused}

-- `World K V` is the ledger of a core whose outboxes are lists and whose stamps are plain ones, and of
-- each client, by its number, the replies that it has taken, in order
pub record World (K V : Type 0) : Type 0 where
  pub ledger : Ledger K V Point (Listed K V Point)
  pub taken : List (List (ReplyView K V Point))

-- `no_files` is the inputs at revision 0, when no file was set
abbrev pub no_files : Table
no_files = record { files = []; revision = 0; history = [] ∷ []; limit = max_files }

-- `beginning` is the world of a fresh core: no file was set, and no client was opened
abbrev pub beginning : {K V : Type 0} → World K V
beginning = record { ledger = unused no_files; taken = [] }

-- `own_point stamp` is the revision and the sources of the plain stamp `stamp`, which contracts see as
-- just these
abbrev pub own_point : Point → Point
own_point stamp = stamp

-- `replies_of o` is the replies that were put into the outbox `o`
abbrev pub replies_of : {K V : Type 0} → Listed K V Point → List (ReplyView K V Point)
replies_of o = o.replies
