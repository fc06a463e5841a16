use Rattle.std.proofs.Common.{◌≡◌, length}
use Rattle.std.specs.Vec.Iter.{into_iter_items, into_iter_len}
use Rattle.serde_json.specs.View.{items_view}
use Rattle.pq_session.specs.Session.{change_members}
use Rattle.pq_session.proofs.ChangeLemmas.{taken_and}
use Rattle.pq_session.proofs.protocol.changes.take_each.Given as goal

-- the changes so far are read
abbrev pub invariant-changes : goal.invariant-changes
invariant-changes l =
    record {
      left : into_iter_len l.change-iterator ≡ length (into_iter_items l.change-iterator);
      read : taken_and l.taken.items (change_members (items_view (into_iter_items l.change-iterator))) ≡ change_members (items_view l.fn.changes.items);
    }
