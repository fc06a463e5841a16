use Rattle.std.proofs.Common.{◌≡◌, take, length}
use Rattle.pq_schema.specs.aux.Spots.{AreMarked, MarksStay}
use Rattle.pq_schema.proofs.search.spots.mark_each.Given as goal

-- the scopes of the definitions so far are marked
abbrev pub invariant-definitions : goal.invariant-definitions
invariant-definitions l = record {
  count : length l.marks ≡ length l.fn.marks;
  stay : MarksStay l.fn.marks l.marks;
  marked : AreMarked l.marks l.root (take l.i l.definitions);
}
