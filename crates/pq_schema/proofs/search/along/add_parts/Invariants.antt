use Rattle.std.proofs.Common.{◌≢◌, ℕ, List, ◌<◌, ◌≤◌, get_or}
use Rattle.std.specs.List.{Contains}
use Rattle.pq_schema.specs.aux.Along.{AreKept, IsPlain, IsStart, MeetBeside, Meets}
use Rattle.pq_schema.proofs.search.along.add_parts.Given as goal

abbrev pub invariant-bytes : goal.invariant-bytes
invariant-bytes l = record {
  start : IsStart l.root l.start;
  from : l.from ≤ l.start;
  to : l.start ≤ l.to;
  up : l.start ≤ l.at;
  blank : (i : ℕ) → l.start ≤ i → i < l.at → 0 < i → get_or l.entry i 0 ≢ 46;
  kept : AreKept l.fn.parts.items l.parts.items;
  meet : MeetBeside l.fn.parts.items l.parts.items l.root l.entry;
  met : (name : List ℕ) (start : ℕ) → l.from ≤ start → start < l.start → IsPlain name → IsStart l.root start
      → Meets l.root l.entry name start → Contains l.parts.items (name, start);
}
