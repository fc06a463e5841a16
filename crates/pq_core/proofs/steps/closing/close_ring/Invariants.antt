use Rattle.std.proofs.Common.{◌≡◌, ℕ, ◌≤◌, drop}
use Rattle.std.specs.Option.{option_map}
use Rattle.pq_memo.specs.Table.{memo_at}
use Rattle.pq_core.specs.Stores.{run_seen}
use Rattle.pq_core.specs.aux.Rising.{found, IsAbove}
use Rattle.pq_core.proofs.RingBegun.{IsPartOf, LeftOn}
use Rattle.pq_core.proofs.RingLeaving.{IsLeaving}
use Rattle.pq_core.proofs.steps.closing.close_ring.Given as goal

abbrev pub invariant-keys : goal.invariant-keys
invariant-keys g l =
    IsLeaving g.R.Key.Ord.cmp (g.R.Rules.machine l.fn.memos.rules) l.inputs (memo_at g.R.Key.Ord.cmp l.memos.places) l.claims l.runs.items (drop l.i l.ring)
    × ((r : ℕ) → option_map run_seen (found l.runs.items r) ≡ option_map run_seen (found l.fn.runs.items r)) × ((m : ℕ) → IsAbove m l.fn.runs.items → IsAbove m l.runs.items)
    × (l.fn.runs.room ≤ l.runs.room) × LeftOn l.inputs.revision l.ring l.fn.runs.items l.runs.items × IsPartOf l.fn.claims l.claims
