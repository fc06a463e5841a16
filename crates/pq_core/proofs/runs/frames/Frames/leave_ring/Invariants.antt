use Rattle.std.proofs.Common.{◌≡◌, ℕ, ◌+◌, ◌≤◌, length, take}
use Rattle.pq_claims.specs.Claims.{hold_of}
use Rattle.pq_core.specs.aux.Runs.{IsLowered, OthersHold, run_keys}
use Rattle.pq_core.proofs.runs.frames.Frames.leave_ring.Given as goal

abbrev pub invariant-frames : goal.invariant-frames
invariant-frames g l =
    (count : ℕ) × (count + l._step ≡ length l.fn.self.stack) × IsLowered (take count l.fn.self.stack) l.self.stack l.self.top
    × ((hold_of l.claims l.id).keys ≡ run_keys l.self.stack l.self.top) × OthersHold l.id l.fn.claims l.claims × (l.left ≤ count)
