use Rattle.std.proofs.Common.{◌≡◌, ℕ, List, ◌++◌, length}
use Rattle.std.specs.Io.KnownBytes.{Appends}
use Rattle.pq_session.specs.Counts.{inner_of, failed_of}
use Rattle.pq_session.proofs.send.write_all.Given as goal

-- some bytes were taken, and the rest is left
abbrev pub invariant-bytes : goal.invariant-bytes
invariant-bytes g l =
    record {
      done : (out : List ℕ) × (l.bytes ≡ out ++ l.rest) × Appends (g.W.Write.contents (inner_of l.fn.writer)) (g.W.Write.contents (inner_of l.writer)) out;
      no_failure : failed_of l.writer ≡ failed_of l.fn.writer;
    }

abbrev pub decreases-bytes : goal.decreases-bytes
decreases-bytes g l = length l.rest
