use Rattle.std.proofs.Common.{◌≡◌, ℕ, List, None, take}
use Rattle.std.specs.Io.KnownBytes.{Appends}
use Rattle.pq_session.specs.aux.ServerState.{state_of}
use Rattle.pq_session.specs.Counts.{inner_of, failed_of}
use Rattle.pq_session.specs.aux.Answered.{Answered}
use Rattle.pq_frame.specs.Bodies.{bodies_of}
use Rattle.pq_session.proofs.bodies.answer_bodies.Given as goal

-- what was written answers the bodies so far
abbrev pub invariant-loop-body : goal.invariant-loop-body
invariant-loop-body g l =
    record {
      out : List ℕ;
      answered : Answered (state_of l.fn.server) (bodies_of (take l.body-index l.bodies)) out None (state_of l.server);
      written : Appends (g.W.Write.contents (inner_of l.fn.writer)) (g.W.Write.contents (inner_of l.writer)) out;
      no_failure : failed_of l.writer ≡ failed_of l.fn.writer;
    }
