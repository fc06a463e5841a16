use Rattle.std.proofs.Common.{◌≡◌, ◌+◌, ℕ, List, None}
use Rattle.std.specs.Io.KnownBytes.{Appends, Consumes}
use Rattle.pq_frame.specs.Frames.{Frames, Reading}
use Rattle.pq_session.specs.aux.ServerState.{state_of}
use Rattle.pq_session.specs.Counts.{inner_of, failed_of, reads_of}
use Rattle.pq_session.specs.Responses.{started}
use Rattle.pq_session.specs.aux.Answered.{Answered}
use Rattle.pq_session.proofs.run.script_over.Given as goal

-- all bodies of the bytes so far were answered
abbrev pub invariant-reads : goal.invariant-reads
invariant-reads g l =
    record {
      bytes : List ℕ;
      bodies : List (List ℕ);
      rest : List ℕ;
      out : List ℕ;
      framed : Frames bytes bodies (Reading rest);
      stands : l.frames ≡ Reading rest;
      answered : Answered (started l.fn.rules.loose l.fn.inputs) bodies out None (state_of l.server);
      consumed : Consumes (g.R.Read.remaining (inner_of l.fn.reader)) (g.R.Read.remaining (inner_of l.reader)) bytes;
      written : Appends (g.W.Write.contents (inner_of l.fn.writer)) (g.W.Write.contents (inner_of l.writer)) out;
      reads : reads_of l.reader ≡ reads_of l.fn.reader + l._turn;
      read_well : failed_of l.reader ≡ failed_of l.fn.reader;
      written_well : failed_of l.writer ≡ failed_of l.fn.writer;
    }
