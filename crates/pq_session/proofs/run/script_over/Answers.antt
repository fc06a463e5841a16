use Rattle.std.proofs.Common.{◌+◌, ◌≡◌, ◌++◌, [], None, take, sym, refl, ◌∙◌, ap, inl, arith, subst}
use Rattle.std.specs.Io.KnownBytes.{IsAtEnd}
use Rattle.std.proofs.lemmas.List.{append-nil}
use Rattle.std.proofs.lemmas.Result.{err_from_is_err_and}
use Rattle.pq_frame.specs.Frames.{Reading}
use Rattle.pq_frame.proofs.RunLemmas.{at_first}
use Rattle.pq_session.specs.Counts.{one_more, inner_of, reads_of}
use Rattle.pq_session.specs.Responses.{ScriptState, started}
use Rattle.pq_session.specs.Script.{max_reads}
use Rattle.pq_session.specs.aux.Answered.{Answered}
use Rattle.pq_session.specs.aux.ServerState.{state_of}
use Rattle.pq_session.proofs.Known.{appends_none, appends_more, consumes_none, consumes_more, consumes_kept, one_failed}
use Rattle.pq_session.proofs.OutputLemmas.{answered_none, answered_append, no_more}
use Rattle.pq_session.proofs.ScriptLemmas.{frames_grow, take_reads, shown_by, script_fault, script_ended, script_at_end, end_reads, end_writes, piece_fits}
use Rattle.pq_session.proofs.MemoryLemmas.{take_memory, end_memory}
use Rattle.pq_session.proofs.run.script_over.Goals as goal

pub reads-init : goal.reads-init
reads-init g c =
    record {
      bytes = [];
      bodies = [];
      rest = [];
      out = [];
      framed = at_first;
      stands = c.new-frames.ensures;
      answered = subst (λ (n : ScriptState). Answered (started c.args.rules.loose c.args.inputs) [] [] None n) (sym c.new-server.ensures) (answered_none (started c.args.rules.loose c.args.inputs));
      consumed = consumes_none _;
      written = appends_none _;
      reads = omega arith;
      read_well = refl;
      written_well = refl;
    }

pub returns-in-Err-clause-writes : goal.returns-in-Err-clause-writes
returns-in-Err-clause-writes g c =
    let so_far = c.reads.invariant in
    (so_far.bytes, so_far.out, (so_far.rest, (so_far.bodies, so_far.framed, no_more (started c.args.rules.loose c.args.inputs) (state_of c.reads.server) so_far.bodies so_far.out so_far.answered)), consumes_kept _ _ _ so_far.bytes so_far.consumed c.in-Err.ensures.bytes, so_far.written)

pub returns-in-Err-clause-read_failed : goal.returns-in-Err-clause-read_failed
returns-in-Err-clause-read_failed g c =
    c.in-Err.ensures.failed ∙ ap one_more c.reads.invariant.read_well ∙ one_failed _ c.requires.reader_left

pub returns-then-count-eq0-clause-writes : goal.returns-then-count-eq0-clause-writes
returns-then-count-eq0-clause-writes g c =
    let so_far = c.reads.invariant in
    let none : take c.in-Ok.count c.read.new.buf ≡ [] = rw c.if-count-eq0.true refl in (
      so_far.bytes ++ take c.in-Ok.count c.read.new.buf,
      so_far.out,
      rw (none, append-nil so_far.bytes) (script_at_end (started c.args.rules.loose c.args.inputs) (IsAtEnd (g.R.Read.remaining (inner_of c.read.new.self))) (reads_of c.read.new.self ≡ reads_of c.args.reader.now + max_reads) so_far.bytes so_far.bodies so_far.rest so_far.out (state_of c.reads.server) c.at_end.result so_far.framed so_far.answered (c.at_end.ensures so_far.rest so_far.stands) (c.in-Ok.ensures.bytes.1 c.if-count-eq0.true (omega arith))),
      consumes_more _ _ _ so_far.bytes (take c.in-Ok.count c.read.new.buf) so_far.consumed c.in-Ok.ensures.bytes.0,
      so_far.written,
    )

pub returns-then-count-eq0-clause-read_failed : goal.returns-then-count-eq0-clause-read_failed
returns-then-count-eq0-clause-read_failed g c =
    let so_far = c.reads.invariant in
    end_reads c.at_end.result so_far.rest _ _ (c.at_end.ensures so_far.rest so_far.stands) (c.in-Ok.ensures.failed ∙ so_far.read_well)

pub returns-then-count-eq0-clause-write_failed : goal.returns-then-count-eq0-clause-write_failed
returns-then-count-eq0-clause-write_failed g c =
    let so_far = c.reads.invariant in
    end_writes c.at_end.result so_far.rest _ _ (c.at_end.ensures so_far.rest so_far.stands) so_far.written_well

pub returns-then-count-eq0-clause-memory_alone : goal.returns-then-count-eq0-clause-memory_alone
returns-then-count-eq0-clause-memory_alone g c = end_memory c.at_end.result c.reads.invariant.rest (c.at_end.ensures c.reads.invariant.rest c.reads.invariant.stands)

pub returns-in_err-ending-clause-writes : goal.returns-in_err-ending-clause-writes
returns-in_err-ending-clause-writes g c =
    let p = err_from_is_err_and c.from_residual.result c.from_residual.ensures.1 in
    let so_far = c.reads.invariant in
    let piece = take c.in-Ok.count c.read.new.buf in
    let one = c.in_err-ending.ensures.takes so_far.rest so_far.stands in
    rw (p.1, p.2) (
      so_far.bytes ++ piece,
      so_far.out ++ one.0,
      script_fault (started c.args.rules.loose c.args.inputs) (IsAtEnd (g.R.Read.remaining (inner_of c.read.new.self))) (reads_of c.read.new.self ≡ reads_of c.args.reader.now + max_reads) so_far.bytes so_far.bodies so_far.rest piece so_far.out one.0 (state_of c.reads.server) (state_of c.take_piece.new.server) c.take_piece.new.frames c.in_err-ending.field-0.0 (piece_fits c.in-Ok.count c.read.new.buf (omega arith)) so_far.framed so_far.answered one.1,
      consumes_more _ _ _ so_far.bytes piece so_far.consumed c.in-Ok.ensures.bytes.0,
      appends_more _ _ _ so_far.out one.0 so_far.written one.2,
    )

pub returns-in_err-ending-clause-read_failed : goal.returns-in_err-ending-clause-read_failed
returns-in_err-ending-clause-read_failed g c =
    let p = err_from_is_err_and c.from_residual.result c.from_residual.ensures.1 in
    let so_far = c.reads.invariant in
    let one = c.in_err-ending.ensures.takes so_far.rest so_far.stands in
    rw (p.1, p.2) (take_reads _ _ _ _ _ c.in_err-ending.field-0.0 _ _ one.1 (c.in-Ok.ensures.failed ∙ so_far.read_well))

pub returns-in_err-ending-clause-write_failed : goal.returns-in_err-ending-clause-write_failed
returns-in_err-ending-clause-write_failed g c =
    let p = err_from_is_err_and c.from_residual.result c.from_residual.ensures.1 in
    rw (p.1, p.2) (shown_by c.in_err-ending.field-0.0 _ _ _ c.reads.invariant.written_well c.in_err-ending.ensures.counts)

pub returns-in_err-ending-clause-memory_alone : goal.returns-in_err-ending-clause-memory_alone
returns-in_err-ending-clause-memory_alone g c =
    let p = err_from_is_err_and c.from_residual.result c.from_residual.ensures.1 in
    rw (p.1, p.2) (take_memory _ _ _ _ _ c.in_err-ending.field-0.0 (c.in_err-ending.ensures.takes c.reads.invariant.rest c.reads.invariant.stands).1)

pub returns-in-Some-clause-writes : goal.returns-in-Some-clause-writes
returns-in-Some-clause-writes g c =
    let so_far = c.reads.invariant in
    let piece = take c.in-Ok.count c.read.new.buf in
    let one = rw c.in-Some.is at (c.in_ok-ending.ensures.takes so_far.rest so_far.stands) in (
      so_far.bytes ++ piece,
      so_far.out ++ one.0,
      inl (script_ended (started c.args.rules.loose c.args.inputs) so_far.bytes so_far.bodies so_far.rest piece so_far.out one.0 (state_of c.reads.server) (state_of c.take_piece.new.server) c.take_piece.new.frames c.in-Some.status (piece_fits c.in-Ok.count c.read.new.buf (omega arith)) so_far.framed so_far.answered one.1),
      consumes_more _ _ _ so_far.bytes piece so_far.consumed c.in-Ok.ensures.bytes.0,
      appends_more _ _ _ so_far.out one.0 so_far.written one.2,
    )

pub returns-in-Some-clause-write_failed : goal.returns-in-Some-clause-write_failed
returns-in-Some-clause-write_failed g c = c.in_ok-ending.ensures.counts ∙ c.reads.invariant.written_well

pub reads-preserved : goal.reads-preserved
reads-preserved g c =
    let so_far = c.reads.invariant in
    let piece = take c.in-Ok.count c.read.new.buf in
    let one = rw c.in_default.is at (c.in_ok-ending.ensures.takes so_far.rest so_far.stands) in
    let taken = one.1 in
    record {
      bytes = so_far.bytes ++ piece;
      bodies = so_far.bodies ++ taken.0;
      rest = taken.1;
      out = so_far.out ++ one.0;
      framed = frames_grow so_far.bytes so_far.bodies so_far.rest piece taken.0 (Reading taken.1) so_far.framed taken.2;
      stands = taken.3;
      answered = answered_append (started c.args.rules.loose c.args.inputs) (state_of c.reads.server) (state_of c.take_piece.new.server) so_far.bodies taken.0 so_far.out one.0 None so_far.answered taken.4;
      consumed = consumes_more _ _ _ so_far.bytes piece so_far.consumed c.in-Ok.ensures.bytes.0;
      written = appends_more _ _ _ so_far.out one.0 so_far.written one.2;
      reads = omega (arith, c.in-Ok.ensures.reads, so_far.reads, c.requires.reads_left, c.reads-test.true);
      read_well = c.in-Ok.ensures.failed ∙ so_far.read_well;
      written_well = c.in_ok-ending.ensures.counts ∙ so_far.written_well;
    }

pub returns-clause-writes : goal.returns-clause-writes
returns-clause-writes g c =
    let so_far = c.reads.invariant in
    (so_far.bytes, so_far.out, (so_far.rest, omega (arith, so_far.reads, c.reads-test.false), (so_far.bodies, so_far.framed, no_more (started c.args.rules.loose c.args.inputs) (state_of c.reads.server) so_far.bodies so_far.out so_far.answered)), so_far.consumed, so_far.written)
