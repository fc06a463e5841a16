use Rattle.std.proofs.Common.{refl, inl, ◌++◌}
use Rattle.pq_frame.specs.Frames.{Reading, Failed}
use Rattle.pq_frame.specs.Bodies.{bodies_of}
use Rattle.pq_frame.proofs.FrameLemmas.{frames_end, rest_cut_body}
use Rattle.pq_frame.proofs.reader.split.Goals as goal

pub returns-in-Fault : goal.returns-in-Fault
returns-in-Fault c =
    frames_end c.args.bytes.now c.frames.rest.now (bodies_of c.frames.bodies.items) (Failed c.in-Fault.fault) c.failed.result
    c.frames.invariant c.failed.ensures c.in-Fault.ensures

pub returns-in-CutHeader : goal.returns-in-CutHeader
returns-in-CutHeader c =
    frames_end c.args.bytes.now c.frames.rest.now (bodies_of c.frames.bodies.items) (Reading c.frames.rest.now) c.in_ok-reader-in-CutHeader.reader
    c.frames.invariant c.in_ok-reader-in-CutHeader.ensures (refl, inl c.in-CutHeader.ensures)

pub returns-in-CutBody : goal.returns-in-CutBody
returns-in-CutBody c =
    frames_end c.args.bytes.now c.frames.rest.now (bodies_of c.frames.bodies.items) (Reading (c.in-CutBody.header.now ++ c.in-CutBody.body.now)) c.in_ok-reader-in-CutBody.reader
    c.frames.invariant c.in_ok-reader-in-CutBody.ensures
    (rest_cut_body c.frames.rest.now c.in-CutBody.header.now c.in-CutBody.body.now c.in-CutBody.needed c.in-CutBody.ensures)
