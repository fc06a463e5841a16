-- The bodies and answers of `FrameReader::feed` as lists of bytes, without their addresses in
-- memory.
use Rattle.std.specs.Prelude.{ℕ, List, map, Result, Ok, Err}
use Rattle.std.specs.declared.alloc.Global.{Global}
use Rattle.std.specs.declared.vec.Vec.{Vec}
use Rattle.pq_frame.specs.declared.fault.FrameFault.{FrameFault}

-- `bodies_of vecs` is the bytes of each of `vecs`.
abbrev pub bodies_of : List (Vec ℕ Global) → List (List ℕ)
bodies_of = map (λ body. body.items)

-- `answer_of result` is the bodies that `result` holds, or its error.
abbrev pub answer_of : Result (Vec (Vec ℕ Global) Global) FrameFault → Result (List (List ℕ)) FrameFault
answer_of (Ok bodies) = Ok (bodies_of bodies.items)
answer_of (Err fault) = Err fault
