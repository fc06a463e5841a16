-- Auxiliary (used by the model and the invariant of `FrameReader` only): from the fields of a
-- reader to its `State`.
use Rattle.std.specs.Prelude.{◌≡◌, ℕ, ◌<◌, ◌+◌, List, [], length, Option, Some, None, Ok}
use Rattle.pq_frame.specs.Header.{IsHeader, NoHeaderBelow, body_length, max_header}
use Rattle.pq_frame.specs.Frames.{State, Reading, Failed}
use Rattle.pq_frame.specs.declared.fault.FrameFault.{FrameFault}

-- `state_of fault rest` is the state of a reader that keeps the error `fault`, or else the bytes
-- `rest`.
abbrev pub state_of : Option FrameFault → List ℕ → State
state_of None rest = Reading rest
state_of (Some fault) rest = Failed fault

-- `IsKept fault needed header body` is the invariant of the fields: without an error, `header` and
-- `body` are an unfinished header part and nothing, or a whole header part and a prefix of its body
-- of `needed` bytes.
abbrev pub IsKept : Option FrameFault → Option ℕ → List ℕ → List ℕ → Type 0
IsKept (Some fault) needed header body = Unit {0}
IsKept None None header body = (body ≡ []) × (length header < max_header) × NoHeaderBelow header (length header + 1)
IsKept None (Some needed) header body = IsHeader header × (body_length header ≡ Ok needed) × (length body < needed)
