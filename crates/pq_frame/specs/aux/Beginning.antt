-- Auxiliary (used by private clauses only): how a stream begins. Between `Frames` and the code.
use Rattle.std.specs.Prelude.{◌≡◌, ℕ, ◌<◌, ◌+◌, ◌++◌, List, length, Ok}
use Rattle.pq_frame.specs.Header.{IsHeader, NoHeaderBelow, body_length, max_header}
use Rattle.pq_frame.specs.Frames.{IsFrame, HasFault}
use Rattle.pq_frame.specs.declared.beginning.Beginning.{Beginning}
use Rattle.pq_frame.specs.declared.beginning.Beginning.TheVariants.{Frame, CutBody, CutHeader, Fault}

-- `IsBeginning bytes b` is that the stream `bytes` begins as `b` says.
abbrev pub IsBeginning : List ℕ → Beginning → Type 0
IsBeginning bytes (Frame body others) = (frame : List ℕ) × IsFrame frame body.now × (bytes ≡ frame ++ others.now) × (length others.now < length bytes)
IsBeginning bytes (CutBody header body needed) = IsHeader header.now × (body_length header.now ≡ Ok needed) × (length body.now < needed) × (bytes ≡ header.now ++ body.now)
IsBeginning bytes CutHeader = (length bytes < max_header) × NoHeaderBelow bytes (length bytes + 1)
IsBeginning bytes (Fault fault) = HasFault bytes fault
