-- How a frame is written (LSP 3.17, "Base Protocol", "Header Part").
use Rattle.std.specs.Prelude.{ℕ, List, ◌++◌, length, decimal, codes}
use Rattle.pq_frame.specs.Header.{crlf}

-- `header_text len` is the header part of a body of `len` bytes: Content-Length in decimal, and the
-- empty line.
abbrev pub header_text : ℕ → List ℕ
header_text len = codes "Content-Length: " ++ decimal len ++ (crlf ++ crlf)

-- `written body` is the frame of `body`: its header part and `body`.
unfoldable pub written : List ℕ → List ℕ
written body = header_text (length body) ++ body
