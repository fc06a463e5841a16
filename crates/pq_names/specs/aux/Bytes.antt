-- Auxiliary: what a `Text` keeps, read as its bytes. The contracts of `new`, `from_string` and
-- `as_str` tie it to the text.
use Rattle.std.specs.Prelude.{List, ℕ}
use Rattle.std.specs.Arc.{arc_str_bytes}
use Rattle.pq_names.specs.declared.text.Bytes.{Bytes}
use Rattle.pq_names.specs.declared.text.Bytes.TheVariants.{Inline, Shared}

-- `bytes_of b` is the list of the bytes of the text that `b` keeps
abbrev pub bytes_of : Bytes → List ℕ
bytes_of (Inline text) = text
bytes_of (Shared text) = arc_str_bytes text
