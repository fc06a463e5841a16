-- Points of the history: a revision and the sources then. A stamp names one.
use Rattle.std.specs.Prelude.{ℕ}
use Rattle.pq_inputs.specs.Sources.{Sources, Table}

-- `Point` is a revision and the sources at it
pub record Point : Type 0 where
  pub revision : ℕ
  pub files : Sources

-- `point_now inputs` is the last revision of `inputs`, and the sources now
abbrev pub point_now : Table → Point
point_now inputs = record { revision = inputs.revision; files = inputs.files }
