-- What contracts see of a mark of a revision.
use Rattle.std.specs.Prelude.{ℕ}
use Rattle.pq_core.specs.Points.{Point}

-- `MarkView` is a mark: the index of its entry in the vector, and the revision and the sources that the
-- entry names
pub record MarkView : Type 0 where
  pub index : ℕ
  pub point : Point
