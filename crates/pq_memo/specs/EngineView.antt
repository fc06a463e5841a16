-- What contracts see of an engine: the rule set, the places of its table, and the inputs.
use Rattle.std.specs.Prelude.{List, Option}
use Rattle.pq_inputs.specs.Sources.{Table}
use Rattle.pq_memo.specs.Sound.{Memo}

-- `EngineView R K V` is a rule set, the places of a table and the inputs
pub record EngineView (R K V : Type 0) : Type 0 where
  pub rules : R
  pub places : List (K × Option (Memo K V))
  pub inputs : Table
