-- What contracts see of the definitions of a file.
use Rattle.std.specs.Prelude.{ℕ, List}
use Rattle.pq_schema.specs.declared.define.definitions.Definition.{Definition}

-- `Defs` is the package of a file, empty if it has none, and its definitions in text order
pub record Defs : Type 0 where
  pub package_name : List ℕ
  pub definitions : List Definition
