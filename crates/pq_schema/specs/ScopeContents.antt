-- What contracts see of the scope of a file.
use Rattle.std.specs.Prelude.{List}
use Rattle.pq_schema.specs.declared.scope.scope.FileDefs.{FileDefs}

-- `Scope` is the files whose definitions a file sees, and the files that it reaches by imports,
-- each list in order
pub record Scope : Type 0 where
  pub visible : List FileDefs
  pub reach : List FileDefs
