-- Auxiliary: `==` of what a file defines, as a function. The law `equal_defs` ties it to equality.
use Rattle.std.specs.Prelude.{Bool}
use Rattle.pq_schema.specs.Contents.{Defs}
use Rattle.pq_schema.specs.contracts.define.definitions.DefsPartialEq.TheImpl as of_defs

-- `same_defs a b` is `a == b` of the definitions of two files
abbrev pub same_defs : Defs → Defs → Bool
same_defs = of_defs.ghosts.eq
