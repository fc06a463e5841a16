-- The definitions and the scope of files that have none.
use Rattle.std.specs.Prelude.{[]}
use Rattle.pq_schema.specs.Contents.{Defs}
use Rattle.pq_schema.specs.ScopeContents.{Scope}

-- `no_defs` is the definitions of a file without statements
abbrev pub no_defs : Defs
no_defs = record { package_name = []; definitions = [] }

-- `no_scope` is the scope of a file that sees and reaches no file
abbrev pub no_scope : Scope
no_scope = record { visible = []; reach = [] }
