use Rattle.std.proofs.Common.{◌≡◌, ◌++◌, drop}
use Rattle.std.specs.Prelude.{map}
use Rattle.pq_editor.specs.Imports.{placed, strings_in}
use Rattle.pq_editor.proofs.imports.imports_in.Given as goal

-- the imports of what is left complete those so far
abbrev pub invariant-nodes : goal.invariant-nodes
invariant-nodes l =
    l.imports.items ++ map (placed l.fn.lines) (strings_in (drop l.node-index l.nodes)) ≡ map (placed l.fn.lines) (strings_in l.nodes)
