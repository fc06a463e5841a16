use Rattle.std.proofs.Common.{◌≡◌, ◌++◌, drop}
use Rattle.std.specs.Prelude.{map}
use Rattle.pq_editor.specs.Imports.{strings_in}
use Rattle.pq_editor.proofs.imports.names_in.Given as goal

-- the names of what is left complete those so far
abbrev pub invariant-nodes : goal.invariant-nodes
invariant-nodes l = l.names.items ++ map (λ s. s.value) (strings_in (drop l.node-index l.nodes)) ≡ map (λ s. s.value) (strings_in l.nodes)
