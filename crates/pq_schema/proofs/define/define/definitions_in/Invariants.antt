use Rattle.std.proofs.Common.{ℕ, List}
use Rattle.pq_syntax.specs.Places.{Item}
use Rattle.pq_syntax.proofs.Walk.{Walked}
use Rattle.pq_schema.specs.Definitions.{scope_of, defined_by}
use Rattle.pq_schema.proofs.define.define.definitions_in.Given as goal

abbrev pub invariant-items : goal.invariant-items
invariant-items l =
    Walked (λ (i : Item) (outer : List ℕ). scope_of i.node.statement outer) l.root (λ (scope : List ℕ) (i : Item). defined_by scope i.number i.node.statement)
    l.nodes l.stack l.item l.definitions.items
