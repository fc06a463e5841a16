use Rattle.std.proofs.Common.{◌≡◌, drop}
use Rattle.pq_schema.specs.Definitions.{package_of}
use Rattle.pq_schema.proofs.define.outline.package_of.Given as goal

abbrev pub invariant-nodes : goal.invariant-nodes
invariant-nodes l = package_of (drop l.node-index l.nodes) ≡ package_of l.fn.nodes
