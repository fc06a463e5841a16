use Rattle.std.proofs.Common.{◌≡◌, drop}
use Rattle.pq_links.specs.Files.{nodes_of}
use Rattle.pq_proto.specs.Definition.{definition_at}
use Rattle.pq_proto.proofs.definition.first_at.Given as goal

abbrev pub invariant-references : goal.invariant-references
invariant-references l =
    definition_at (nodes_of l.file) l.offset (drop l.reference-index l.references) ≡ definition_at (nodes_of l.fn.file) l.offset l.fn.references
