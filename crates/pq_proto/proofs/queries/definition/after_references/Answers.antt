use Rattle.std.proofs.Common.{List, ap, ◌∙◌}
use Rattle.pq_links.specs.Files.{nodes_of}
use Rattle.pq_schema.specs.declared.queries.resolved.ResolvedReference.{ResolvedReference}
use Rattle.pq_proto.specs.Definition.{definition_at}
use Rattle.pq_proto.specs.aux.Outputs.{target_turn}
use Rattle.pq_proto.proofs.NearReferences.{none_defined}
use Rattle.pq_proto.proofs.queries.definition.after_references.Goals as goal

-- an answer without references has none at the offset
pub returns-in-None : goal.returns-in-None
returns-in-None c = record {
  turn = ap target_turn (none_defined (nodes_of c.args.file.now) c.args.offset)
      ∙ ap (λ (rs : List ResolvedReference). target_turn (definition_at (nodes_of c.args.file.now) c.args.offset rs)) c.in-None.ensures.references;
}
