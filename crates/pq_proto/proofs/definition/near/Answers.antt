use Rattle.pq_links.specs.Files.{nodes_of}
use Rattle.pq_proto.proofs.NearReferences.{of_only}
use Rattle.pq_proto.proofs.definition.near.Goals as goal

pub returns-in-Some : goal.returns-in-Some
returns-in-Some c = record {
  same = of_only (nodes_of c.args.file.now) c.args.offset c.in-Some.item c.in-Some.ensures.only c.args.references.now c.of_item.result.now c.of_item.ensures.of;
}
