use Rattle.pq_schema.proofs.NumberedNames.{within_scope}
use Rattle.pq_schema.proofs.define.copies.Numbering.add_within.Goals as goal

pub returns : goal.returns
returns c = record {
  added = within_scope c.args.self.now c.add.new.self c.args.scope c.args.name.now _ c.in_ok-add.ensures.added;
}
