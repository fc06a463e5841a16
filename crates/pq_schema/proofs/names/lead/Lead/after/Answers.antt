use Rattle.pq_schema.proofs.FullNames.{parts_after}
use Rattle.pq_schema.proofs.names.lead.Lead.after.Goals as goal

pub returns : goal.returns
returns c = record { text = parts_after c.args.front.now c.in_ok-parts.parts.items c.push.new.self.items c.args.text c.in_ok-parts.ensures.copy c.in_ok-push.ensures.items }
