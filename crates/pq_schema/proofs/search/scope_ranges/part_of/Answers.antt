use Rattle.std.proofs.Common.{ap, ◌∙◌, drop}
use Rattle.pq_schema.proofs.search.scope_ranges.part_of.Goals as goal

pub returns : goal.returns
returns c = record { part = c.in_ok-part.ensures.back ∙ ap (drop c.args.start) c.in_ok-before.ensures.front }
