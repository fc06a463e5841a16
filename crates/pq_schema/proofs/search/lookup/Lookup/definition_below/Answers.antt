use Rattle.pq_schema.proofs.CommonFronts.{lead_both}
use Rattle.pq_schema.proofs.search.lookup.Lookup.definition_below.Goals as goal

pub definition_along-requires-clause-front : goal.definition_along-requires-clause-front
definition_along-requires-clause-front c = lead_both c.args.along.now.root c.args.name.now c.count.result c.count.ensures.count c.requires.front
