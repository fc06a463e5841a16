use Rattle.std.proofs.Common.{take}
use Rattle.pq_schema.specs.aux.NameParts.{leading}
use Rattle.pq_schema.proofs.OutwardSearch.{after_both}
use Rattle.pq_schema.proofs.search.outward.after_lead.Goals as goal

pub returns : goal.returns
returns c =
    record {
      after = after_both (leading (take c.args.count c.args.lead.now)) c.args.lead.now c.in_ok-after_scope.field-0.now c.args.name.now c.strip_prefix.result
          c.in_ok-after_scope.ensures.after c.strip_prefix.ensures.cases;
    }
