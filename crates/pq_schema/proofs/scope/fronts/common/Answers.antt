use Rattle.pq_schema.proofs.CommonFronts.{stripped}
use Rattle.pq_schema.proofs.scope.fronts.common.Goals as goal

pub returns-in-Some : goal.returns-in-Some
returns-in-Some c =
    record {
      both = stripped c.args.a.now c.args.b.now c.strip_prefix.result c.in-Some.field-0 c.in-Some.is c.strip_prefix.ensures.cases;
      differ = λ is. cc;
    }
