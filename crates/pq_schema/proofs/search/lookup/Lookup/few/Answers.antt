use Rattle.std.proofs.Common.{length, sym, ap}
use Rattle.pq_schema.proofs.search.lookup.Lookup.few.Goals as goal

pub invariant_of-result : goal.invariant_of-result
invariant_of-result c = (
  tt,
  tt,
  λ roots. c.in_ok-all.ensures.near c.args.files.now roots (ap length (sym c.as_slice.ensures.value)),
)
