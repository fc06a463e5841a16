use Rattle.std.specs.Prelude.{pos}
use Rattle.pq_syntax.specs.declared.parts.Range.{Range}
use Rattle.pq_proto.specs.Reserved.{range_data}
use Rattle.pq_proto.specs.aux.Printed.{tokens_of}
use Rattle.pq_proto.proofs.ListSteps.{PrintedTo}
use Rattle.pq_proto.proofs.descriptor.reserved.print_ranges.Given as goal

abbrev pub invariant-each : goal.invariant-each
invariant-each l =
    PrintedTo (λ (r : Range). tokens_of (range_data (pos l.greatest) r)) l.fn.out l.out l.ranges l.range-index
