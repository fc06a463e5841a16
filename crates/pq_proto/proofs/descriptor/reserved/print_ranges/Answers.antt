use Rattle.std.proofs.Common.{List, ◌++◌, sym, ap, ◌∙◌}
use Rattle.json.specs.Token.{Token}
use Rattle.pq_syntax.specs.declared.parts.Range.{Range}
use Rattle.std.specs.Prelude.{pos}
use Rattle.pq_proto.specs.Reserved.{range_data}
use Rattle.pq_proto.specs.aux.Printed.{tokens_of}
use Rattle.pq_proto.proofs.ListSteps.{printed_all, values_map}
use Rattle.pq_proto.proofs.descriptor.reserved.print_ranges.Goals as goal

pub returns : goal.returns
returns c =
    printed_all (λ (x : Range). tokens_of (range_data (pos c.args.greatest) x)) c.args.out.now c.each.out c.args.ranges.now c.each.range-index c.each-test.false c.each.invariant
    ∙ ap (λ (ts : List Token). c.args.out.now ++ ts) (sym (values_map (range_data (pos c.args.greatest)) c.args.ranges.now))
