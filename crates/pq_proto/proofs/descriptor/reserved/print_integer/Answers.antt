use Rattle.std.proofs.Common.{◌∙◌, sym, subst, ◌<◌, ◌^◌, arith}
use Rattle.json.specs.Print.{IsNumber}
use Rattle.pq_proto.proofs.NumberTexts.{below_zero}
use Rattle.pq_proto.proofs.descriptor.reserved.print_integer.Goals as goal

pub number-requires : goal.number-requires
number-requires c =
    let value = c.unwrap_or-value.result in
    let some = c.if-value-gt0.true in
    let fits = c.unwrap_or-value.type_inv in
    let small : value < 2 ^ 64 = omega arith in
    subst IsNumber (sym (c.as_str.ensures.value ∙ c.in_ok-text.ensures.ok)) (below_zero value some small)
