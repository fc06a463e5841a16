use Rattle.std.proofs.Common.{◌≡◌, ◌<◌, ◌^◌, take}
use Rattle.std.specs.Str.Parse.{digits_value}
use Rattle.pq_lex.proofs.escapes.number.Given as goal

abbrev pub invariant-loop-b : goal.invariant-loop-b
invariant-loop-b l = record { is : l.value ≡ digits_value l.radix (take l.b-index l.digits); fits : l.value < 2 ^ 64 }
