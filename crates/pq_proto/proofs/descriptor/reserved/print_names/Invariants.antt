use Rattle.std.specs.Prelude.{cond, [], ◌∷◌}
use Rattle.std.specs.Str.{is_utf8}
use Rattle.serde_json.specs.Data.{string}
use Rattle.pq_syntax.specs.declared.parts.Strings.{Strings}
use Rattle.pq_proto.specs.aux.Printed.{values_of}
use Rattle.pq_proto.proofs.ListSteps.{PrintedTo}
use Rattle.pq_proto.proofs.descriptor.reserved.print_names.Given as goal

abbrev pub invariant-names : goal.invariant-names
invariant-names l =
    PrintedTo (λ (s : Strings). values_of (cond (is_utf8 s.value) (string s.value ∷ []) [])) l.fn.out l.out l.names l.name-index
