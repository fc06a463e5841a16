use Rattle.std.proofs.Common.{List, [], ◌∷◌, ◌++◌, cond, sym, ap, ◌∙◌}
use Rattle.std.specs.Str.{is_utf8}
use Rattle.json.specs.Token.{Token}
use Rattle.serde_json.specs.Data.{string}
use Rattle.pq_syntax.specs.declared.parts.Strings.{Strings}
use Rattle.pq_proto.specs.aux.Printed.{values_of}
use Rattle.pq_proto.proofs.ListSteps.{printed_all, names_tokens}
use Rattle.pq_proto.proofs.descriptor.reserved.print_names.Goals as goal

pub returns : goal.returns
returns c =
    printed_all (λ (s : Strings). values_of (cond (is_utf8 s.value) (string s.value ∷ []) [])) c.args.out.now c.names.out c.args.names.now c.names.name-index c.names-test.false c.names.invariant
    ∙ ap (λ (ts : List Token). c.args.out.now ++ ts) (sym (names_tokens c.args.names.now))
