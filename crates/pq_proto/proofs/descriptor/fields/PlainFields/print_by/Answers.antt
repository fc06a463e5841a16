use Rattle.std.proofs.Common.{◌≡◌, List, ◌++◌, false, append-nil, refl, sym, ap, ◌∙◌}
use Rattle.std.specs.Prelude.{option_copied}
use Rattle.std.proofs.lemmas.Result.{on_ok_weaker}
use Rattle.json.specs.Token.{Token}
use Rattle.pq_syntax.specs.declared.tree.Statement.{Statement}
use Rattle.pq_proto.specs.Reserved.{integer}
use Rattle.pq_proto.specs.Types.{field_type}
use Rattle.pq_proto.specs.Descriptor.{FieldOf, entry_type, field_by, field_data, is_optional, label_number}
use Rattle.pq_proto.specs.aux.Printed.{tokens_of, values_of}
use Rattle.pq_proto.specs.aux.Views.{type_of}
use Rattle.pq_proto.proofs.ListSteps.{field_parts}
use Rattle.pq_proto.proofs.descriptor.fields.PlainFields.print_by.Goals as goal

pub returns-in_ok-kind-in-Field : goal.returns-in_ok-kind-in-Field
returns-in_ok-kind-in-Field c =
    let fields = c.args.self.now in
    let refs = fields.references.now in
    let scope = fields.scope.now in
    let oneof = option_copied fields.oneof in
    let old : List Token = c.args.out.now in
    let f = c.in-Field in
    let number = integer f.number in
    let given = field_parts c.label_number.result c.as_str-in-Field.result.now number oneof c.is_optional.result c.as_slice.result.now (type_of c.in_ok-kind-in-Field.kind) in
    let told = field_parts (label_number f.label) f.name.text number oneof (is_optional f.label) f.options (field_type refs c.args.item f.type_name.text) in
    let same : given ≡ told =
    rw (c.label_number.ensures, c.as_str-in-Field.ensures.same, c.is_optional.ensures, c.as_slice.ensures, c.in_ok-kind-in-Field.ensures, c.as_str.ensures.same) refl in
    let by : values_of (field_by refs scope oneof c.args.item c.args.statement.now) ≡ tokens_of (field_data told) =
    ap (λ (s : Statement). values_of (field_by refs scope oneof c.args.item s)) f.is ∙ append-nil (tokens_of (field_data told)) in
    on_ok_weaker c.print_field.result (λ e. e ∙ ap (λ (x : FieldOf). old ++ tokens_of (field_data x)) same ∙ ap (λ (ts : List Token). old ++ ts) (sym by)) c.print_field.ensures

pub returns-in_ok-kind-in-MapField : goal.returns-in_ok-kind-in-MapField
returns-in_ok-kind-in-MapField c =
    let fields = c.args.self.now in
    let refs = fields.references.now in
    let scope = fields.scope.now in
    let oneof = option_copied fields.oneof in
    let old : List Token = c.args.out.now in
    let f = c.in-MapField in
    let number = integer f.number in
    let given = field_parts 3 c.as_str-in-MapField-2.result.now number oneof false c.as_slice-in-MapField.result.now (type_of c.in_ok-kind-in-MapField.kind) in
    let told = field_parts 3 f.name.text number oneof false f.options (entry_type scope f.name.text) in
    let same : given ≡ told =
    rw (c.as_str-in-MapField-2.ensures.same, c.as_slice-in-MapField.ensures, c.in_ok-kind-in-MapField.ensures, c.as_str-in-MapField.ensures.same) refl in
    let by : values_of (field_by refs scope oneof c.args.item c.args.statement.now) ≡ tokens_of (field_data told) =
    ap (λ (s : Statement). values_of (field_by refs scope oneof c.args.item s)) f.is ∙ append-nil (tokens_of (field_data told)) in
    on_ok_weaker c.print_field-in-MapField.result (λ e. e ∙ ap (λ (x : FieldOf). old ++ tokens_of (field_data x)) same ∙ ap (λ (ts : List Token). old ++ ts) (sym by)) c.print_field-in-MapField.ensures
