use Rattle.std.proofs.Common.{ℕ, List, ◌++◌, ap, ◌∙◌}
use Rattle.std.proofs.lemmas.Result.{on_ok_weaker}
use Rattle.json.specs.Token.{Token}
use Rattle.pq_schema.specs.Definitions.{entry_name, qualified}
use Rattle.pq_proto.specs.Types.{TypeOf, field_type, key_type}
use Rattle.pq_proto.specs.Descriptor.{entry_data, entry_of}
use Rattle.pq_proto.specs.aux.Printed.{tokens_of}
use Rattle.pq_proto.specs.aux.Views.{type_of}
use Rattle.pq_proto.proofs.descriptor.messages.print_map_entry.Goals as goal

pub returns : goal.returns
returns c =
    let refs = c.args.references.now in
    let scope = c.args.scope.now in
    let old : List Token = c.args.out.now in
    let field : List ℕ = c.args.map.2.now.text in
    let key' = type_of c.key_type-key.result in
    let value' = type_of c.in_ok-value.value in
    let name_is = c.in_ok-name.ensures ∙ ap entry_name c.as_str.ensures.same in
    let full_is = c.as_str-5.ensures.value ∙ c.in_ok-full.ensures ∙ ap (qualified scope) (c.as_str-2.ensures.same ∙ name_is) in
    let key_is = c.key_type-key.ensures ∙ ap key_type c.as_str-3.ensures.same in
    let value_is = c.in_ok-value.ensures ∙ ap (field_type refs c.args.item) c.as_str-4.ensures.same in
    let same = ap (λ (f : List ℕ). old ++ tokens_of (entry_data f c.as_str-6.result.now key' value')) full_is
    ∙ ap (λ (n : List ℕ). old ++ tokens_of (entry_data (entry_of scope field) n key' value')) (c.as_str-6.ensures.same ∙ name_is)
    ∙ ap (λ (k : TypeOf). old ++ tokens_of (entry_data (entry_of scope field) (entry_name field) k value')) key_is
    ∙ ap (λ (v : TypeOf). old ++ tokens_of (entry_data (entry_of scope field) (entry_name field) (key_type c.args.map.0.now.text) v)) value_is in
    on_ok_weaker c.print_entry.result (λ e. e ∙ same) c.print_entry.ensures
