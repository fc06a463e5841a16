use Rattle.std.proofs.Common.{◌≡◌, List, ◌++◌, ap, ◌∙◌}
use Rattle.std.proofs.Common.{ℕ}
use Rattle.std.proofs.lemmas.Result.{IfOk-weaker}
use Rattle.json.specs.Token.{Token}
use Rattle.json.specs.Print.{print}
use Rattle.serde_json.specs.Written.{compact_text}
use Rattle.serde_json.proofs.Texts.{print-outline}
use Rattle.pq_schema.specs.Definitions.{package_of}
use Rattle.pq_schema.specs.declared.queries.resolved.ResolvedReference.{ResolvedReference}
use Rattle.pq_proto.specs.Descriptor.{descriptor, file_data}
use Rattle.pq_proto.specs.aux.Printed.{tokens_of}
use Rattle.pq_proto.specs.aux.Rests.{Rest, left}
use Rattle.pq_proto.proofs.descriptor.descriptor_text.Goals as goal

pub returns : goal.returns
returns c =
    let refs = c.args.references.now in
    let d = file_data c.in_ok-resolved.resolved c.args.file.now c.package_of.result.now (left c.of.result) in
    let is : d ≡ descriptor refs c.args.file.now c.args.nodes.now =
    ap (λ (rs : List ResolvedReference). file_data rs c.args.file.now c.package_of.result.now (left c.of.result)) c.in_ok-resolved.ensures
    ∙ ap (λ (p : List ℕ). file_data refs c.args.file.now p (left c.of.result)) c.package_of.ensures
    ∙ ap (λ (r : Rest). file_data refs c.args.file.now (package_of c.args.nodes.now) (left r)) c.of.ensures in
    let printed : c.print_file.new.out ≡ tokens_of d = c.in_ok-print_file.ensures ∙ ap (λ (ts : List Token). ts ++ tokens_of d) c.new-out.ensures in
    IfOk-weaker c.into_text.result _ _ (λ _ h. h ∙ ap print printed ∙ print-outline d ∙ ap compact_text is) c.into_text.ensures
