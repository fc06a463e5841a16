use Rattle.std.proofs.Common.{sym, ap, ◌∙◌}
use Rattle.std.specs.Prelude.{Option}
use Rattle.std.proofs.lemmas.Result.{IfOk-weaker}
use Rattle.pq_lex.specs.declared.token.Span.{Span}
use Rattle.pq_links.specs.Files.{nodes_of}
use Rattle.pq_proto.specs.Definition.{holds}
use Rattle.pq_proto.proofs.ReferenceSteps.{definition_here, definition_later, definition_none}
use Rattle.pq_proto.proofs.definition.first_at.Goals as goal

pub returns-then-holds : goal.returns-then-holds
returns-then-holds c =
    let test = ap (λ (s : Option Span). holds s c.args.offset) (sym c.span_in.ensures.span) ∙ sym c.holds.ensures ∙ c.if-holds.true in
    let here = definition_here (nodes_of c.args.file.now) c.args.offset c.args.references.now c.references.reference-index c.reference-item.result c.references-test.true c.reference-item.is test in
    IfOk-weaker c.type_item.result _ _ (λ _ h. h ∙ here ∙ c.references.invariant) c.type_item.ensures

pub references-preserved : goal.references-preserved
references-preserved c =
    let test = ap (λ (s : Option Span). holds s c.args.offset) (sym c.span_in.ensures.span) ∙ sym c.holds.ensures ∙ c.if-holds.false in
    definition_later (nodes_of c.args.file.now) c.args.offset c.args.references.now c.references.reference-index c.reference-item.result c.references-test.true c.reference-item.is test
    ∙ c.references.invariant

pub returns : goal.returns
returns c = definition_none (nodes_of c.args.file.now) c.args.offset c.args.references.now c.references.reference-index c.references-test.false ∙ c.references.invariant
