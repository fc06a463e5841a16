use Rattle.std.proofs.Common.{[], ap, ◌∙◌}
use Rattle.std.proofs.lemmas.Result.{IfOk-weaker}
use Rattle.std.specs.Option.{option_copied}
use Rattle.pq_view.specs.Held.{view_of}
use Rattle.pq_view.specs.aux.Sights.{seen}
use Rattle.pq_view.specs.aux.Touched.{edited}
use Rattle.pq_view.proofs.Changes.{document_done}
use Rattle.pq_view.proofs.view.View.document_edits.Goals as goal

pub returns : goal.returns
returns c = record {
  edits = IfOk-weaker c.edits_of.result _ _
      (λ es e. document_done (view_of c.args.self.now) (seen c.sight-before.result) (seen c.after_document-after.result) c.args.path.now (option_copied c.args.text)
      c.deref.result.now c.in_ok-names.names.items es.items c.sight-before.ensures.seen c.after_document-after.ensures.seen c.deref.ensures.value c.in_ok-names.ensures.names
      (e ∙ ap (λ ns. edited (seen c.sight-before.result) (seen c.after_document-after.result) [] ns) c.deref-2.ensures.value))
      c.edits_of.ensures.edits;
}
