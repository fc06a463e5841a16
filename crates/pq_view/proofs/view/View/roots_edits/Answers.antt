use Rattle.std.proofs.Common.{[], ap, ◌∙◌}
use Rattle.std.proofs.lemmas.Result.{IfOk-weaker}
use Rattle.pq_view.specs.Held.{view_of}
use Rattle.pq_view.specs.aux.Known.{paths_of}
use Rattle.pq_view.specs.aux.Sights.{seen}
use Rattle.pq_view.specs.aux.Touched.{edited}
use Rattle.pq_view.proofs.KnownNames.{at_keys, roots_done}
use Rattle.pq_view.proofs.view.View.roots_edits.Goals as goal

pub returns : goal.returns
returns c = record {
  edits = IfOk-weaker c.edits_of.result _ _
      (λ es e. roots_done (view_of c.args.self.now) (seen c.sight-before.result) (seen c.after_roots-after.result)
      c.deref.result.now c.args.roots.now c.in_ok-names.names.items (paths_of c.args.self.now.disk) (paths_of c.args.self.now.documents) es.items
      (record { on_disk = at_keys c.args.self.now.disk; open_at = at_keys c.args.self.now.documents })
      c.sight-before.ensures.seen c.after_roots-after.ensures.seen c.deref.ensures.value c.in_ok-names.ensures.names
      (e ∙ ap (λ ns. edited (seen c.sight-before.result) (seen c.after_roots-after.result) [] ns) c.deref-2.ensures.value))
      c.edits_of.ensures.edits;
}
