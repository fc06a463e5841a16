use Rattle.std.proofs.Common.{◌≡◌, drop}
use Rattle.pq_view.specs.Shown.{shown_path}
use Rattle.pq_view.proofs.shown.shown_path.Given as goal

abbrev pub invariant-roots : goal.invariant-roots
invariant-roots l = shown_path (drop l.index l.roots) (drop l.index l.faces) l.path ≡ shown_path l.roots l.faces l.path
