use Rattle.std.proofs.Common.{◌≡◌, drop}
use Rattle.pq_view.specs.Nearest.{common_folder}
use Rattle.pq_view.proofs.Nearness.{joined}
use Rattle.pq_view.proofs.tails.common_folder.Given as goal

abbrev pub invariant-bytes : goal.invariant-bytes
invariant-bytes l = joined l.common l.index (common_folder (drop l.index l.a) (drop l.index l.b)) ≡ common_folder l.a l.b
