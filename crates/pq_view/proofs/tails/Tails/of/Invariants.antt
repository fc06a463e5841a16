use Rattle.std.proofs.Common.{◌≡◌, ℕ, List, take}
use Rattle.std.specs.Prelude.{bytes_eq}
use Rattle.std.specs.List.{list_any}
use Rattle.pq_view.proofs.tails.Tails.of.Given as goal

abbrev pub invariant-paths : goal.invariant-paths
invariant-paths l = (q : List ℕ) → list_any (bytes_eq q) l.tails ≡ list_any (bytes_eq q) (take l.path-index l.paths)
