use Rattle.std.proofs.Common.{◌≡◌, true}
use Rattle.std.specs.List.{All}
use Rattle.pq_view.specs.Folders.{is_folder}
use Rattle.pq_view.proofs.buf.push_inline.Given as goal

abbrev pub invariant-items : goal.invariant-items
invariant-items l = All (λ f. is_folder f ≡ true) l.initial.folders.items → All (λ f. is_folder f ≡ true) l.folders.items
