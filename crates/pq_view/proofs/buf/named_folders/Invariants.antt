use Rattle.std.proofs.Common.{◌≡◌, true}
use Rattle.std.specs.List.{All}
use Rattle.pq_view.specs.Folders.{is_folder}
use Rattle.pq_view.proofs.buf.named_folders.Given as goal

abbrev pub invariant-lines : goal.invariant-lines
invariant-lines l = All (λ f. is_folder f ≡ true) l.folders.items
