use Rattle.std.proofs.Common.{refl}
use Rattle.pq_inputs.specs.aux.Kept.{side_by_side}
use Rattle.pq_inputs.proofs.files.Files.new.Goals as goal

pub returns : goal.returns
unfolding side_by_side
returns c = rw c.new.ensures refl
