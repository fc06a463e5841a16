use Rattle.std.proofs.Common.{refl}
use Rattle.std.specs.Fmt.{digits}
use Rattle.pq_editor.proofs.faults.FileFault.message.Goals as goal

pub returns-in-TooLong : goal.returns-in-TooLong
unfolding digits
returns-in-TooLong c = rw c.in-TooLong.is refl

pub returns-in-TooMany : goal.returns-in-TooMany
unfolding digits
returns-in-TooMany c = rw c.in-TooMany.is refl
