use Rattle.std.proofs.Common.{refl}
use Rattle.json.specs.Print.{escape_byte}
use Rattle.pq_editor.proofs.said.begin_progress_request.Goals as goal

pub returns : goal.returns
unfolding escape_byte
returns c = refl
