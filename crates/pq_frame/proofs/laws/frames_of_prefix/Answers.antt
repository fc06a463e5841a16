use Rattle.pq_frame.proofs.OneReading.{frames_front}
use Rattle.pq_frame.proofs.laws.frames_of_prefix.Goals as goal

pub returns : goal.returns
returns c = frames_front
