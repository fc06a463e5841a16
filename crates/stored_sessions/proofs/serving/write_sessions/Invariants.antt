use Rattle.std.proofs.Common.{length}
use Rattle.stored_sessions.proofs.serving.write_sessions.Given as goal

abbrev pub decreases-sessions : goal.decreases-sessions
decreases-sessions g l = length l.rest
