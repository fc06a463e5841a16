use Rattle.std.proofs.Common.{◌-◌}
use Rattle.pq_hall.proofs.board.Board.count_up_to.Given as goal

abbrev pub decreases-loop-low : goal.decreases-loop-low
decreases-loop-low g l = l.high - l.low
