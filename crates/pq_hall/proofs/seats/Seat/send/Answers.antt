use Rattle.pq_hall.proofs.SeatMoves.{emptied_rest, vacant_at_first}
use Rattle.pq_hall.proofs.seats.Seat.send.Goals as goal

pub release-last-requires : goal.release-last-requires
release-last-requires g c = vacant_at_first _ c.fill.new.self.lane c.lane_is_kept.ensures

pub returns-clause-rest : goal.returns-clause-rest
returns-clause-rest g c = λ next. emptied_rest c.release-last.result c.fill.new.self.lane c.release-last.new.self.lane c.release-last.ensures next
