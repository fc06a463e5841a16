use Rattle.std.proofs.Common.{rules}
use Rattle.pq_core.specs.declared.values.moves.Released.TheVariants.{Full, Gone, Nothing}
use Rattle.pq_hall.proofs.SeatMoves.{at_last, none_next, put_then, vacant_after}
use Rattle.pq_hall.proofs.seats.Seat.+release.Goals as goal

pub returns-then-left-eq0 : goal.returns-then-left-eq0
returns-then-left-eq0 g t c = none_next c.args.left c.args.self.now.lane c.if-left-eq0.true c.requires

pub release-requires-in-Put : goal.release-requires-in-Put
release-requires-in-Put g t c κs within =
    let vacant = vacant_after c.in-Put.field-0 c.args.left c.args.self.now.lane c.release.new.self c.in-Put.ensures c.requires in
    search rules

pub returns-in-Put : goal.returns-in-Put
returns-in-Put g t c =
    put_then c.in-Put.field-0 c.release-in-Put.result c.args.self.now.lane c.release.new.self c.release-in-Put.new.self.lane c.in-Put.ensures c.release-in-Put.ensures

pub returns-in-Full : goal.returns-in-Full
returns-in-Full g t c = at_last Full c.args.self.now.lane c.release.new.self tt c.in-Full.ensures

pub returns-in-Gone : goal.returns-in-Gone
returns-in-Gone g t c = at_last Gone c.args.self.now.lane c.release.new.self tt c.in-Gone.ensures

pub returns-in-Nothing : goal.returns-in-Nothing
returns-in-Nothing g t c = at_last Nothing c.args.self.now.lane c.release.new.self tt c.in-Nothing.ensures
