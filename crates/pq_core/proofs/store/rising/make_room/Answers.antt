use Rattle.std.proofs.Common.{◌≡◌, length, ◌∙◌, ap, arith}
use Rattle.pq_core.specs.aux.Rising.{live_count}
use Rattle.pq_core.proofs.Slots.{compacts_all, long_filter}
use Rattle.pq_core.proofs.store.rising.make_room.Goals as goal

pub returns-clause-compacts : goal.returns-clause-compacts
returns-clause-compacts g c = compacts_all c.args.places.now.items c.compact.new.places.items c.requires.rises c.compact.ensures.items

pub returns-clause-room : goal.returns-clause-room
returns-clause-room g c =
    let long : length c.compact.new.places.items ≡ live_count c.args.places.now.items = ap length c.compact.ensures.items ∙ long_filter c.args.places.now.items in
    let len = c.compact.new.places.ok.0 in
    let room = c.requires.room in
    let same = c.compact.ensures.capacity in
    omega arith
