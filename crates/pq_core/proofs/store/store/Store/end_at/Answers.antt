use Rattle.pq_core.proofs.TurnOfRuns.{late_ends, place_ends, place_vacant}
use Rattle.pq_core.proofs.store.store.Store.end_at.Goals as goal

pub end_by-requires : goal.end_by-requires
end_by-requires g c =
    record { may = late_ends g.R.Key.Ord.cmp g.R.Rules.machine g.M.Stamp.point c.args.self.now c.in-Some.id (c.in-Some.ensures {u = tt}).some c.requires.late }

pub returns-in-Some : goal.returns-in-Some
returns-in-Some g c =
    let e = c.end_by.ensures in
    place_ends g.R.Key.Ord.cmp g.R.Rules.machine g.M.Stamp.point c.args.self.now c.end_by.new.self c.args.at c.in-Some.id (c.in-Some.ensures {u = tt}).here e.rules e.inputs e.places e.over e.numbers e.goes_on e.moved

pub returns-in-None : goal.returns-in-None
returns-in-None g c =
    place_vacant g.R.Key.Ord.cmp g.R.Rules.machine g.M.Stamp.point c.args.self.now c.args.at (c.in-None.ensures {u = tt}).none
