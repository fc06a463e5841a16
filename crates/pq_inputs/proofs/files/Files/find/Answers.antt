use Rattle.std.proofs.Common.{get_or, arith}
use Rattle.std.proofs.lemmas.Option.{slice_get-get_or, slice_get_within}
use Rattle.pq_inputs.specs.aux.Kept.{blank, side_by_side}
use Rattle.pq_inputs.proofs.EntryLemmas.{StandsAt, lookup_nowhere, not_found, stands_at, stands_found}
use Rattle.pq_inputs.proofs.files.Files.find.Goals as goal

-- where the name has the number at which it is looked for first, the file stands there
near : (c : goal.Then-is_at) → StandsAt (side_by_side c.self.inside.names c.self.inside.records.items) c.args.name.now c.args.near (get_or c.self.inside.records.items c.args.near blank)
near c =
    let at = (c.is_at.ensures.is).0 c.if-is_at.true in
    let within = slice_get_within c.self.inside.names c.args.near c.args.name.now at in
    let has = slice_get-get_or c.self.inside.records.items c.args.near blank (omega (arith, c.self.invariant, within)) in
    stands_at c.self.inside.names c.self.inside.records.items c.args.name.now c.args.near _ at (c.is_at.ensures.once c.if-is_at.true) has

pub returns-then-is_at-clause-found : goal.returns-then-is_at-clause-found
returns-then-is_at-clause-found c = rw (← c.self.view_is, (near c).read) (near c).there

-- a file that was set stands at its number
known : (c : goal.After-number) → StandsAt (side_by_side c.self.inside.names c.self.inside.records.items) c.args.name.now c.in-Some.id (get_or c.self.inside.records.items c.in-Some.id blank)
known c =
    let within = slice_get_within c.self.inside.names c.in-Some.id c.args.name.now ((c.find.ensures c.in-Some.id).0 c.in-Some.is) in
    let has = slice_get-get_or c.self.inside.records.items c.in-Some.id blank (omega (arith, c.self.invariant, within)) in
    stands_found c.self.inside.names c.self.inside.records.items c.args.name.now c.find.result c.in-Some.id _ c.find.ensures c.in-Some.is has

pub returns-in-Some-clause-found : goal.returns-in-Some-clause-found
returns-in-Some-clause-found c = rw (← c.self.view_is, c.number.ensures, (known c).read) (known c).there

pub returns-in-None-clause-none : goal.returns-in-None-clause-none
returns-in-None-clause-none c =
    let nowhere = not_found c.self.inside.names c.args.name.now c.find.result c.find.ensures c.in-None.is in
    rw (← c.self.view_is) (lookup_nowhere c.self.inside.names c.self.inside.records.items c.args.name.now nowhere)
