use Rattle.std.proofs.Common.{length, refl, sym, arith}
use Rattle.std.proofs.lemmas.Option.{slice_get_read, slice_get_within}
use Rattle.pq_inputs.proofs.EntryLemmas.{stands_found, lookup_nowhere, not_found}
use Rattle.pq_inputs.proofs.files.Files.get.Goals as goal

-- a number that was found is the place of a record
pub index-requires : goal.index-requires
index-requires c =
    let within = slice_get_within c.self.inside.names c.in-Some.id c.args.name.now ((c.find.ensures c.in-Some.id).0 c.in-Some.is) in
    omega (arith, c.self.invariant, within)

pub returns-in-Some : goal.returns-in-Some
returns-in-Some c =
    let name = c.args.name.now in
    let items = c.self.inside.records.items in
    let within = slice_get_within c.self.inside.names c.in-Some.id name ((c.find.ensures c.in-Some.id).0 c.in-Some.is) in
    let has = slice_get_read items (length items) c.in-Some.id c.index.result.now refl (omega (arith, c.self.invariant, within)) (rw (← c.number.ensures) c.index.ensures) in
    let stands = stands_found c.self.inside.names items name c.find.result c.in-Some.id c.index.result.now c.find.ensures c.in-Some.is has in
    rw (← c.self.view_is) (sym stands.found)

pub returns-in-None : goal.returns-in-None
returns-in-None c =
    let nowhere = not_found c.self.inside.names c.args.name.now c.find.result c.find.ensures c.in-None.is in
    rw (← c.self.view_is) (sym (lookup_nowhere c.self.inside.names c.self.inside.records.items c.args.name.now nowhere))
