use Rattle.std.proofs.Common.{◌≡◌, [], ◌∷◌, ◌++◌, length, get_or, ap, arith}
use Rattle.pq_inputs.specs.aux.Kept.{blank, side_by_side}
use Rattle.std.proofs.lemmas.List.{length_push}
use Rattle.std.proofs.lemmas.Option.{slice_get-get_or, slice_get_within}
use Rattle.std.proofs.lemmas.Result.{IfOk-at_ok}
use Rattle.pq_names.proofs.Places.{not_among}
use Rattle.pq_inputs.proofs.EntryLemmas.{side_length, StandsAt, stands_found, not_found, PutAt, put_at_end}
use Rattle.pq_inputs.proofs.files.Files.place.Goals as goal

-- a file that was set stands at its number
known : (c : goal.After-number) → StandsAt (side_by_side c.self.inside.names c.self.inside.records.items) c.args.name.now c.in-Some.id (get_or c.self.inside.records.items c.in-Some.id blank)
known c =
    let within = slice_get_within c.self.inside.names c.in-Some.id c.args.name.now ((c.find.ensures c.in-Some.id).0 c.in-Some.is) in
    let has = slice_get-get_or c.self.inside.records.items c.in-Some.id blank (omega (arith, c.self.invariant, within)) in
    stands_found c.self.inside.names c.self.inside.records.items c.args.name.now c.find.result c.in-Some.id _ c.find.ensures c.in-Some.is has

pub returns-in-Some-clause-place : goal.returns-in-Some-clause-place
returns-in-Some-clause-place c = rw (← c.self.view_is, c.number.ensures, (known c).read) (known c).there

pub returns-in-Some-clause-entries : goal.returns-in-Some-clause-entries
returns-in-Some-clause-entries c = λ entry. rw (← c.self.view_is, c.number.ensures) ((known c).written entry)

-- a new name is one more at the end
added : (c : goal.After-number-2) → (c.in-Ok.id ≡ length c.self.inside.names) × (c.intern.new.self ≡ c.self.inside.names ++ c.args.name.now ∷ [])
added c = IfOk-at_ok (λ id. (id ≡ length c.self.inside.names) × (c.intern.new.self ≡ c.self.inside.names ++ c.args.name.now ∷ [])) c.in-Ok.is
    (c.intern.ensures.added (not_among c.find.result c.self.inside.names c.args.name.now c.in_default.is (λ id. (c.find.ensures id).1)))

-- and so is its record
pushed : (c : goal.After-number-2) → c.push_reserved.new.self.items ≡ c.self.inside.records.items ++ blank ∷ []
pushed c = cc

put : (c : goal.After-number-2) → PutAt (side_by_side c.self.inside.names c.self.inside.records.items) (side_by_side c.intern.new.self c.push_reserved.new.self.items) c.args.name.now c.number-2.result
put c = rw (c.number-2.ensures, (added c).0, (added c).1, pushed c) (put_at_end c.self.inside.names c.self.inside.records.items c.args.name.now c.self.invariant (not_found c.self.inside.names c.args.name.now c.find.result c.find.ensures c.in_default.is))

pub invariant_of-self-2 : goal.invariant_of-self-2
invariant_of-self-2 c =
    let names = length_push c.self.inside.names c.args.name.now in
    let records = length_push c.self.inside.records.items blank in
    rw ((added c).1, pushed c) (omega (arith, names, records, c.self.invariant))

pub returns-clause-place : goal.returns-clause-place
returns-clause-place c = rw (← c.self.view_is) (put c).there

pub returns-clause-entries : goal.returns-clause-entries
returns-clause-entries c = λ entry. rw (← c.self.view_is) ((put c).written entry)

-- there are fewer files than names that the table takes
pub unreachable-requires : goal.unreachable-requires
unreachable-requires c =
    let full = (c.in-Err-Full.ensures.full).0 (cc c.in-Err-Full.field-0-is) in
    let few = c.requires in
    let entries = ap length c.self.view_is in
    omega (arith, full.0, few, side_length c.self.inside.names c.self.inside.records.items c.self.invariant, entries, c.self.invariant)
