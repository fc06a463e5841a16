use Rattle.std.proofs.Common.{◌≡◌, Some, slice_get, slice_set, ap, ◌∙◌, arith}
use Rattle.pq_inputs.specs.aux.Kept.{Entry, Entries, entry_in, with_entry, side_by_side}
use Rattle.std.specs.Prelude.{is_some, if◌then◌else◌}
use Rattle.std.proofs.lemmas.Option.{slice_get_within, get_or_from_slice_get}
use Rattle.pq_inputs.proofs.EntryLemmas.{side_get, side_set, entry_path}
use Rattle.pq_inputs.proofs.files.Files.write.Goals as goal

-- the record of the file stands at its place
stands : (c : goal.After-self-1) → slice_get (side_by_side c.self.inside.names c.self.inside.records.items) c.in-Ok.place ≡ Some (c.args.name.now, entry_in c.args.self.now c.args.name.now)
stands c = ap (λ (es : Entries). slice_get es c.in-Ok.place) c.self.view_is ∙ c.in-Ok.ensures.place

-- so it is what was kept of the file
old_is : (c : goal.After-self-1) → c.index_mut.result.now ≡ entry_in c.args.self.now c.args.name.now
old_is c = c.index_mut.ensures.value ∙ get_or_from_slice_get c.self.inside.records.items c.in-Ok.place (entry_in c.args.self.now c.args.name.now) c.index_mut.result.now (side_get c.self.inside.names c.self.inside.records.items c.in-Ok.place c.args.name.now _ (stands c))

pub index_mut-requires : goal.index_mut-requires
index_mut-requires c =
    let at : slice_get (side_by_side c.self.inside.names c.self.inside.records.items) c.in-Ok.place ≡ Some (c.args.name.now, entry_in c.args.self.now c.args.name.now) = ap (λ (es : Entries). slice_get es c.in-Ok.place) c.self.view_is ∙ c.in-Ok.ensures.place in
    let within = slice_get_within c.self.inside.records.items c.in-Ok.place _ (side_get c.self.inside.names c.self.inside.records.items c.in-Ok.place c.args.name.now _ at) in
    omega (arith, within)

pub returns-in-Ok-clause-written : goal.returns-in-Ok-clause-written
returns-in-Ok-clause-written c =
    let new = c.write.new.self in
    let changed : new.changed ≡ (if is_some c.write.result then c.args.revision else (entry_in c.args.self.now c.args.name.now).changed) = c.write.ensures.changed ∙ ap (λ (e : Entry). if is_some c.write.result then c.args.revision else e.changed) (old_is c) in
    side_set c.self.inside.names c.self.inside.records.items c.in-Ok.place c.args.name.now _ new (stands c)
    ∙ ap (λ (es : Entries). slice_set es c.in-Ok.place (c.args.name.now, new)) c.self.view_is
    ∙ c.in-Ok.ensures.entries new
    ∙ ap (with_entry c.args.self.now c.args.name.now) (entry_path new _ _ c.write.ensures.file changed)

pub returns-in-Ok-clause-differs : goal.returns-in-Ok-clause-differs
returns-in-Ok-clause-differs c = rw (← c.write.ensures.file, ← old_is c) c.write.ensures.differs
