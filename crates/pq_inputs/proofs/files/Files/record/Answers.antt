use Rattle.std.proofs.Common.{◌≡◌, ℕ, List, Some, length, slice_get, refl, sym, ap, ◌∙◌, arith}
use Rattle.std.proofs.lemmas.Option.{same_Some, slice_get_read, slice_get_within}
use Rattle.pq_inputs.specs.aux.Kept.{Entry, Entries, entry_in, side_by_side}
use Rattle.pq_inputs.proofs.EntryLemmas.{side_get}
use Rattle.pq_inputs.proofs.files.Files.record.Goals as goal

-- an entry of files that stand at their places is the record at its place
at : (names : List (List ℕ)) (items : List Entry) (files : Entries) (place : ℕ) (name : List ℕ) (entry : Entry) → side_by_side names items ≡ files → slice_get files place ≡ Some (name, entry) → slice_get items place ≡ Some entry
at names items files place name entry view is = side_get names items place name entry (ap (λ (es : Entries). slice_get es place) view ∙ is)

pub index-requires : goal.index-requires
index-requires c =
    let within = slice_get_within c.self.inside.records.items c.args.place _ (at c.self.inside.names c.self.inside.records.items c.args.self.now c.args.place c.args._name.now _ c.self.view_is c.requires) in
    omega (arith, within)

pub returns : goal.returns
returns c =
    let items = c.self.inside.records.items in
    let within = slice_get_within items c.args.place _ (at c.self.inside.names c.self.inside.records.items c.args.self.now c.args.place c.args._name.now _ c.self.view_is c.requires) in
    let has = slice_get_read items (length items) c.args.place c.index.result.now refl (omega (arith, within)) c.index.ensures in
    same_Some c.index.result.now (entry_in c.args.self.now c.args._name.now) (sym has ∙ (at c.self.inside.names c.self.inside.records.items c.args.self.now c.args.place c.args._name.now _ c.self.view_is c.requires))
