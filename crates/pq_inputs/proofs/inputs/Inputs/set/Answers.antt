use Rattle.std.proofs.Common.{◌≡◌, ◌+◌, List, [], ◌∷◌, ◌++◌, None, refl, sym, ap, ap₂, ◌∙◌}
use Rattle.std.specs.Option.{option_copied}
use Rattle.pq_inputs.specs.Sources.{Sources, Table}
use Rattle.pq_inputs.specs.aux.Kept.{Entry, entry_in, with_entry, sources_of}
use Rattle.std.specs.Prelude.{string_bytes, is_some, if◌then◌else◌}
use Rattle.std.specs.Option.{option_map}
use Rattle.pq_inputs.specs.Refusal.{refusal}
use Rattle.pq_inputs.proofs.EntryLemmas.{sources_with, copied_map}
use Rattle.pq_inputs.proofs.Soundness.{kept_set}
use Rattle.pq_inputs.proofs.inputs.Inputs.set.Goals as goal

-- what is kept of the file from now on
abbrev entry : goal.After-of-in-Ok → Entry
entry c = record { file = record { text = option_map string_bytes c.args.text; durability = c.args.durability }; changed = if is_some c.in-Ok.changed then c.self.inside.revision + 1 else (entry_in c.self.inside.files c.args.name.now).changed }

written : (c : goal.After-of-in-Ok) → c.write.new.self ≡ with_entry c.self.inside.files c.args.name.now (entry c)
written c = c.in-Ok.ensures.written

pushed : (c : goal.After-of-in-Ok) → c.push_reserved.new.self.items ≡ c.self.inside.history.items ++ sources_of (with_entry c.self.inside.files c.args.name.now (entry c)) ∷ []
pushed c = c.push_reserved.ensures.items ∙ ap₂ (λ (h : List Sources) (s : Sources). h ++ s ∷ []) c.reserve.ensures.items (c.of.ensures ∙ ap sources_of (written c))

unrefused : (c : goal.After-of-in-Ok) → refusal (record { files = sources_of c.self.inside.files; revision = c.self.inside.revision; history = c.self.inside.history.items; limit = c.self.inside.limit }) c.args.name.now (option_map string_bytes c.args.text) ≡ None
unrefused c =
    let texts : option_copied c.as_deref.result ≡ option_map string_bytes c.args.text = copied_map c.as_deref.result ∙ c.as_deref.ensures.value in
    ap (λ (t : Table). refusal t c.args.name.now (option_map string_bytes c.args.text)) c.self.view_is
    ∙ ap (refusal c.args.self.now c.args.name.now) (sym texts) ∙ sym c.refusal.ensures ∙ c.in_default.is

pub invariant_of-self-in-Ok : goal.invariant_of-self-in-Ok
invariant_of-self-in-Ok c = rw (written c, pushed c) (kept_set c.self.inside.limit c.self.inside.files c.self.inside.revision c.self.inside.last_changed c.self.inside.history.items c.self.invariant c.args.name.now (entry c) (option_map string_bytes c.args.text) c.note.new.self c.in-Ok.changed (unrefused c) refl c.in-Ok.ensures.differs c.note.ensures)

pub returns-in-Ok-clause-files : goal.returns-in-Ok-clause-files
returns-in-Ok-clause-files c =
    let files = ap (λ (t : Table). t.files) c.self.view_is in
    rw (written c, ← files) (sources_with c.self.inside.files c.args.name.now (entry c))
