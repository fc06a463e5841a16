use Rattle.std.proofs.Common.{sym, ap, ◌∙◌}
use Rattle.pq_inputs.specs.Sources.{File, Table}
use Rattle.pq_inputs.proofs.EntryLemmas.{file_found, file_not_found}
use Rattle.pq_inputs.proofs.inputs.Inputs.get.Goals as goal

pub returns-in-Some : goal.returns-in-Some
returns-in-Some c =
    let files = ap (λ (t : Table). t.files) c.self.view_is in
    let found = sym (c.in-Some.ensures {u = tt}) in
    c.text.ensures ∙ ap (λ (f : File). f.text) (sym (file_found c.self.inside.files c.args.self.now.files c.args.name.now c.in-Some.record.now files found))

pub returns-in-None : goal.returns-in-None
returns-in-None c =
    let files = ap (λ (t : Table). t.files) c.self.view_is in
    let none = sym (c.in-None.ensures {u = tt}) in
    ap (λ (f : File). f.text) (sym (file_not_found c.self.inside.files c.args.self.now.files c.args.name.now files none))
