use Rattle.std.proofs.Common.{sym, ap, ◌∙◌}
use Rattle.pq_inputs.specs.aux.Kept.{Entry}
use Rattle.pq_inputs.proofs.EntryLemmas.{entry_found, entry_not_found}
use Rattle.pq_inputs.proofs.files.Files.changed.Goals as goal

pub returns-in-Some : goal.returns-in-Some
returns-in-Some c = c.changed.ensures ∙ ap (λ (e : Entry). e.changed) (sym (entry_found c.args.self.now c.args.name.now c.in-Some.record.now (sym (c.in-Some.ensures {u = tt}))))

pub returns-in-None : goal.returns-in-None
returns-in-None c = ap (λ (e : Entry). e.changed) (sym (entry_not_found c.args.self.now c.args.name.now (sym (c.in-None.ensures {u = tt}))))
