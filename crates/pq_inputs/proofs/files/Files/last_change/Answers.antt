use Rattle.std.proofs.Common.{sym, ap}
use Rattle.pq_inputs.specs.aux.Kept.{Entry}
use Rattle.pq_inputs.proofs.EntryLemmas.{entry_not_found}
use Rattle.pq_inputs.proofs.files.Files.last_change.Goals as goal

pub returns-in-None-clause-changed : goal.returns-in-None-clause-changed
returns-in-None-clause-changed c = ap (λ (e : Entry). e.changed) (sym (entry_not_found c.args.self.now c.args.name.now c.in-None.ensures.none))

pub returns-in-None-clause-durability : goal.returns-in-None-clause-durability
returns-in-None-clause-durability c = ap (λ (e : Entry). e.file.durability) (sym (entry_not_found c.args.self.now c.args.name.now c.in-None.ensures.none))
