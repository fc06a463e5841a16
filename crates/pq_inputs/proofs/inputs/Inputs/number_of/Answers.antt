use Rattle.std.proofs.Common.{is_some, ap, ◌∙◌}
use Rattle.pq_inputs.specs.Sources.{Table}
use Rattle.pq_inputs.specs.aux.Kept.{entry_in}
use Rattle.pq_inputs.proofs.EntryLemmas.{file_is, sources_get, was_set_is}
use Rattle.pq_inputs.proofs.inputs.Inputs.number_of.Goals as goal

pub returns-in-Some-clause-number : goal.returns-in-Some-clause-number
returns-in-Some-clause-number c =
    let files = ap (λ (t : Table). t.files) c.self.view_is in
    rw (← files, file_is c.self.inside.files c.args.name.now)
    (sources_get c.self.inside.files c.in-Some.number c.args.name.now (entry_in c.self.inside.files c.args.name.now) c.in-Some.ensures.found)

pub returns-in-None-clause-none : goal.returns-in-None-clause-none
returns-in-None-clause-none c =
    let files = ap (λ (t : Table). t.files) c.self.view_is in
    rw (← files) (was_set_is c.self.inside.files c.args.name.now ∙ ap is_some c.in-None.ensures.none)
