use Rattle.std.proofs.Common.{sym, ap, ◌∙◌}
use Rattle.pq_inputs.specs.Sources.{File, Table}
use Rattle.pq_inputs.proofs.EntryLemmas.{file_is}
use Rattle.pq_inputs.proofs.inputs.Inputs.change_of.Goals as goal

pub returns-clause-last : goal.returns-clause-last
returns-clause-last c =
    let histories = ap (λ (t : Table). t.history) c.self.view_is in
    rw (c.of.ensures, c.last_change-revision.ensures.changed, ← histories) (c.self.invariant.changes c.args.name.now)

pub returns-clause-durability : goal.returns-clause-durability
returns-clause-durability c =
    let files = ap (λ (t : Table). t.files) c.self.view_is in
    c.last_change-revision.ensures.durability ∙ rw (← files) (ap (λ (f : File). f.durability) (sym (file_is c.self.inside.files c.args.name.now)))
