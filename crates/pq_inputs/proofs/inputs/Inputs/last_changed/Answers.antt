use Rattle.std.proofs.Common.{slice_get, ap, ◌∙◌, inl, inr, arith}
use Rattle.pq_inputs.specs.Sources.{Table, file_in}
use Rattle.pq_inputs.specs.Changes.{level, IsLastChangeOf}
use Rattle.std.proofs.lemmas.Bool.{cases_lt}
use Rattle.pq_inputs.proofs.Last.{last_ordered}
use Rattle.pq_inputs.proofs.Histories.{last_change_of_within, lasting_since}
use Rattle.std.proofs.Common.{◌-◌}
use Rattle.pq_inputs.proofs.inputs.Inputs.last_changed.Goals as goal

-- the kept revision is the last one
kept : (c : goal.After-of-2) → IsLastChangeOf c.args.self.now.history c.args.durability c.of-2.result
kept c =
    let histories = ap (λ (t : Table). t.history) c.self.view_is in
    let own = c.self.invariant.of_level c.args.durability in
    rw (c.of-2.ensures, c.of.ensures, ← histories) own

pub returns-clause-within : goal.returns-clause-within
returns-clause-within c =
    let counted = c.self.invariant.counted in
    let histories = ap (λ (t : Table). t.history) c.self.view_is in
    let revisions = ap (λ (t : Table). t.revision) c.self.view_is in
    last_change_of_within c.args.self.now.history c.args.self.now.revision c.args.durability c.of-2.result (rw (← histories, ← revisions) counted) (kept c)

pub returns-clause-later : goal.returns-clause-later
returns-clause-later c = λ name revision change after. elim (cases_lt (level (file_in change.before name).durability) (level c.args.durability)) [
  | inl lower ↦ lower
  | inr lasting ↦ absurd ((kept c).latest revision after (record { name = name; change = change; lasting = lasting }))
]

pub returns-clause-ordered : goal.returns-clause-ordered
returns-clause-ordered c = λ lower last below is. last_ordered c.of-2.result last (λ p change. record { name = change.name; change = change.change; lasting = let lasting = change.lasting in omega arith }) (kept c) is

pub returns-clause-stays : goal.returns-clause-stays
returns-clause-stays c = λ revision other then after name from to was is lasting.
    lasting_since c.args.self.now.history c.args.durability c.of-2.result (kept c) (other - revision) revision then after from was (ap (slice_get c.args.self.now.history) (omega arith) ∙ is) name lasting
