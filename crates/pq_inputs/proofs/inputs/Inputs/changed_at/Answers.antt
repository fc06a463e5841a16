use Rattle.std.proofs.Common.{◌≡◌, ◌-◌, ◌+◌, length, Some, slice_get, ap, arith}
use Rattle.pq_inputs.specs.Sources.{Table}
use Rattle.pq_inputs.specs.Changes.{IsLastChange}
use Rattle.std.proofs.lemmas.Option.{slice_get_within}
use Rattle.pq_inputs.proofs.Histories.{same_since, last_change_within}
use Rattle.pq_inputs.proofs.inputs.Inputs.changed_at.Goals as goal

-- the kept revision is the last one
kept : (c : goal.After-of) → IsLastChange c.args.self.now.history c.args.name.now c.of.result
kept c =
    let histories = ap (λ (t : Table). t.history) c.self.view_is in
    rw (c.of.ensures, c.changed.ensures, ← histories) (c.self.invariant.changes c.args.name.now)

counted : (c : goal.After-of) → length c.args.self.now.history ≡ c.args.self.now.revision + 1
counted c =
    let histories = ap (λ (t : Table). t.history) c.self.view_is in
    let revisions = ap (λ (t : Table). t.revision) c.self.view_is in
    rw (← histories, ← revisions) c.self.invariant.counted

pub returns-clause-last : goal.returns-clause-last
returns-clause-last c = kept c

pub returns-clause-within : goal.returns-clause-within
returns-clause-within c = last_change_within c.args.self.now.history c.args.self.now.revision c.args.name.now c.of.result (counted c) (kept c)

pub returns-clause-kept : goal.returns-clause-kept
returns-clause-kept c =
    let histories = ap (λ (t : Table). t.history) c.self.view_is in
    let revisions = ap (λ (t : Table). t.revision) c.self.view_is in
    let files = ap (λ (t : Table). t.files) c.self.view_is in
    let now_is : slice_get c.args.self.now.history c.args.self.now.revision ≡ Some c.args.self.now.files = rw (← histories, ← revisions, ← files) c.self.invariant.latest in
    λ revision then after is.
    let within = slice_get_within c.args.self.now.history revision then is in
    let all = counted c in
    same_since c.args.self.now.history c.args.self.now.revision c.args.self.now.files c.args.name.now c.of.result all now_is (kept c) (c.args.self.now.revision - revision) revision then (omega arith) after is
