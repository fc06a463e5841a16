use Rattle.std.proofs.Common.{refl, ◌∙◌, ap, inl}
use Rattle.pq_core.specs.Told.{told_puts}
use Rattle.pq_core.specs.Stores.{held}
use Rattle.pq_core.specs.aux.Rising.{Slots}
use Rattle.pq_core.proofs.Making.{go_on_same}
use Rattle.pq_core.proofs.WithdrawOne.{nothing_withdrawn, one_running, one_waiting, over_none, over_one, owed_running, owed_waiting}
use Rattle.pq_core.proofs.store.store.Store.withdraw_one.Goals as goal

pub withdraw_waiting-requires : goal.withdraw_waiting-requires
withdraw_waiting-requires g c =
    let may = c.requires.may in
    let here = rw (← c.number.ensures) at may.1 in
    let x = owed_waiting may.0 c.args.self.now.runs.items c.args.number c.args.label.now ((c.in-Waits.ensures {u = tt}).owed may.0 here) in
    (x.request, record { account = may.0; here = may.1; accepted = x.accepted; waits = x.waits })

pub end_by-requires : goal.end_by-requires
end_by-requires g c =
    let may = c.requires.may in
    let here = rw (← c.number.ensures) at may.1 in
    let x = owed_running may.0 c.args.self.now.runs.items c.args.number c.args.label.now c.in-Runs.run' ((c.in-Runs.ensures {u = tt}).owed may.0 here) in
    record { may = (x.run, x.here, tt) }

pub returns-in-Nothing-clause-goes_on : goal.returns-in-Nothing-clause-goes_on
returns-in-Nothing-clause-goes_on g c = go_on_same _ _ (λ k. refl)

pub returns-in-Nothing-clause-over : goal.returns-in-Nothing-clause-over
returns-in-Nothing-clause-over g c = λ r. inl refl

pub returns-in-Nothing-clause-one : goal.returns-in-Nothing-clause-one
returns-in-Nothing-clause-one g c =
    let may = c.requires.may in
    let here = rw (← c.number.ensures) at may.1 in
    λ l s. (
      l,
      nothing_withdrawn g.R.Key.Ord.cmp (g.R.Rules.machine c.args.self.now.rules) g.M.Stamp.point told_puts (held c.args.self.now) l c.args.client c.args.number may.0 c.args.label.now s may.1
          ((c.in-Nothing.ensures {u = tt}).owed may.0 here),
      s,
    )

pub returns-in-Waits-clause-over : goal.returns-in-Waits-clause-over
returns-in-Waits-clause-over g c =
    over_none _ _ c.args.client c.args.label.now (ap (λ (s : Slots _). s.items) c.withdraw_waiting.ensures.runs)

pub returns-in-Waits-clause-one : goal.returns-in-Waits-clause-one
returns-in-Waits-clause-one g c =
    let may = c.requires.may in
    let here = rw (← c.number.ensures) at may.1 in
    let x = owed_waiting may.0 c.args.self.now.runs.items c.args.number c.args.label.now ((c.in-Waits.ensures {u = tt}).owed may.0 here) in
    λ l s.
    let y = c.withdraw_waiting.ensures.one l s in
    (y.0, one_waiting g.R.Key.Ord.cmp (g.R.Rules.machine c.args.self.now.rules) g.M.Stamp.point told_puts (held c.args.self.now) l y.0 c.args.client c.args.number may.0 c.args.label.now s may.1 x y.1, y.2)

pub returns-in-Runs-clause-over : goal.returns-in-Runs-clause-over
returns-in-Runs-clause-over g c =
    let may = c.requires.may in
    let here = rw (← c.number.ensures) at may.1 in
    let told = c.in-Runs.ensures {u = tt} in
    let x = owed_running may.0 c.args.self.now.runs.items c.args.number c.args.label.now c.in-Runs.run' (told.owed may.0 here) in
    over_one _ _ c.args.client c.args.label.now c.in-Runs.run' x.run x.here (told.of_client x.run x.here ∙ c.number.ensures) x.labelled c.end_by.ensures.over

pub returns-in-Runs-clause-one : goal.returns-in-Runs-clause-one
returns-in-Runs-clause-one g c =
    let may = c.requires.may in
    let here = rw (← c.number.ensures) at may.1 in
    let x = owed_running may.0 c.args.self.now.runs.items c.args.number c.args.label.now c.in-Runs.run' ((c.in-Runs.ensures {u = tt}).owed may.0 here) in
    λ l s.
    let y = c.end_by.ensures.moved l s in
    (y.0, one_running g.R.Key.Ord.cmp (g.R.Rules.machine c.args.self.now.rules) g.M.Stamp.point told_puts (held c.args.self.now) l y.0 c.args.client c.args.number may.0 c.args.label.now c.in-Runs.run' s may.1 x y.1, y.2)
