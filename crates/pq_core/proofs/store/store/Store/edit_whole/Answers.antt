use Rattle.std.proofs.Common.{◌∙◌, []}
use Rattle.std.specs.Option.{option_map}
use Rattle.std.specs.Prelude.{string_bytes}
use Rattle.pq_rules.proofs.Weight.{Exact}
use Rattle.pq_core.specs.Changes.{set}
use Rattle.pq_core.proofs.StoreEditing.{of_body}
use Rattle.pq_core.proofs.TurnOfRuns.{edit_counted, edit_turned}
use Rattle.pq_core.proofs.store.store.Store.edit_whole.Goals as goal

pub end_runs_at-requires : goal.end_runs_at-requires
end_runs_at-requires g c = (c.in-Ok.ensures {u = tt}).late

pub returns-in-Ok-clause-rules : goal.returns-in-Ok-clause-rules
returns-in-Ok-clause-rules g c = c.end_runs_at.ensures.rules ∙ (c.in-Ok.ensures {u = tt}).rules

pub returns-in-Ok-clause-inputs : goal.returns-in-Ok-clause-inputs
returns-in-Ok-clause-inputs g c = c.end_runs_at.ensures.inputs ∙ (c.in-Ok.ensures {u = tt}).inputs

pub returns-in-Ok-clause-places : goal.returns-in-Ok-clause-places
returns-in-Ok-clause-places g c = c.end_runs_at.ensures.places ∙ (c.in-Ok.ensures {u = tt}).places

pub returns-in-Ok-clause-moved : goal.returns-in-Ok-clause-moved
returns-in-Ok-clause-moved g c =
    let told = c.in-Ok.ensures {u = tt} in
    edit_turned g.R.Key.Ord.cmp g.R.Rules.machine g.M.Stamp.point c.args.self.now c.set_whole.new.self c.end_runs_at.new.self c.args.client c.in-Ok.revision
    (of_body c.args.file c.args.durability (set (option_map string_bytes c.args.text))) told.moved told.rules told.accounts c.end_runs_at.ensures.goes_on c.end_runs_at.ensures.turned

pub returns-in-Ok-clause-counted : goal.returns-in-Ok-clause-counted
returns-in-Ok-clause-counted g c =
    let exact : Exact g.R.Key.Ord.cmp = record { total = g.met.R.Key.Ord.total; exact = (g.met.R.Rules.lawful c.args.self.now.rules []).exact } in
    let told = c.in-Ok.ensures {u = tt} in
    λ log x. edit_counted g.R.Key.Ord.cmp exact (g.R.Rules.machine c.args.self.now.rules) c.args.self.now c.end_runs_at.new.self
    (of_body c.args.file c.args.durability (set (option_map string_bytes c.args.text))) log (c.end_runs_at.ensures.inputs ∙ told.inputs) (c.end_runs_at.ensures.places ∙ told.places) x

pub returns-in-Err-clause-moved : goal.returns-in-Err-clause-moved
returns-in-Err-clause-moved g c = (c.in-Err.ensures {u = tt}).moved
