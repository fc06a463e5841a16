use Rattle.std.proofs.Common.{[], ◌≡◌, subst}
use Rattle.pq_rules.specs.Turns.{over}
use Rattle.pq_rules.specs.Value.{Means}
use Rattle.pq_rules.proofs.Weight.{Exact}
use Rattle.pq_memo.specs.EngineView.{EngineView}
use Rattle.pq_memo.specs.Look.{IsUpToDate}
use Rattle.pq_memo.specs.Table.{memo_at, HasIn}
use Rattle.pq_memo.specs.Demand.{NoneLost, IsSameOrVerified, carried_keys}
use Rattle.pq_memo.specs.aux.Frames.{IsReadAnswer}
use Rattle.pq_memo.proofs.Demanding.{answer_means, differ, none_lost, same_or_verified}
use Rattle.pq_memo.proofs.demand.engine.Engine.demand.Goals as goal

pub returns-clause-value : goal.returns-clause-value
returns-clause-value g c =
    let laws = g.met.R.Rules.lawful c.self.inside.memos.rules [] in
    let exact : Exact g.R.Key.Ord.cmp = record { total = g.met.R.Key.Ord.total; exact = laws.exact } in
    let read = rw c.in-Some.is at c.in_ok-answer.ensures.answer in
    subst (λ (v : EngineView g.row.R.Denot g.row.R-Key.Denot g.row.R-Value.Denot). Means (over g.R.Key.Ord.cmp (g.R.Rules.machine v.rules) v.inputs.files) c.args.key.now c.in-Some.answer) c.self.view_is
    (answer_means g.R.Key.Ord.cmp exact (g.R.Rules.machine c.self.inside.memos.rules) c.self.inside.inputs c.now-latest.ensures.last
    (memo_at g.R.Key.Ord.cmp c.bring_up_to_date.new.self.places) c.bring_up_to_date.ensures.kept c.args.key.now c.in-Some.answer
    (subst (λ (r : g.row.R.Denot). IsReadAnswer g.R.Key.Ord.cmp (g.R.Rules.machine r) c.self.inside.inputs.files c.self.inside.inputs.revision
    (HasIn (memo_at g.R.Key.Ord.cmp c.bring_up_to_date.new.self.places)) c.args.key.now c.in-Some.answer) c.bring_up_to_date.ensures.rules read))

pub returns-clause-up_to_date : goal.returns-clause-up_to_date
returns-clause-up_to_date g c =
    subst (λ (v : EngineView g.row.R.Denot g.row.R-Key.Denot g.row.R-Value.Denot).
    IsUpToDate (g.R.Rules.machine v.rules) v.inputs.revision (HasIn (memo_at g.R.Key.Ord.cmp c.bring_up_to_date.new.self.places)) c.args.key.now) c.self.view_is
    c.in_ok-carried.ensures.up_to_date

pub returns-clause-idle : goal.returns-clause-idle
returns-clause-idle g c =
    subst (λ (v : EngineView g.row.R.Denot g.row.R-Key.Denot g.row.R-Value.Denot).
    IsUpToDate (g.R.Rules.machine v.rules) v.inputs.revision (HasIn (memo_at g.R.Key.Ord.cmp v.places)) c.args.key.now → c.in_ok-carried.carried.items ≡ []) c.self.view_is
    c.in_ok-carried.ensures.idle

pub returns-clause-once : goal.returns-clause-once
returns-clause-once g c = differ (carried_keys c.in_ok-carried.carried.items) c.in_ok-carried.ensures.once

pub returns-clause-none_lost : goal.returns-clause-none_lost
returns-clause-none_lost g c =
    subst (λ (v : EngineView g.row.R.Denot g.row.R-Key.Denot g.row.R-Value.Denot). NoneLost (memo_at g.R.Key.Ord.cmp v.places) (memo_at g.R.Key.Ord.cmp c.bring_up_to_date.new.self.places)) c.self.view_is
    (none_lost c.self.inside.inputs.revision (memo_at g.R.Key.Ord.cmp c.self.inside.memos.places) (memo_at g.R.Key.Ord.cmp c.bring_up_to_date.new.self.places)
    c.bring_up_to_date.ensures.handed_on)

pub returns-clause-verified : goal.returns-clause-verified
returns-clause-verified g c =
    subst (λ (v : EngineView g.row.R.Denot g.row.R-Key.Denot g.row.R-Value.Denot).
    (k : g.row.R-Key.Denot) → IsSameOrVerified v.inputs.revision (memo_at g.R.Key.Ord.cmp v.places) (memo_at g.R.Key.Ord.cmp c.bring_up_to_date.new.self.places) k) c.self.view_is
    (same_or_verified c.self.inside.inputs.revision (memo_at g.R.Key.Ord.cmp c.self.inside.memos.places) (memo_at g.R.Key.Ord.cmp c.bring_up_to_date.new.self.places)
    c.bring_up_to_date.ensures.handed_on)
