use Rattle.std.proofs.Common.{[], ◌∙◌}
use Rattle.pq_rules.proofs.Weight.{Exact}
use Rattle.pq_memo.proofs.TableCalls.{mark_call}
use Rattle.pq_memo.proofs.table.memos.Memos.confirm_slot.Goals as goal

pub returns-in-Some-clause-kept : goal.returns-in-Some-clause-kept
returns-in-Some-clause-kept g c =
    let laws = g.met.R.Rules.lawful c.args.self.now.rules [] in
    let exact : Exact g.R.Key.Ord.cmp = record { total = g.met.R.Key.Ord.total; exact = laws.exact } in
    let v = c.in-Some.ensures {u = tt} in
    (mark_call g.R.Key.Ord.cmp exact (g.R.Rules.machine c.args.self.now.rules) c.args.inputs.now c.now.ensures.counted c.now.ensures.last c.args.self.now.places c.requires.kept
    c.mark_slot.new.self.places v.key v.memo c.in-Some.durability v.has v.green v.lasting c.number.result (c.number.ensures ∙ c.now.ensures.now)
    (λ q. c.mark_slot.ensures.marked v.key q v.there)).keeps

pub returns-in-Some-clause-confirmed : goal.returns-in-Some-clause-confirmed
returns-in-Some-clause-confirmed g c =
    let laws = g.met.R.Rules.lawful c.args.self.now.rules [] in
    let exact : Exact g.R.Key.Ord.cmp = record { total = g.met.R.Key.Ord.total; exact = laws.exact } in
    let v = c.in-Some.ensures {u = tt} in
    λ yes. (
      v.key,
      v.there,
      v.green,
      (mark_call g.R.Key.Ord.cmp exact (g.R.Rules.machine c.args.self.now.rules) c.args.inputs.now c.now.ensures.counted c.now.ensures.last c.args.self.now.places c.requires.kept
          c.mark_slot.new.self.places v.key v.memo c.in-Some.durability v.has v.green v.lasting c.number.result (c.number.ensures ∙ c.now.ensures.now)
          (λ q. c.mark_slot.ensures.marked v.key q v.there)).marked,
    )
