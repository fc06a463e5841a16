use Rattle.std.proofs.Common.{◌≡◌, [], Some, sym, ◌∙◌, subst}
use Rattle.pq_memo.specs.Table.{View, key_at, memo_at, HasIn}
use Rattle.pq_memo.proofs.TableCalls.{mark_call, known_reads}
use Rattle.pq_memo.proofs.table.memos.Memos.mark_hinted.Goals as goal

pub returns-clause-kept : goal.returns-clause-kept
returns-clause-kept g c =
    (mark_call g.R.Key.Ord.cmp (record { total = g.met.R.Key.Ord.total; exact = (g.met.R.Rules.lawful c.args.self.now.rules []).exact })
    (g.R.Rules.machine c.args.self.now.rules) c.args.inputs.now c.now.ensures.counted c.now.ensures.last c.args.self.now.places c.requires.kept
    c.mark_slot.new.self.places c.args.key.now c.in-Some-entry_at.entry.now c.durability_now-durability.result
    (subst (λ (v : View g.row.R.Denot g.row.R-Key.Denot g.row.R-Value.Denot). HasIn (memo_at g.R.Key.Ord.cmp v.places) c.args.key.now c.in-Some-entry_at.entry.now)
    c.table.view_is (sym (c.in-Some-entry_at.ensures {u = tt})))
    c.requires.green c.durability_now-durability.ensures c.number.result (c.number.ensures ∙ c.now.ensures.now)
    (λ q. c.mark_slot.ensures.marked c.args.key.now q
    (subst (λ (v : View g.row.R.Denot g.row.R-Key.Denot g.row.R-Value.Denot). key_at v.places c.in-Some.slot ≡ Some c.args.key.now) c.table.view_is c.in-Some.ensures.found))).keeps

pub returns-clause-marked : goal.returns-clause-marked
returns-clause-marked g c =
    (mark_call g.R.Key.Ord.cmp (record { total = g.met.R.Key.Ord.total; exact = (g.met.R.Rules.lawful c.args.self.now.rules []).exact })
    (g.R.Rules.machine c.args.self.now.rules) c.args.inputs.now c.now.ensures.counted c.now.ensures.last c.args.self.now.places c.requires.kept
    c.mark_slot.new.self.places c.args.key.now c.in-Some-entry_at.entry.now c.durability_now-durability.result
    (subst (λ (v : View g.row.R.Denot g.row.R-Key.Denot g.row.R-Value.Denot). HasIn (memo_at g.R.Key.Ord.cmp v.places) c.args.key.now c.in-Some-entry_at.entry.now)
    c.table.view_is (sym (c.in-Some-entry_at.ensures {u = tt})))
    c.requires.green c.durability_now-durability.ensures c.number.result (c.number.ensures ∙ c.now.ensures.now)
    (λ q. c.mark_slot.ensures.marked c.args.key.now q
    (subst (λ (v : View g.row.R.Denot g.row.R-Key.Denot g.row.R-Value.Denot). key_at v.places c.in-Some.slot ≡ Some c.args.key.now) c.table.view_is c.in-Some.ensures.found))).marked

pub mark_slot-requires : goal.mark_slot-requires
mark_slot-requires g c = (
  c.args.key.now,
  subst (λ (v : View g.row.R.Denot g.row.R-Key.Denot g.row.R-Value.Denot). key_at v.places c.in-Some.slot ≡ Some c.args.key.now) c.table.view_is c.in-Some.ensures.found,
)

pub durability_now-durability-requires : goal.durability_now-durability-requires
durability_now-durability-requires g c =
    known_reads g.R.Key.Ord.cmp (g.R.Rules.machine c.args.self.now.rules) c.args.inputs.now c.args.self.now.places c.requires.kept
    c.args.key.now c.in-Some-entry_at.entry.now
    (subst (λ (v : View g.row.R.Denot g.row.R-Key.Denot g.row.R-Value.Denot). HasIn (memo_at g.R.Key.Ord.cmp v.places) c.args.key.now c.in-Some-entry_at.entry.now)
    c.table.view_is (sym (c.in-Some-entry_at.ensures {u = tt})))
