use Rattle.std.proofs.Common.{◌≡◌, List, [], refl, sym, ◌∙◌, ap, subst}
use Rattle.pq_rules.specs.declared.turn.Answer.{Answer}
use Rattle.pq_rules.specs.Relations.{Each}
use Rattle.pq_rules.proofs.Weight.{Exact}
use Rattle.pq_memo.specs.Table.{memo_at, HasIn}
use Rattle.pq_memo.specs.Writes.{IsDated}
use Rattle.pq_memo.specs.aux.Durabilities.{IsKnown}
use Rattle.pq_memo.proofs.TableCalls.{publish_call, kept_same, known_fresh}
use Rattle.pq_memo.proofs.table.memos.Memos.publish_hinted.Goals as goal

pub returns-in-Ok-store-clause-kept : goal.returns-in-Ok-store-clause-kept
returns-in-Ok-store-clause-kept g c =
    let laws = g.met.R.Rules.lawful c.args.self.now.rules [] in
    let exact : Exact g.R.Key.Ord.cmp = record { total = g.met.R.Key.Ord.total; exact = laws.exact } in
    let same : c.in-Ok.recorded.items ≡ c.args.reads.items = c.in-Ok.ensures {u = tt} ∙ c.deref.ensures.value in
    (publish_call g.R.Key.Ord.cmp exact (g.R.Rules.machine c.args.self.now.rules) c.args.inputs.now c.now.ensures.counted c.now.ensures.last c.args.self.now.places c.requires.kept
    c.store.new.self.places c.args.key c.args.answer c.args.answer c.args.reads.items c.deref-2.result.now c.changed_by-changed.result c.number-now.result
    c.least_of-durability.result c.new-entry.result refl (c.number-now.ensures ∙ c.now.ensures.now) (c.deref-2.ensures.value ∙ same)
    (c.new-entry.ensures ∙ ap (λ (l : List g.row.R-Key.Denot). record { answer = c.args.answer; verified = c.number-now.result; changed = c.changed_by-changed.result; reads = l; durability = c.least_of-durability.result }) same)
    c.requires.ruled c.requires.reads c.requires.up_to_date c.requires.no_ring
    (subst (λ (a : Answer g.row.R-Key.Denot g.row.R-Value.Denot). IsDated c.number-now.result (HasIn (memo_at g.R.Key.Ord.cmp c.args.self.now.places)) c.args.key a c.changed_by-changed.result) c.get.ensures.value c.changed_by-changed.ensures)
    c.least_of-durability.ensures c.in-Ok-store.ensures.put).keeps

pub returns-in-Ok-store-clause-published : goal.returns-in-Ok-store-clause-published
returns-in-Ok-store-clause-published g c =
    let laws = g.met.R.Rules.lawful c.args.self.now.rules [] in
    let exact : Exact g.R.Key.Ord.cmp = record { total = g.met.R.Key.Ord.total; exact = laws.exact } in
    let same : c.in-Ok.recorded.items ≡ c.args.reads.items = c.in-Ok.ensures {u = tt} ∙ c.deref.ensures.value in
    (publish_call g.R.Key.Ord.cmp exact (g.R.Rules.machine c.args.self.now.rules) c.args.inputs.now c.now.ensures.counted c.now.ensures.last c.args.self.now.places c.requires.kept
    c.store.new.self.places c.args.key c.args.answer c.args.answer c.args.reads.items c.deref-2.result.now c.changed_by-changed.result c.number-now.result
    c.least_of-durability.result c.new-entry.result refl (c.number-now.ensures ∙ c.now.ensures.now) (c.deref-2.ensures.value ∙ same)
    (c.new-entry.ensures ∙ ap (λ (l : List g.row.R-Key.Denot). record { answer = c.args.answer; verified = c.number-now.result; changed = c.changed_by-changed.result; reads = l; durability = c.least_of-durability.result }) same)
    c.requires.ruled c.requires.reads c.requires.up_to_date c.requires.no_ring
    (subst (λ (a : Answer g.row.R-Key.Denot g.row.R-Value.Denot). IsDated c.number-now.result (HasIn (memo_at g.R.Key.Ord.cmp c.args.self.now.places)) c.args.key a c.changed_by-changed.result) c.get.ensures.value c.changed_by-changed.ensures)
    c.least_of-durability.ensures c.in-Ok-store.ensures.put).published

pub returns-in-Err-store-clause-kept : goal.returns-in-Err-store-clause-kept
returns-in-Err-store-clause-kept g c =
    kept_same g.R.Key.Ord.cmp (g.R.Rules.machine c.args.self.now.rules) c.args.inputs.now c.args.self.now.places c.store.new.self.places c.in-Err-store.ensures.refused c.requires.kept

pub least_of-durability-requires : goal.least_of-durability-requires
least_of-durability-requires g c =
    subst (λ (l : List g.row.R-Key.Denot). Each (IsKnown (g.R.Rules.machine c.args.self.now.rules) (HasIn (memo_at g.R.Key.Ord.cmp c.args.self.now.places))) l)
    (sym (c.deref-2.ensures.value ∙ c.in-Ok.ensures {u = tt} ∙ c.deref.ensures.value))
    (known_fresh g.R.Key.Ord.cmp (g.R.Rules.machine c.args.self.now.rules) c.args.inputs.now c.args.self.now.places c.requires.kept c.args.reads.items c.requires.up_to_date)
