use Rattle.std.proofs.Common.{add-one, sym, subst, inl, inr, refl}
use Rattle.pq_rules.specs.Relations.{In}
use Rattle.pq_rules.proofs.ListLemmas.{not_both, in_there}
use Rattle.pq_memo.proofs.Reading.{in_take}
use Rattle.pq_memo.proofs.table.memos.has_key.Goals as goal

pub returns-then-is_same_key : goal.returns-then-is_same_key
returns-then-is_same_key g c =
    let same = c.is_same_key.ensures.0 c.if-is_same_key.true in
    ((λ t. subst (λ (x : g.row.R-Key.Denot). In x c.args.keys.now) same (in_there c.args.keys.now c.loop-i.i c.index-keys-i.result c.index-keys-i.is c.loop-i-test.true)), (λ i. refl))

pub loop-i-preserved : goal.loop-i-preserved
loop-i-preserved g c = rw add-one
    (λ j. elim (in_take c.args.keys.now c.loop-i.i c.index-keys-i.result c.args.key.now c.loop-i-test.true c.index-keys-i.is j) [
      | inl k ↦ c.loop-i.invariant k
      | inr e ↦ not_both (c.is_same_key.ensures.1 (sym e)) c.if-is_same_key.false
    ])
