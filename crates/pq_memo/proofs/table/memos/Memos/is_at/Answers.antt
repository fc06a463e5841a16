use Rattle.std.proofs.Common.{List, sym, ◌∙◌, subst}
use Rattle.pq_rules.specs.Relations.{In}
use Rattle.pq_rules.proofs.ListLemmas.{in_there}
use Rattle.pq_memo.proofs.table.memos.Memos.is_at.Goals as goal

pub returns-then-is_same_key : goal.returns-then-is_same_key
returns-then-is_same_key g c =
    let same = c.is_same_key.ensures.0 c.if-is_same_key.true in
    (λ t. (
      c.in-Cycle.ring,
      sym c.answer.ensures ∙ c.in-Cycle.is,
      subst (λ (x : g.row.R-Key.Denot). In x c.in-Cycle.ring) same
          (subst (λ (l : List g.row.R-Key.Denot). In c.index-keys-place.result l) c.keys-keys.ensures.keys
          (in_there c.keys-keys.result.now c.args.place c.index-keys-place.result c.index-keys-place.is c.if-place-keys.true)),
    ))
