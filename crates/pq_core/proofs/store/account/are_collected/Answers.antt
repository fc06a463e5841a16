use Rattle.std.proofs.Common.{◌≡◌, refl, ◌∙◌, ap, inl, inr, arith, Some}
use Rattle.pq_core.proofs.AccountMoves.{there_read, before_or_not}
use Rattle.pq_core.proofs.store.account.are_collected.Goals as goal

pub loop-i-preserved : goal.loop-i-preserved
loop-i-preserved g c = λ j less.
    let ok = c.args.stages.now.ok.0 in
    let test = c.loop-i-test.true in
    let bound = c.requires in
    let here = there_read _ c.loop-i.i _ (omega arith) c.index.ensures ∙ ap Some ((c.if-not-is_collected.ensures {u = tt}).0 refl) in
    elim (before_or_not j c.loop-i.i) [
      | inl h ↦ c.loop-i.invariant j h
      | inr h ↦ let e : j ≡ c.loop-i.i = omega arith in rw e here
    ]
