use Rattle.std.proofs.Common.{refl, ◌∙◌}
use Rattle.pq_core.proofs.AccountMoves.{drop_more}
use Rattle.pq_core.proofs.store.account.drop_first.Goals as goal

pub loop-i-preserved : goal.loop-i-preserved
loop-i-preserved g c = c.drop_one.ensures ∙ drop_more c.args.stages.now.items c.loop-i.stages.items c.loop-i.i _ c.loop-i.invariant refl
