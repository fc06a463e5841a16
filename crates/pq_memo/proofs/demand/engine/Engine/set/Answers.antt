use Rattle.pq_memo.proofs.TableCalls.{set_kept}
use Rattle.pq_memo.proofs.demand.engine.Engine.set.Goals as goal

pub invariant_of-self : goal.invariant_of-self
invariant_of-self g c =
    set_kept g.R.Key.Ord.cmp (g.R.Rules.machine c.self.inside.memos.rules) c.self.inside.inputs c.set.new.self c.self.inside.memos.places
    c.set.result c.now-latest.ensures.counted c.now-latest.ensures.last c.set.ensures.revision c.set.ensures.history c.set.ensures.refused c.self.invariant
