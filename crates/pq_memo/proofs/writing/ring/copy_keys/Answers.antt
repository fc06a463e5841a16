use Rattle.std.proofs.Common.{◌∷◌, [], ◌++◌, List, sym, ◌∙◌, ap₂, add-one}
use Rattle.pq_memo.proofs.PutAll.{keys_more}
use Rattle.pq_memo.proofs.writing.ring.copy_keys.Goals as goal

pub loop-i-preserved : goal.loop-i-preserved
loop-i-preserved g c = rw add-one
    ((c.in_ok-push.ensures {u = tt}).added ∙ ap₂ (λ (ks : List g.row.R-Key.Denot) (k : g.row.R-Key.Denot). ks ++ k ∷ []) c.loop-i.invariant (c.in_ok-copy.ensures.copy ∙ c.key.ensures)
    ∙ sym (keys_more c.args.members.now c.loop-i.i c.index-members-i.result c.loop-i-test.true c.index-members-i.is))
