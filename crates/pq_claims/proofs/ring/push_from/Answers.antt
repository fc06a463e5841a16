use Rattle.std.proofs.Common.{◌≡◌, ◌++◌, ◌∷◌, [], ◌∙◌, ◌+◌, ap, sym, drop, List, append_assoc}
use Rattle.pq_claims.proofs.Places.{drop_next, drop_all}
use Rattle.pq_claims.proofs.Answering.{nil_right}
use Rattle.pq_claims.proofs.ring.push_from.Goals as goal

pub more-preserved : goal.more-preserved
more-preserved g c =
    ap (λ (l : List g.row.R-Key.Denot). l ++ drop (c.more.i + 1) c.args.more.now) (c.in_ok-push.ensures {u = tt}).added
    ∙ append_assoc c.more.keys.items (c.in_ok-copy.copy ∷ []) (drop (c.more.i + 1) c.args.more.now)
    ∙ ap (λ (k : g.row.R-Key.Denot). c.more.keys.items ++ k ∷ drop (c.more.i + 1) c.args.more.now) (c.in_ok-copy.ensures {u = tt}).copy
    ∙ ap (λ (l : List g.row.R-Key.Denot). c.more.keys.items ++ l) (sym (drop_next c.args.more.now c.more.i c.index-more-i.result c.more-test.true c.index-more-i.is))
    ∙ c.more.invariant

pub returns : goal.returns
returns g c =
    sym (ap (λ (l : List g.row.R-Key.Denot). c.more.keys.items ++ l) (drop_all c.args.more.now c.more.i c.more-test.false) ∙ nil_right c.more.keys.items) ∙ c.more.invariant
