use Rattle.std.proofs.Common.{refl, arith}
use Rattle.std.proofs.lemmas.Bool.{false≢true}
use Rattle.pq_core.proofs.AccountMoves.{may_see, see_early, see_far, see_open, see_done, see_kept}
use Rattle.pq_core.proofs.store.account.Account.see.Goals as goal

pub returns-then-below-self : goal.returns-then-below-self
returns-then-below-self g c =
    let e = c.number-below.ensures in
    let less = c.if-below-self.true in
    rw (← c.self.view_is) (see_early (record { seen = c.self.inside.seen; stages = c.self.inside.stages.items }) c.args.number (omega arith))

pub returns-then-more-len : goal.returns-then-more-len
returns-then-more-len g c =
    let e = c.number-below.ensures in
    let more = c.if-more-len.true in
    let len = c.len.ensures in
    let ok = c.self.inside.stages.ok.0 in
    rw (← c.self.view_is) (see_far (record { seen = c.self.inside.seen; stages = c.self.inside.stages.items }) c.args.number (omega arith))

pub returns-then-not-are_collected : goal.returns-then-not-are_collected
returns-then-not-are_collected g c =
    let e = c.number-below.ensures in
    rw (← c.self.view_is) (see_open (record { seen = c.self.inside.seen; stages = c.self.inside.stages.items }) c.args.number
    (λ all. false≢true ((c.if-not-are_collected.ensures {u = tt}).1 (λ i less. all i (omega arith)))))

pub invariant_of-self : goal.invariant_of-self
invariant_of-self g c =
    let e = c.number-below.ensures in
    let late = c.if-below-self.false in
    let may = may_see (record { seen = c.self.inside.seen; stages = c.self.inside.stages.items }) c.args.number (omega arith)
    (λ i less. (c.if-not-are_collected.ensures {u = tt}).0 refl i (omega arith)) in
    rw (c.drop_first.ensures, e) (see_kept _ _ _ _ c.self.invariant may)

pub returns : goal.returns
returns g c =
    let e = c.number-below.ensures in
    let late = c.if-below-self.false in
    let may = may_see (record { seen = c.self.inside.seen; stages = c.self.inside.stages.items }) c.args.number (omega arith)
    (λ i less. (c.if-not-are_collected.ensures {u = tt}).0 refl i (omega arith)) in
    rw (← c.self.view_is) (rw e (see_done (record { seen = c.self.inside.seen; stages = c.self.inside.stages.items }) c.args.number _ may (rw e at c.drop_first.ensures)))
