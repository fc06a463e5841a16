use Rattle.std.proofs.Common.{◌-◌, sym, ◌∙◌, arith}
use Rattle.pq_core.proofs.Lists.{get_within}
use Rattle.pq_core.proofs.AccountMoves.{read_at, first_made, collect_kept, collect_one, collect_none}
use Rattle.pq_core.proofs.store.account.Account.collect.Goals as goal

pub returns-in-None : goal.returns-in-None
returns-in-None g c =
    let empty = (c.in-None.ensures {u = tt}).cases.0 in
    let ok = c.self.inside.made.ok.0 in
    rw (← c.self.view_is) (collect_none _ c.self.inside.made.items _ c.self.invariant (omega arith))

pub overflow_sub-number : goal.overflow_sub-number
overflow_sub-number g c =
    let from = (c.in-Some.ensures {u = tt}).items in
    (first_made _ _ _ _ _ c.self.invariant from).1.past

pub index_mut-requires : goal.index_mut-requires
index_mut-requires g c =
    let from = (c.in-Some.ensures {u = tt}).items in
    let w = first_made _ _ _ _ _ c.self.invariant from in
    let ok = c.self.inside.stages.ok.0 in
    rw ok (get_within _ _ _ w.1.here)

pub collect-requires : goal.collect-requires
collect-requires g c =
    let from = (c.in-Some.ensures {u = tt}).items in
    let w = first_made _ _ _ _ _ c.self.invariant from in
    (w.0, read_at c.self.inside.stages.items (c.in-Some.number - c.self.inside.seen) _ _ w.1.here c.index_mut.ensures.value)

pub invariant_of-self-in-Some : goal.invariant_of-self-in-Some
invariant_of-self-in-Some g c =
    let from = (c.in-Some.ensures {u = tt}).items in
    let w = first_made _ _ _ _ _ c.self.invariant from in
    rw (c.collect.ensures.is, (c.in-Some.ensures {u = tt}).capacity) (collect_kept _ _ _ _ _ w.0 c.self.invariant from w.1)

pub returns-in-Some : goal.returns-in-Some
returns-in-Some g c =
    let from = (c.in-Some.ensures {u = tt}).items in
    let w = first_made _ _ _ _ _ c.self.invariant from in
    let e = read_at c.self.inside.stages.items (c.in-Some.number - c.self.inside.seen) _ _ w.1.here c.index_mut.ensures.value in
    let st = rw (sym e ∙ c.collect.ensures.was) at w.1 in
    let number = c.self.invariant.numbered _ _ st in
    rw (← c.self.view_is) (collect_one _ _ _ _ st number c.collect.ensures.is)
