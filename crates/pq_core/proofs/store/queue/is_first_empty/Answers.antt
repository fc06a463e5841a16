use Rattle.std.proofs.Common.{refl, sym, ◌∙◌, arith, drop, eqb-true}
use Rattle.pq_core.proofs.Turned.{first_read, no_items, first_waits, none_waits, some_left, none_left}
use Rattle.pq_core.proofs.store.queue.is_first_empty.Goals as goal

pub returns-in-Some-clause-empty : goal.returns-in-Some-clause-empty
returns-in-Some-clause-empty c = λ so.
    let all = c.args.turns.now.ok.0 in
    let some = (c.in-Some.ensures {u = tt}).variant.0 refl in (
      c.in-Some.first.now,
      drop 1 c.args.turns.now.items,
      first_read c.args.turns.now.items c.in-Some.first.now (omega arith) (c.in-Some.ensures {u = tt}).lookup,
      no_items c.in-Some.first.now.numbers.items (sym c.in-Some.first.now.numbers.ok.0 ∙ eqb-true _ 0 (sym c.is_empty.ensures ∙ so)),
    )

pub returns-in-Some-clause-waits : goal.returns-in-Some-clause-waits
returns-in-Some-clause-waits c = λ not_so.
    let all = c.args.turns.now.ok.0 in
    let some = (c.in-Some.ensures {u = tt}).variant.0 refl in
    let one = c.in-Some.first.now.numbers.ok.0 in
    first_waits c.args.turns.now.items _ c.in-Some.first.now (first_read c.args.turns.now.items c.in-Some.first.now (omega arith) (c.in-Some.ensures {u = tt}).lookup)
    (some_left _ _ c.is_empty.result c.is_empty.ensures one not_so)

pub returns-in-None-clause-waits : goal.returns-in-None-clause-waits
returns-in-None-clause-waits c = λ _.
    let all = c.args.turns.now.ok.0 in
    none_waits c.args.turns.now.items (sym all ∙ none_left _ (c.in-None.ensures {u = tt}).variant.1)
