use Rattle.std.proofs.Common.{◌<◌, length, sym, ◌∙◌, ap, inl, subst, eqb-true}
use Rattle.pq_core.proofs.AccountMoves.{read_at}
use Rattle.pq_core.proofs.InTurn.{Settles, moved_last}
use Rattle.pq_core.proofs.Turned.{no_items, some_left, not_both}
use Rattle.pq_core.specs.declared.store.queue.ClientTurn.{ClientTurn}
use Rattle.pq_core.proofs.store.queue.settle.Goals as goal

settles : (c : goal.After-len) → Settles c.args.turns.now.items c.move_last.new.turns.items c.len.result c.args.client
settles c =
    let read = read_at c.args.turns.now.items c.args.place _ _ c.requires.here c.index.ensures in
    let none =
    ap (λ (t : ClientTurn). t.numbers.items) (sym read)
    ∙ no_items c.index.result.now.numbers.items (sym c.index.result.now.numbers.ok.0 ∙ eqb-true _ 0 (sym c.is_empty.ensures ∙ c.if-not-is_empty.false)) in
    moved_last c.args.turns.now.items c.move_last.new.turns.items c.args.place c.args.client c.len.result c.requires none
    (c.move_last.ensures c.requires.turn c.requires.here) (c.len.ensures ∙ c.move_last.new.turns.ok.0)

pub returns-then-not-is_empty-clause-here : goal.returns-then-not-is_empty-clause-here
returns-then-not-is_empty-clause-here c =
    let read = read_at c.args.turns.now.items c.args.place _ _ c.requires.here c.index.ensures in
    record {
      turn = c.requires.turn;
      here = c.requires.here;
      is_of = c.requires.is_of;
      settled = inl (subst (λ (t : ClientTurn). 0 < length t.numbers.items) read
          (some_left _ _ c.is_empty.result c.is_empty.ensures c.index.result.now.numbers.ok.0 (not_both _ c.if-not-is_empty.true)));
    }

pub overflow_sub-result : goal.overflow_sub-result
overflow_sub-result c = (settles c).some

pub returns-clause-seats : goal.returns-clause-seats
returns-clause-seats c = (settles c).seats

pub returns-clause-apart : goal.returns-clause-apart
returns-clause-apart c = (settles c).apart

pub returns-clause-here : goal.returns-clause-here
returns-clause-here c = (settles c).here
