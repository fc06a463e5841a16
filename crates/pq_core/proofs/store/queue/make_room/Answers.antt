use Rattle.std.proofs.Common.{◌∙◌, ap, inl, inr}
use Rattle.std.proofs.lemmas.List.{length-set}
use Rattle.std.proofs.lemmas.Result.{IfOk-weaker}
use Rattle.pq_core.proofs.AccountMoves.{read_at}
use Rattle.pq_core.proofs.InTurn.{apart_set}
use Rattle.pq_core.proofs.Lists.{get_within, set_same}
use Rattle.pq_core.proofs.Turned.{same_turn, seats_one}
use Rattle.pq_core.specs.declared.store.queue.ClientTurn.{ClientTurn}
use Rattle.pq_core.proofs.store.queue.make_room.Goals as goal

pub returns-clause-seats : goal.returns-clause-seats
returns-clause-seats c =
    let read = read_at c.args.turns.now.items c.args.place _ _ c.requires.here c.index_mut.ensures.value in
    same_turn c.args.turns.now.items c.args.place c.requires.turn c.reserve.new.self c.requires.here
    (seats_one _ _ _ _ (c.reserve.ensures.client ∙ ap (λ (t : ClientTurn). t.client) read) (c.reserve.ensures.numbers ∙ ap (λ (t : ClientTurn). t.numbers.items) read))

pub returns-clause-apart : goal.returns-clause-apart
returns-clause-apart c =
    let read = read_at c.args.turns.now.items c.args.place _ _ c.requires.here c.index_mut.ensures.value in
    apart_set c.args.turns.now.items c.args.place c.requires.turn c.reserve.new.self c.requires.here (c.reserve.ensures.client ∙ ap (λ (t : ClientTurn). t.client) read)

pub returns-clause-here : goal.returns-clause-here
returns-clause-here c =
    let read = read_at c.args.turns.now.items c.args.place _ _ c.requires.here c.index_mut.ensures.value in
    let same = c.reserve.ensures.numbers ∙ ap (λ (t : ClientTurn). t.numbers.items) read in
    IfOk-weaker c.reserve.result _ _ (λ _ more. record {
      turn = c.reserve.new.self;
      here = set_same c.args.turns.now.items c.args.place c.reserve.new.self (get_within _ _ _ c.requires.here);
      is_of = c.reserve.ensures.client ∙ ap (λ (t : ClientTurn). t.client) read ∙ c.requires.is_of;
      settled = elim c.requires.settled [
        | inl some ↦ inl (rw same some)
        | inr end ↦ inr (length-set c.args.turns.now.items c.args.place c.reserve.new.self ∙ end)
      ];
      room = more;
    }) c.reserve.ensures.room
