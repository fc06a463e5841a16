use Rattle.std.proofs.Common.{◌≡◌, ◌∙◌, ap, inl, inr, arith}
use Rattle.pq_core.proofs.AccountMoves.{there_read, read_at, before_or_not}
use Rattle.pq_core.proofs.Lists.{get_within}
use Rattle.pq_core.specs.declared.store.queue.ClientTurn.{ClientTurn}
use Rattle.pq_core.proofs.store.queue.place_of.Goals as goal

pub returns-then-index-client-clause-here : goal.returns-then-index-client-clause-here
returns-then-index-client-clause-here c =
    let all = c.args.turns.now.ok.0 in
    let less = c.loop-place-test.true in
    let end = c.len-place-end.ensures in
    record { turn = c.index.result.now; here = there_read c.args.turns.now.items c.loop-place.place c.index.result.now (omega arith) c.index.ensures; is_of = c.if-index-client.true }

pub loop-place-preserved : goal.loop-place-preserved
loop-place-preserved c = λ at less w.
    elim (before_or_not at c.loop-place.place) [
      | inl h ↦ c.loop-place.invariant at h w
      | inr h ↦
          let e : at ≡ c.loop-place.place = omega arith in
          c.if-index-client.false (ap (λ (t : ClientTurn). t.client) (read_at _ c.loop-place.place _ _ (rw e at w.here) c.index.ensures) ∙ w.is_of)
    ]

pub returns-clause-none : goal.returns-clause-none
returns-clause-none c = λ place w.
    let all = c.args.turns.now.ok.0 in
    let end = c.len-place-end.ensures in
    let past = c.loop-place-test.false in
    let within = get_within c.args.turns.now.items place w.turn w.here in
    c.loop-place.invariant place (omega arith) w
