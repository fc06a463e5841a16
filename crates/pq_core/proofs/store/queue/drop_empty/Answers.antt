use Rattle.std.proofs.Common.{◌∙◌}
use Rattle.pq_core.proofs.InTurn.{apart_drop}
use Rattle.pq_core.proofs.Turned.{empty_first}
use Rattle.pq_core.proofs.store.queue.drop_empty.Goals as goal

pub turns-preserved : goal.turns-preserved
turns-preserved c =
    let x = c.is_first_empty.ensures.empty c.turns-test.true in
    rw c.drop_front.ensures.items (
      empty_first c.turns.turns.items x.1 x.0 x.2 x.3 ∙ c.turns.invariant.0,
      λ apart. apart_drop c.turns.turns.items (c.turns.invariant.1 apart),
    )
