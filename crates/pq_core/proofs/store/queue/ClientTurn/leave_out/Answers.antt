use Rattle.std.proofs.Common.{ℕ, ◌==◌, not, rules}
use Rattle.pq_core.proofs.Queued.{filter_retained}
use Rattle.pq_core.proofs.Turned.{left_other, left_own}
use Rattle.pq_core.proofs.store.queue.ClientTurn.leave_out.Goals as goal

pub returns-then-self-client-clause-seats : goal.returns-then-self-client-clause-seats
returns-then-self-client-clause-seats c = left_other c.args.self.now.client c.args.client c.args.number c.args.self.now.numbers.items c.if-self-client.true

pub returns-clause-seats : goal.returns-clause-seats
returns-clause-seats c =
    left_own c.args.self.now.client c.args.client c.args.number c.args.self.now.numbers.items c.retain.new.self.items c.if-self-client.false
    (filter_retained _ _ (λ (m : ℕ). not (m == c.args.number)) (λ x b q r. search rules) _ _ c.retain.ensures.filtered)
