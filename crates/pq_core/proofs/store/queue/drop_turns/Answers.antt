use Rattle.std.proofs.Common.{◌≡◌, ◌==◌, List, not, ap, sym, ◌∙◌, subst, rules}
use Rattle.std.specs.Prelude.{filter}
use Rattle.pq_core.proofs.InTurn.{apart_filtered}
use Rattle.pq_core.proofs.Queued.{filter_retained}
use Rattle.pq_core.proofs.Turned.{dropped_turns}
use Rattle.pq_core.specs.aux.Turns.{seats_of, AreApart}
use Rattle.pq_core.specs.declared.store.queue.ClientTurn.{ClientTurn}
use Rattle.pq_core.proofs.store.queue.drop_turns.Goals as goal

left : (c : goal.After-retain) → c.retain.new.self.items ≡ filter (λ (t : ClientTurn). not (t.client == c.args.client)) c.args.turns.now.items
left c = filter_retained _ _ (λ (t : ClientTurn). not (t.client == c.args.client)) (λ x b q r. search rules) _ _ c.retain.ensures.filtered

pub returns-clause-apart : goal.returns-clause-apart
returns-clause-apart c = λ apart.
    subst (λ (turns : List ClientTurn). AreApart turns) (sym (left c)) (apart_filtered c.args.client c.args.turns.now.items apart)

pub returns-clause-seats : goal.returns-clause-seats
returns-clause-seats c = ap seats_of (left c) ∙ dropped_turns c.args.client c.args.turns.now.items
