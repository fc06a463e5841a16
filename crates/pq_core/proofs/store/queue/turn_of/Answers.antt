use Rattle.std.proofs.Common.{◌∷◌, [], ◌∙◌, refl, inr}
use Rattle.std.proofs.lemmas.List.{length-append}
use Rattle.pq_core.proofs.InTurn.{apart_added}
use Rattle.pq_core.proofs.Turned.{last_there}
use Rattle.pq_core.proofs.store.queue.turn_of.Goals as goal

pub returns-in-None-clause-apart : goal.returns-in-None-clause-apart
returns-in-None-clause-apart c = λ apart.
    rw (c.push_back_reserved.ensures.items, c.reserve.ensures.items)
    (apart_added c.args.turns.now.items _ c.args.client refl (c.in-None.ensures {u = tt}).none apart)

pub returns-in-None-clause-here : goal.returns-in-None-clause-here
returns-in-None-clause-here c =
    let at = c.len-place.ensures ∙ c.reserve.new.self.ok.0 in
    rw (c.push_back_reserved.ensures.items, at)
    (record { turn = _; here = last_there c.reserve.new.self.items _; is_of = refl; settled = inr (length-append c.reserve.new.self.items (_ ∷ [])) })
