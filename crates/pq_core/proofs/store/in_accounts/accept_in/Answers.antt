use Rattle.std.proofs.Common.{◌≡◌, Some, sym, ◌∙◌, ap, rules}
use Rattle.std.specs.Prelude.{OnErr}
use Rattle.pq_core.proofs.Changing.{err_after}
use Rattle.pq_core.proofs.InPlace.{set_same}
use Rattle.pq_core.proofs.store.in_accounts.accept_in.Goals as goal

pub returns-clause-refused : goal.returns-clause-refused
returns-clause-refused g c =
    let here = rw (← c.number.ensures) at c.requires.«open».1 in
    let r = c.update.ensures.«open» c.requires.«open».0 here in
    let same : OnErr c.in-Some.accepted (r.1 ≡ c.requires.«open».0) = search rules in
    err_after c.in-Some.accepted same (λ e. set_same _ _ _ _ r.4 (here ∙ ap Some (sym e)))
