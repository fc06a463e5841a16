use Rattle.std.proofs.Common.{sym, subst}
use Rattle.pq_core.specs.aux.Runs.{RunView}
use Rattle.pq_core.specs.aux.Rings.{IsFrameOf}
use Rattle.pq_core.proofs.Changing.{none_after}
use Rattle.pq_core.proofs.RingRuns.{none_has, own_frame}
use Rattle.pq_core.proofs.steps.closing.frame_of.Goals as goal

pub returns-in-Some-get-clause-none : goal.returns-in-Some-get-clause-none
returns-in-Some-get-clause-none g c =
    let here = sym (rw c.number.ensures at (c.in-Some-get.ensures {u = tt})) in
    none_after c.frame_in.result c.frame_in.ensures.none
    (λ none f h e.
    none f
    (subst (λ (v : RunView g.row.R-Key.Denot g.row.R-Part.Denot). IsFrameOf v.stack v.top f) (sym c.run.view_is)
    (own_frame c.args.runs.now.items c.args.claims.now c.requires.claimed c.claims_are_sound.ensures.sound c.in-Some.run' c.in-Some-get.run'.now c.args.key.now here (c.in-Some.ensures {u = tt}).some f h e)) e)

pub returns-in-None-clause-none : goal.returns-in-None-clause-none
returns-in-None-clause-none g c = none_has c.args.runs.now.items c.args.claims.now c.requires.claimed c.args.key.now (c.in-None.ensures {u = tt}).none
