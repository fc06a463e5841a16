use Rattle.std.proofs.Common.{◌∙◌, sym, ap, subst}
use Rattle.pq_inputs.specs.Sources.{Table}
use Rattle.pq_core.specs.Ledger.{unused}
use Rattle.pq_core.specs.Cores.{StandsFor}
use Rattle.pq_play.specs.World.{beginning, replies_of, own_point}
use Rattle.pq_play.specs.aux.Running.{done_of}
use Rattle.pq_play.proofs.Leading.{stood_start}
use Rattle.pq_play.proofs.Finishing.{played_as, none_of}
use Rattle.pq_play.proofs.run.play.Goals as goal

pub carry_all-requires : goal.carry_all-requires
carry_all-requires g c =
    let start = stood_start c.args.room g.R.Key.Ord.cmp (g.R.Rules.machine c.args.rules) c.args.rules c.new-core.result.rules (StandsFor g.R.Key.Ord.cmp (g.R.Rules.machine c.args.rules) own_point replies_of c.new-core.result) c.new-2.result.items (done_of c.new-3.result)
    c.new-core.ensures.rules (subst (λ (t : Table). StandsFor g.R.Key.Ord.cmp (g.R.Rules.machine c.args.rules) own_point replies_of c.new-core.result (unused t)) c.in_ok-fresh.ensures c.new-core.ensures.stands)
    c.new-2.ensures.items (none_of c.new-3.result c.new-3.ensures.empty) in
    (beginning, start)

pub close_all-requires : goal.close_all-requires
close_all-requires g c =
    let start = stood_start c.args.room g.R.Key.Ord.cmp (g.R.Rules.machine c.args.rules) c.args.rules c.new-core.result.rules (StandsFor g.R.Key.Ord.cmp (g.R.Rules.machine c.args.rules) own_point replies_of c.new-core.result) c.new-2.result.items (done_of c.new-3.result)
    c.new-core.ensures.rules (subst (λ (t : Table). StandsFor g.R.Key.Ord.cmp (g.R.Rules.machine c.args.rules) own_point replies_of c.new-core.result (unused t)) c.in_ok-fresh.ensures c.new-core.ensures.stands)
    c.new-2.ensures.items (none_of c.new-3.result c.new-3.ensures.empty) in
    let led = c.in_ok-carry_all.ensures beginning start in
    (led.v, led.stood)

pub returns : goal.returns
returns g c =
    let start = stood_start c.args.room g.R.Key.Ord.cmp (g.R.Rules.machine c.args.rules) c.args.rules c.new-core.result.rules (StandsFor g.R.Key.Ord.cmp (g.R.Rules.machine c.args.rules) own_point replies_of c.new-core.result) c.new-2.result.items (done_of c.new-3.result)
    c.new-core.ensures.rules (subst (λ (t : Table). StandsFor g.R.Key.Ord.cmp (g.R.Rules.machine c.args.rules) own_point replies_of c.new-core.result (unused t)) c.in_ok-fresh.ensures c.new-core.ensures.stands)
    c.new-2.ensures.items (none_of c.new-3.result c.new-3.ensures.empty) in
    let led = c.in_ok-carry_all.ensures beginning start in
    let revision = c.now-revision.ensures.now ∙ ap (λ (t : Table). t.revision) (c.inputs.ensures ∙ sym led.stood.stands.inputs) in
    (led.v, led.led, played_as led.v c.in_ok-played.played c.close_all.new.sheet.seats.items c.now-revision.result c.in_ok-played.ensures (c.close_all.ensures led.v led.stood) revision)
