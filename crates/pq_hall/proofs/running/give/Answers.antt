use Rattle.pq_core.proofs.TwoCalls.{memos_through}
use Rattle.pq_core.specs.Works.{DoneView}
use Rattle.pq_core.specs.declared.values.fault.GiveRefused.{GiveRefused}
use Rattle.pq_hall.proofs.HandMoves.{give_counts, give_starved, give_over, given_cause, given_counts, given_hands, given_holder}
use Rattle.pq_hall.proofs.running.give.Goals as goal

pub returns-in-Ok-clause-handed : goal.returns-in-Ok-clause-handed
returns-in-Ok-clause-handed g c =
    let s = c.store_is_sound.ensures.stands in
    given_hands g.R.Key.Ord.cmp g.R.Rules.machine g.M.Stamp.point c.args.store.now c.give.new.self c.args.run c.args.done c.in-Ok.given s.0 s.1 c.in-Ok.ensures.moved

pub returns-in-NotThisRun-clause-moved : goal.returns-in-NotThisRun-clause-moved
returns-in-NotThisRun-clause-moved g c =
    give_over g.R.Key.Ord.cmp g.R.Rules.machine g.M.Stamp.point c.args.store.now c.give.new.self c.args.run c.args.done c.in-Err.refused c.in-NotThisRun.is c.in-Err.ensures.back c.in-Err.ensures.moved

pub returns-in-Memory-clause-moved : goal.returns-in-Memory-clause-moved
returns-in-Memory-clause-moved g c =
    give_starved g.R.Key.Ord.cmp g.R.Rules.machine g.M.Stamp.point c.args.store.now c.give.new.self c.starve.new.store c.args.run c.args.done c.in-Err.refused c.starve.result c.in-Err.ensures.rules c.in-Memory.is c.in-Err.ensures.back c.in-Err.ensures.moved c.starve.ensures.moved

pub returns-in-Memory-clause-none_lost : goal.returns-in-Memory-clause-none_lost
returns-in-Memory-clause-none_lost g c =
    memos_through g.R.Key.Ord.cmp c.args.store.now c.give.new.self c.starve.new.store c.starve.ensures.places c.in-Err.ensures.none_lost

pub returns-in-Ok-clause-cause : goal.returns-in-Ok-clause-cause
returns-in-Ok-clause-cause g c =
    let s = c.store_is_sound.ensures.stands in
    given_cause g.R.Key.Ord.cmp g.R.Rules.machine g.M.Stamp.point c.args.store.now c.give.new.self c.args.run c.args.done c.in-Ok.given s.0 s.1 c.in-Ok.ensures.moved

pub returns-in-Ok-clause-holder : goal.returns-in-Ok-clause-holder
returns-in-Ok-clause-holder g c =
    let s = c.store_is_sound.ensures.stands in
    given_holder g.R.Key.Ord.cmp g.R.Rules.machine g.M.Stamp.point c.args.store.now c.give.new.self c.args.run c.args.done c.in-Ok.given s.0 s.1 c.in-Ok.ensures.moved

pub returns-in-Ok-clause-counted : goal.returns-in-Ok-clause-counted
returns-in-Ok-clause-counted g c = λ log counted.
    given_counts g.R.Key.Ord.cmp g.R.Rules.machine g.M.Stamp.point c.args.store.now c.give.new.self c.args.run (GiveRefused (DoneView g.row.R.Denot g.row.R-Key.Denot g.row.R-Part.Denot g.row.R-Value.Denot)) c.in-Ok.given log (c.in-Ok.ensures.counted log counted)

pub returns-in-Memory-clause-counted : goal.returns-in-Memory-clause-counted
returns-in-Memory-clause-counted g c = λ log counted.
    give_counts g.R.Key.Ord.cmp g.R.Rules.machine g.M.Stamp.point c.args.store.now c.give.new.self c.starve.new.store c.args.run c.args.done c.in-Err.refused c.starve.result log c.in-Err.ensures.rules c.in-Memory.is c.in-Err.ensures.back c.in-Err.ensures.moved
    (c.in-Err.ensures.counted log counted)
    (c.starve.ensures.counted log)
