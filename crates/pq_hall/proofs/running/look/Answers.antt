use Rattle.std.proofs.Common.{Err, subst}
use Rattle.pq_core.specs.Moves.{Looks}
use Rattle.pq_core.specs.Stores.{Goes}
use Rattle.pq_core.specs.declared.values.fault.LookFault.{LookFault}
use Rattle.pq_core.proofs.TwoCalls.{memos_through}
use Rattle.pq_hall.proofs.HandMoves.{look_counts, look_starved}
use Rattle.pq_hall.proofs.running.look.Goals as goal

pub returns-in-Memory-clause-moved : goal.returns-in-Memory-clause-moved
returns-in-Memory-clause-moved g c =
    look_starved g.R.Key.Ord.cmp g.R.Rules.machine g.M.Stamp.point c.args.store.now c.look.new.self c.starve.new.store c.args.run c.starve.result c.in-Err.ensures.rules
    (subst (λ (f : LookFault). Goes g.R.Key.Ord.cmp (g.R.Rules.machine c.args.store.now.rules) g.M.Stamp.point c.args.store.now c.look.new.self (Looks g.R.Key.Ord.cmp (g.R.Rules.machine c.args.store.now.rules) g.M.Stamp.point c.args.store.now.rules c.args.run (Err f))) c.in-Memory.is c.in-Err.ensures.moved)
    c.starve.ensures.moved

pub returns-in-Memory-clause-none_lost : goal.returns-in-Memory-clause-none_lost
returns-in-Memory-clause-none_lost g c =
    memos_through g.R.Key.Ord.cmp c.args.store.now c.look.new.self c.starve.new.store c.starve.ensures.places c.in-Err.ensures.none_lost

pub returns-in-Memory-clause-counted : goal.returns-in-Memory-clause-counted
returns-in-Memory-clause-counted g c = λ log counted.
    look_counts g.R.Key.Ord.cmp g.R.Rules.machine g.M.Stamp.point c.args.store.now c.look.new.self c.starve.new.store c.args.run c.starve.result log c.in-Err.ensures.rules
    (subst (λ (f : LookFault). Goes g.R.Key.Ord.cmp (g.R.Rules.machine c.args.store.now.rules) g.M.Stamp.point c.args.store.now c.look.new.self (Looks g.R.Key.Ord.cmp (g.R.Rules.machine c.args.store.now.rules) g.M.Stamp.point c.args.store.now.rules c.args.run (Err f))) c.in-Memory.is c.in-Err.ensures.moved)
    (c.in-Err.ensures.counted log counted)
    (c.starve.ensures.counted log)
