use Rattle.std.proofs.Common.{◌≡◌, rules}
use Rattle.pq_core.proofs.TwoCalls.{memos_stay}
use Rattle.pq_hall.proofs.HandMoves.{of_hand, result_counts, work_counts}
use Rattle.pq_hall.specs.declared.running.Hand.TheVariants.{Made}
use Rattle.pq_hall.proofs.running.run_step.Goals as goal

pub returns-in-Made-clause-moved : goal.returns-in-Made-clause-moved
returns-in-Made-clause-moved g c =
    of_hand g.R.Key.Ord.cmp g.R.Rules.machine (λ m. m.point) c.args.store.now c.give.new.store c.args.run c.args.hand (Made c.in-Made.done) c.give.result c.in-Made.is c.give.ensures.moved

pub returns-then-not-is_of_now-clause-none_lost : goal.returns-then-not-is_of_now-clause-none_lost
returns-then-not-is_of_now-clause-none_lost g c = memos_stay g.R.Key.Ord.cmp c.args.store.now c.starve.new.store c.starve.ensures.places

pub returns-then-not-is_of_now-clause-counted : goal.returns-then-not-is_of_now-clause-counted
returns-then-not-is_of_now-clause-counted g c = λ log counted.
    let now : c.in-Made.done.started ≡ c.args.store.now.inputs.revision = search rules in
    result_counts g.R.Key.Ord.cmp g.R.Rules.machine (λ m. m.point) c.args.store.now c.starve.new.store c.args.run c.args.hand c.in-Made.done c.starve.result log c.in-Made.is now (c.starve.ensures.counted log counted)

pub returns-in-Unmade-clause-none_lost : goal.returns-in-Unmade-clause-none_lost
returns-in-Unmade-clause-none_lost g c = memos_stay g.R.Key.Ord.cmp c.args.store.now c.starve-in-Unmade.new.store c.starve-in-Unmade.ensures.places

pub returns-in-Unmade-clause-counted : goal.returns-in-Unmade-clause-counted
returns-in-Unmade-clause-counted g c = λ log counted.
    work_counts g.R.Key.Ord.cmp g.R.Rules.machine (λ m. m.point) c.args.store.now c.starve-in-Unmade.new.store c.args.run c.args.hand c.in-Unmade.field-0 c.starve-in-Unmade.result log c.in-Unmade.is (c.starve-in-Unmade.ensures.counted log counted)
