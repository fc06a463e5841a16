use Rattle.std.proofs.Common.{rules, [], sym, ◌∙◌, ◌++◌, ◌≡◌, ◌≤◌, arith, ◌<◌, length, drop, refl, ap, subst, List}
use Rattle.pq_claims.specs.aux.Table.{held_at, holder_in}
use Rattle.pq_claims.specs.aux.Walks.{IsTraced}
use Rattle.pq_claims.proofs.Ringing.{trace_none, trace_place, closed_as, on_as, trace_goes_on, search_short}
use Rattle.pq_claims.proofs.ring.ring_from.Goals as goal

pub walk-init : goal.walk-init
walk-init g c =
    let none : c.new-ring.result.items ≡ [] = search rules in
    subst (λ (l : List g.row.R-Key.Denot). IsTraced (λ k. holder_in g.R.Key.Ord.cmp c.args.holders.now.entries k) (λ r. held_at c.args.runs.now.entries r) c.args.first.run c.args.run c.args._key.now 0 c.args.first l)
    (sym none)
    (trace_none c.requires.kept.0 (λ k. holder_in g.R.Key.Ord.cmp c.args.holders.now.entries k) c.args.runs.now.entries c.requires.kept.1 c.args.first.run c.args.run c.args._key.now
    c.args.first c.requires.holds refl c.requires.leads)

pub push_from-requires : goal.push_from-requires
push_from-requires g c =
    trace_place c.requires.kept.0 (λ k. holder_in g.R.Key.Ord.cmp c.args.holders.now.entries k) c.args.runs.now.entries c.requires.kept.1 c.args.first.run c.args.run c.args._key.now
    c.walk._step c.walk.at c.walk.ring.items c.keys_in.result.now c.walk.invariant c.keys_in.ensures

pub returns-then-at-run-clause-round : goal.returns-then-at-run-clause-round
returns-then-at-run-clause-round g c =
    (closed_as c.requires.kept.0 (λ k. holder_in g.R.Key.Ord.cmp c.args.holders.now.entries k) c.args.runs.now.entries c.requires.kept.1 c.args.first.run c.args.run c.args._key.now
    c.walk._step c.walk.at c.walk.ring.items c.push_from.new.keys.items c.keys_in.result.now c.walk.invariant c.if-at-run.true (c.in_ok-push_from.ensures {u = tt}) c.keys_in.ensures).0

pub returns-then-at-run-clause-some : goal.returns-then-at-run-clause-some
returns-then-at-run-clause-some g c =
    (closed_as c.requires.kept.0 (λ k. holder_in g.R.Key.Ord.cmp c.args.holders.now.entries k) c.args.runs.now.entries c.requires.kept.1 c.args.first.run c.args.run c.args._key.now
    c.walk._step c.walk.at c.walk.ring.items c.push_from.new.keys.items c.keys_in.result.now c.walk.invariant c.if-at-run.true (c.in_ok-push_from.ensures {u = tt}) c.keys_in.ensures).1

pub returns-then-at-run-clause-differ : goal.returns-then-at-run-clause-differ
returns-then-at-run-clause-differ g c =
    (closed_as c.requires.kept.0 (λ k. holder_in g.R.Key.Ord.cmp c.args.holders.now.entries k) c.args.runs.now.entries c.requires.kept.1 c.args.first.run c.args.run c.args._key.now
    c.walk._step c.walk.at c.walk.ring.items c.push_from.new.keys.items c.keys_in.result.now c.walk.invariant c.if-at-run.true (c.in_ok-push_from.ensures {u = tt}) c.keys_in.ensures).2

pub returns-then-at-run-clause-last : goal.returns-then-at-run-clause-last
returns-then-at-run-clause-last g c =
    (closed_as c.requires.kept.0 (λ k. holder_in g.R.Key.Ord.cmp c.args.holders.now.entries k) c.args.runs.now.entries c.requires.kept.1 c.args.first.run c.args.run c.args._key.now
    c.walk._step c.walk.at c.walk.ring.items c.push_from.new.keys.items c.keys_in.result.now c.walk.invariant c.if-at-run.true (c.in_ok-push_from.ensures {u = tt}) c.keys_in.ensures).3

pub unreachable-requires : goal.unreachable-requires
unreachable-requires g c =
    trace_goes_on c.requires.kept.0 (λ k. holder_in g.R.Key.Ord.cmp c.args.holders.now.entries k) c.args.runs.now.entries c.requires.kept.1 c.args.first.run c.args.run c.args._key.now
    c.walk._step c.walk.at c.walk.ring.items c.walk.invariant c.if-at-run.false (sym c.blocker_of.ensures ∙ c.in-None.is)

pub walk-preserved : goal.walk-preserved
walk-preserved g c =
    on_as c.requires.kept.0 (λ k. holder_in g.R.Key.Ord.cmp c.args.holders.now.entries k) c.args.runs.now.entries c.requires.kept.1 c.args.first.run c.args.run c.args._key.now
    c.walk._step c.walk.at c.in-Some.holder c.walk.ring.items c.push_from.new.keys.items c.keys_in.result.now c.walk.invariant c.if-at-run.false (sym c.blocker_of.ensures ∙ c.in-Some.is)
    (c.in_ok-push_from.ensures {u = tt}) c.keys_in.ensures

pub unreachable-requires-2 : goal.unreachable-requires-2
unreachable-requires-2 g c =
    let short : c.walk._step < length c.args.runs.now.entries =
    search_short c.requires.kept.0 (λ k. holder_in g.R.Key.Ord.cmp c.args.holders.now.entries k) c.args.runs.now.entries c.requires.kept.1 c.args.first.run c.args.run
    c.walk._step c.walk.at.run c.walk.invariant.searched in
    grind arith
