use Rattle.pq_core.proofs.CorePassing.{lanes_passed}
use Rattle.pq_core.proofs.lanes.passing.pass_on.Goals as goal

pub unreachable-requires : goal.unreachable-requires
unreachable-requires g c = (c.in-None.ensures {u = tt}).collects.0 c.requires.0 c.requires.1 c.requires.2

pub returns-in-Some-clause-passes : goal.returns-in-Some-clause-passes
returns-in-Some-clause-passes g c =
    let e = c.in-Some.ensures {u = tt} in
    record {
      rules = e.rules;
      inputs = e.inputs;
      places = e.places;
      claims = e.claims;
      stands = e.stands;
      counted = e.counted;
      awaits = λ l s h. lanes_passed g.R.Key.Ord.cmp (g.R.Rules.machine c.args.store.now.rules) g.M.Stamp.point g.O.Outbox.puts c.args.store.now c.take_made.new.self c.args.lanes.now c.fill_in.new.lanes l c.args.client c.in-Some.ready s h e.collects c.fill_in.ensures;
    }
