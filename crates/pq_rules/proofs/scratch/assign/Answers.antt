use Rattle.std.proofs.Common.{[]}
use Rattle.std.proofs.lemmas.Result.{IfOk-weaker}
use Rattle.pq_rules.proofs.Weight.{Exact}
use Rattle.pq_rules.proofs.Finding.{shared}
use Rattle.pq_rules.proofs.scratch.assign.Goals as goal

pub returns-clause-given : goal.returns-clause-given
returns-clause-given g c =
    let laws = g.met.R.Rules.lawful c.args._rules.now [] in
    let exact : Exact g.R.Key.Ord.cmp = record { total = g.met.R.Key.Ord.total; exact = laws.exact } in
    IfOk-weaker c.point.result _ _ (λ _ places a s.
    shared g.R.Key.Ord.cmp exact c.args.key c.args.place a c.args.found.now c.point.new.self
    places c.point.ensures.answers s) c.point.ensures.places
