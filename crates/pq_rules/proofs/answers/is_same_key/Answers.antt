use Rattle.std.proofs.Common.{[], refl, ◌∙◌}
use Rattle.pq_rules.proofs.Order.{same_if}
use Rattle.pq_rules.proofs.answers.is_same_key.Goals as goal

pub returns : goal.returns
returns g c =
    let laws = g.met.R.Rules.lawful c.args._rules.now [] in
    same_if g.R.Key.Ord.cmp g.met.R.Key.Ord.total laws.exact c.args.a.now c.args.b.now
    (g.R.Key.Ord.cmp c.args.a.now c.args.b.now) c.eq.result refl
    (c.eq.ensures ∙ g.met.R.Key.Ord.matches_eq c.args.a.now c.args.b.now)
