use Rattle.std.proofs.Common.{[], refl}
use Rattle.std.proofs.lemmas.Slice.Eq.{slice_eq-Decides}
use Rattle.pq_rules.proofs.Order.{same_if}
use Rattle.pq_rules.proofs.answers.same_keys.Goals as goal

pub returns : goal.returns
returns g c =
    let laws = g.met.R.Rules.lawful c.args._rules.now [] in
    slice_eq-Decides (λ a b. same_if g.R.Key.Ord.cmp g.met.R.Key.Ord.total laws.exact a b (g.R.Key.Ord.cmp a b)
    (g.R.Key.PartialEq.eq a b) refl (g.met.R.Key.Ord.matches_eq a b)) c.args.a.now c.args.b.now c.eq.result c.eq.ensures
