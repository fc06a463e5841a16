use Rattle.std.proofs.Common.{[]}
use Rattle.pq_rules.proofs.Weight.{Exact}
use Rattle.pq_memo.proofs.Indexed.{noted_by}
use Rattle.pq_memo.proofs.stepping.stack.note.Goals as goal

pub returns-clause-noted : goal.returns-clause-noted
returns-clause-noted g c =
    let laws = g.met.R.Rules.lawful c.args.rules.now [] in
    let exact : Exact g.R.Key.Ord.cmp = record { total = g.met.R.Key.Ord.total; exact = laws.exact } in
    noted_by g.R.Key.Ord.cmp exact c.args.places.now.entries c.put_place.new.places.entries c.args.key.now c.in_ok-copy.copy c.args.place
    (c.in_ok-copy.ensures {u = tt}).copy c.in_ok-put_place.ensures.put
