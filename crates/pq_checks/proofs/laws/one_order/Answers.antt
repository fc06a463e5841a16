use Rattle.pq_checks.proofs.OneOrder.{ordered_in_order, members_in_order, only_in_order}
use Rattle.pq_checks.proofs.laws.one_order.Goals as goal

pub returns : goal.returns
returns g c = record {
  ordered = ordered_in_order g.met.T.Ord.total;
  members = members_in_order g.met.T.Ord.total;
  only = only_in_order g.met.T.Ord.total;
}
