use Rattle.std.proofs.Common.{◌∙◌}
use Rattle.pq_checks.specs.Members.{name_at}
use Rattle.pq_checks.specs.aux.Spots.{in_spot}
use Rattle.pq_checks.proofs.Passes.{each_more, each_all}
use Rattle.pq_checks.proofs.Spotting.{spotted}
use Rattle.pq_checks.proofs.tree.members.reserved_names.Goals as goal

pub spots-preserved : goal.spots-preserved
spots-preserved c = each_more (in_spot name_at) _ _ _ _ _ _ c.spots-test.true c.index-spots-i.is c.in_ok-push_reserved_names.ensures c.spots.invariant

pub returns : goal.returns
returns c = record { names = each_all (in_spot name_at) _ _ _ _ c.spots-test.false c.spots.invariant ∙ spotted name_at c.args.spots.now }
