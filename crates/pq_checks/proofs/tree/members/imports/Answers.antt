use Rattle.std.proofs.Common.{◌∙◌}
use Rattle.pq_checks.specs.Members.{import_at}
use Rattle.pq_checks.specs.aux.Spots.{in_spot}
use Rattle.pq_checks.proofs.Passes.{each_more, each_all}
use Rattle.pq_checks.proofs.Spotting.{spotted}
use Rattle.pq_checks.proofs.tree.members.imports.Goals as goal

pub spots-preserved : goal.spots-preserved
spots-preserved c = each_more (in_spot import_at) _ _ _ _ _ _ c.spots-test.true c.index-spots-i.is c.in_ok-push_import.ensures c.spots.invariant

pub returns : goal.returns
returns c = record { imports = each_all (in_spot import_at) _ _ _ _ c.spots-test.false c.spots.invariant ∙ spotted import_at c.args.spots.now }
