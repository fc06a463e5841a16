use Rattle.pq_view.proofs.KnownNames.{names_more}
use Rattle.pq_view.proofs.known.push_names.Goals as goal

pub roots-preserved : goal.roots-preserved
roots-preserved c =
    names_more c.args.path.now c.as_str.result.now c.root-item.result c.args.roots.now c.args.names.now.items c.roots.names.items c.push_name.new.names.items c.roots.root-index
    c.roots-test.true c.roots.invariant c.as_str.ensures.same c.root-item.is c.in_ok-push_name.ensures.added
