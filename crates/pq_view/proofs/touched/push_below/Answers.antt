use Rattle.std.specs.BTreeMap.{get_by_text}
use Rattle.pq_view.proofs.TouchedNames.{open_more}
use Rattle.pq_view.proofs.touched.push_below.Goals as goal

pub roots-preserved : goal.roots-preserved
roots-preserved c =
    open_more (get_by_text c.args.documents.now) c.args.name.now c.as_str.result.now c.root-item.result c.args.roots.now c.args.names.now.items c.roots.names.items c.push_open.new.names.items c.roots.root-index
    c.roots-test.true c.roots.invariant c.as_str.ensures.same c.root-item.is c.in_ok-push_open.ensures.added
