use Rattle.std.proofs.Common.{sym}
use Rattle.pq_view.proofs.BelowRoots.{named, path_unnamed, unnamed}
use Rattle.pq_view.proofs.names.name_below.Goals as goal

pub returns-then-is_path : goal.returns-then-is_path
returns-then-is_path c = record {
  name = sym (path_unnamed c.args.path.now c.args.root.now c.in-Some.name.now (c.in-Some.ensures {u = tt}).rest (sym (c.if-is_path.ensures {u = tt})));
}

pub returns-else-is_path : goal.returns-else-is_path
returns-else-is_path c = record {
  name = sym (named c.args.path.now c.args.root.now c.in-Some.name.now (c.in-Some.ensures {u = tt}).rest (sym (c.if-is_path.ensures {u = tt})));
}

pub returns-in-None : goal.returns-in-None
returns-in-None c = record {
  name = sym (unnamed c.args.path.now c.args.root.now (λ n e. absurd ((c.in-None.ensures {u = tt}).rest n e)));
}
