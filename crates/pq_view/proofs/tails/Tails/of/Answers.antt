use Rattle.std.proofs.Common.{ap, ◌∙◌}
use Rattle.std.specs.Prelude.{bytes_eq}
use Rattle.std.specs.List.{list_any}
use Rattle.std.proofs.lemmas.List.{take_all}
use Rattle.pq_view.proofs.Endings.{same_paths, paths_more}
use Rattle.pq_view.proofs.tails.Tails.of.Goals as goal

pub paths-preserved : goal.paths-preserved
paths-preserved c = λ q.
    paths_more q c.paths.tails c.add.new.self c.args.paths.now c.paths.path-index c.path-item.result c.in_ok-copy.field-0
    c.paths-test.true c.path-item.is c.in_ok-copy.ensures.copy (c.in_ok-add.ensures.added q) (c.paths.invariant q)

pub returns : goal.returns
returns c = record {
  paths = λ q. same_paths c.paths.tails c.args.paths.now q (c.paths.invariant q ∙ ap (list_any (bytes_eq q)) (take_all c.paths.path-index c.args.paths.now c.paths-test.false));
}
