use Rattle.std.proofs.Common.{◌∙◌, refl}
use Rattle.std.specs.Option.{option_copied}
use Rattle.pq_view.proofs.Endings.{chosen_ended, chosen_next, forward}
use Rattle.pq_view.proofs.tails.nearest.Goals as goal

pub range-path-items-requires : goal.range-path-items-requires
range-path-items-requires c = forward c.args.name.now c.in_ok-from.from c.in_ok-to.to c.in_ok-from.ensures.bound c.in_ok-to.ensures.bound

pub paths-preserved : goal.paths-preserved
paths-preserved c =
    chosen_next c.args.importer.now (option_copied c.paths.best) (option_copied c.nearer-best.result) c.in-Some.path.now c.paths.path-iterator c.next.new.self _
    (c.in-Some.ensures {u = tt}).steps refl c.nearer-best.ensures ∙ c.paths.invariant

pub returns : goal.returns
returns c = record {
  chosen = chosen_ended c.args.importer.now (option_copied c.paths.best) c.paths.path-iterator (c.in-None.ensures {u = tt}).steps.0 ∙ c.paths.invariant;
}
