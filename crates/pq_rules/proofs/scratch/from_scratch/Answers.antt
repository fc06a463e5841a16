use Rattle.std.proofs.Common.{[], ◌≡◌, ◌<◌, arith, sym}
use Rattle.std.proofs.lemmas.Grind.{common_steps}
use Rattle.pq_rules.specs.Turns.{over}
use Rattle.pq_rules.specs.Value.{Means}
use Rattle.pq_rules.specs.aux.AnswerTable.{Finished, entry, finished}
use Rattle.pq_rules.specs.aux.Evaluator.{frame_keys}
use Rattle.pq_rules.specs.Relations.{In}
use Rattle.pq_rules.proofs.Rings.{each_in}
use Rattle.pq_rules.proofs.Weight.{Exact}
use Rattle.pq_rules.proofs.Finding.{found_in, not_found, no_places}
use Rattle.pq_rules.proofs.Placed.{placed_begun, placed_none}
use Rattle.pq_rules.proofs.Glue.{first, ended, above_zero}
use Rattle.pq_rules.proofs.scratch.from_scratch.Goals as goal

pub steps-init : goal.steps-init
steps-init g c =
    let m = over g.R.Key.Ord.cmp (g.R.Rules.machine c.args.rules.now) c.args.inputs.now.files in
    let laws = g.met.R.Rules.lawful c.args.rules.now c.args.inputs.now.files in
    let exact : Exact g.R.Key.Ord.cmp = record { total = g.met.R.Key.Ord.total; exact = laws.exact } in
    let high : 0 < (g.R.Rules.machine c.args.rules.now).level c.args.key.now = above_zero c.level.result _ c.if-level-eq0.false c.level.ensures.level in
    let begins = c.in_ok-begin.ensures {u = tt} in
    let empty : c.new-stack.result.items ≡ [] = c.new-stack.ensures.items in
    let none : In c.in_ok-copy_key.field-0 (frame_keys c.new-stack.result.items) → ⊥ = rw empty (λ i. i) in
    record {
      invariant = first m (g.R.Rules.reach c.args.rules.now c.args.inputs.now.files) laws exact c.args.key.now
          (finished c.new-found.result) (finished c.begin.new.found) c.new-stack.result.items c.begin.new.stack.items c.in_ok-copy_key.field-0
          high (c.in_ok-copy_key.ensures {u = tt}).copy (no_places c.new-found.result c.new-found.ensures.places) empty
          (begins.applied c.args.inputs.now.files);
      placed = placed_begun m g.R.Key.Ord.cmp exact c.new-found.result.started c.begin.new.found.started c.in_ok-copy_key.field-0
          (m.start c.in_ok-copy_key.field-0) (finished c.new-found.result) (finished c.begin.new.found) c.new-stack.result.items c.begin.new.stack.items
          begins.started none (begins.applied c.args.inputs.now.files)
          (rw empty (placed_none g.R.Key.Ord.cmp c.new-found.result.started));
    }

pub unreachable-requires : goal.unreachable-requires
unreachable-requires g c =
    let m = over g.R.Key.Ord.cmp (g.R.Rules.machine c.args.rules.now) c.args.inputs.now.files in
    let laws = g.met.R.Rules.lawful c.args.rules.now c.args.inputs.now.files in
    let exact : Exact g.R.Key.Ord.cmp = record { total = g.met.R.Key.Ord.total; exact = laws.exact } in
    let empty : c.steps.stack.items ≡ [] = grind (arith, common_steps) in
    not_found g.R.Key.Ord.cmp exact c.args.key.now c.steps.found.places c.steps.found.answers (sym (c.in-None.ensures {u = tt}).place)
    (ended m (g.R.Rules.reach c.args.rules.now c.args.inputs.now.files) laws exact c.args.key.now (finished c.steps.found) c.steps.stack.items
    c.steps.invariant.invariant empty)

pub returns : goal.returns
returns g c =
    let m = over g.R.Key.Ord.cmp (g.R.Rules.machine c.args.rules.now) c.args.inputs.now.files in
    let laws = g.met.R.Rules.lawful c.args.rules.now c.args.inputs.now.files in
    let exact : Exact g.R.Key.Ord.cmp = record { total = g.met.R.Key.Ord.total; exact = laws.exact } in
    record {
      value = each_in (λ (f : Finished g.row.R-Key.Denot g.row.R-Value.Denot). Means m f.key f.answer) (entry c.args.key.now c.take.result) (finished c.steps.found) c.steps.invariant.invariant.answered
          (found_in g.R.Key.Ord.cmp exact c.args.key.now c.in-Some-place_of.place c.take.result c.steps.found.places c.steps.found.answers
          (sym c.in-Some-place_of.ensures.place) c.take.ensures.answer);
    }
