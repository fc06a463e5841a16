use Rattle.std.proofs.Common.{◌++◌, ◌∷◌, []}
use Rattle.std.proofs.lemmas.Result.{IfOk-weaker}
use Rattle.pq_rules.specs.Turns.{over}
use Rattle.pq_rules.specs.aux.AnswerTable.{finished}
use Rattle.pq_rules.specs.aux.Evaluator.{frame_keys}
use Rattle.pq_rules.proofs.Weight.{Exact}
use Rattle.pq_rules.proofs.Placed.{placed_kept}
use Rattle.pq_rules.proofs.Steps.{grown_going, grown}
use Rattle.pq_rules.proofs.scratch.step.Goals as goal

pub deliver-requires-clause-going : goal.deliver-requires-clause-going
deliver-requires-clause-going g c =
    let m = over g.R.Key.Ord.cmp (g.R.Rules.machine c.args.rules.now) c.args.inputs.now.files in
    let laws = g.met.R.Rules.lawful c.args.rules.now c.args.inputs.now.files in
    let exact : Exact g.R.Key.Ord.cmp = record { total = g.met.R.Key.Ord.total; exact = laws.exact } in
    record {
      invariant = grown_going m (g.R.Rules.reach c.args.rules.now c.args.inputs.now.files) laws exact c.args.root.now
          (finished c.args.found.now) (finished c.known.new.found) (c.args.stack.now.items ++ c.args.frame ∷ [])
          c.in_ok-place.ensures.grown c.requires.invariant;
      placed = placed_kept g.R.Key.Ord.cmp c.args.found.now.started c.known.new.found.started (frame_keys (c.args.stack.now.items ++ c.args.frame ∷ []))
          c.known.ensures.started c.requires.placed;
    }

pub ask_first-requires-clause-going : goal.ask_first-requires-clause-going
ask_first-requires-clause-going g c =
    let m = over g.R.Key.Ord.cmp (g.R.Rules.machine c.args.rules.now) c.args.inputs.now.files in
    let laws = g.met.R.Rules.lawful c.args.rules.now c.args.inputs.now.files in
    let exact : Exact g.R.Key.Ord.cmp = record { total = g.met.R.Key.Ord.total; exact = laws.exact } in
    record {
      invariant = grown_going m (g.R.Rules.reach c.args.rules.now c.args.inputs.now.files) laws exact c.args.root.now
          (finished c.args.found.now) (finished c.known.new.found) (c.args.stack.now.items ++ c.args.frame ∷ [])
          c.in_ok-place.ensures.grown c.requires.invariant;
      placed = placed_kept g.R.Key.Ord.cmp c.args.found.now.started c.known.new.found.started (frame_keys (c.args.stack.now.items ++ c.args.frame ∷ []))
          c.known.ensures.started c.requires.placed;
    }

pub returns-in-Some : goal.returns-in-Some
returns-in-Some g c =
    let m = over g.R.Key.Ord.cmp (g.R.Rules.machine c.args.rules.now) c.args.inputs.now.files in
    let laws = g.met.R.Rules.lawful c.args.rules.now c.args.inputs.now.files in
    let exact : Exact g.R.Key.Ord.cmp = record { total = g.met.R.Key.Ord.total; exact = laws.exact } in
    IfOk-weaker c.deliver.result _ _ (λ _ proceeds. record {
      goes = grown m (g.R.Rules.reach c.args.rules.now c.args.inputs.now.files) laws exact c.args.root.now
          (finished c.args.found.now) (finished c.known.new.found) (c.args.stack.now.items ++ c.args.frame ∷ [])
          (finished c.deliver.new.found) c.deliver.new.stack.items c.in_ok-place.ensures.grown proceeds.goes;
      placed = proceeds.placed;
    }) c.deliver.ensures

pub returns-in-None : goal.returns-in-None
returns-in-None g c =
    let m = over g.R.Key.Ord.cmp (g.R.Rules.machine c.args.rules.now) c.args.inputs.now.files in
    let laws = g.met.R.Rules.lawful c.args.rules.now c.args.inputs.now.files in
    let exact : Exact g.R.Key.Ord.cmp = record { total = g.met.R.Key.Ord.total; exact = laws.exact } in
    IfOk-weaker c.ask_first.result _ _ (λ _ proceeds. record {
      goes = grown m (g.R.Rules.reach c.args.rules.now c.args.inputs.now.files) laws exact c.args.root.now
          (finished c.args.found.now) (finished c.known.new.found) (c.args.stack.now.items ++ c.args.frame ∷ [])
          (finished c.ask_first.new.found) c.ask_first.new.stack.items c.in_ok-place.ensures.grown proceeds.goes;
      placed = proceeds.placed;
    }) c.ask_first.ensures
