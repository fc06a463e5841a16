use Rattle.std.proofs.Common.{sym, ◌∙◌, ◌++◌, ◌∷◌, [], refl}
use Rattle.std.proofs.lemmas.Result.{IfOk-weaker}
use Rattle.pq_rules.specs.Turns.{over}
use Rattle.pq_rules.specs.aux.AnswerTable.{finished}
use Rattle.pq_rules.proofs.Weight.{Exact}
use Rattle.pq_rules.proofs.Glue.{passed, resumed}
use Rattle.pq_rules.proofs.Placed.{placed_frames, placed_resumed}
use Rattle.pq_rules.proofs.scratch.deliver.Goals as goal

pub returns-then-passes_on : goal.returns-then-passes_on
returns-then-passes_on g c =
    let m = over g.R.Key.Ord.cmp (g.R.Rules.machine c.args.rules.now) c.args._inputs.now.files in
    let laws = g.met.R.Rules.lawful c.args.rules.now c.args._inputs.now.files in
    let exact : Exact g.R.Key.Ord.cmp = record { total = g.met.R.Key.Ord.total; exact = laws.exact } in
    IfOk-weaker c.assign.result _ _ (λ _ given. record {
      goes = passed m (g.R.Rules.reach c.args.rules.now c.args._inputs.now.files) laws exact c.args._root.now
          (finished c.args.found.now) (finished c.assign.new.found) c.args.stack.now.items c.args.frame c.answer.result.now
          c.requires.going.invariant (c.requires.means c.answer.result.now c.answer.ensures.answer) (sym c.passes_on.ensures ∙ c.if-passes_on.true)
          (given c.answer.result.now c.answer.ensures.answer);
      placed = placed_frames g.R.Key.Ord.cmp c.args.found.now.started c.assign.new.found.started c.args.stack.now.items (c.args.frame ∷ [])
          (c.args.stack.now.items ++ c.args.frame ∷ []) c.assign.ensures.started refl c.requires.going.placed;
    }) c.assign.ensures.given

pub returns-else-passes_on : goal.returns-else-passes_on
returns-else-passes_on g c =
    let m = over g.R.Key.Ord.cmp (g.R.Rules.machine c.args.rules.now) c.args._inputs.now.files in
    let laws = g.met.R.Rules.lawful c.args.rules.now c.args._inputs.now.files in
    let exact : Exact g.R.Key.Ord.cmp = record { total = g.met.R.Key.Ord.total; exact = laws.exact } in
    IfOk-weaker c.resume.result _ _ (λ _ applies. record {
      goes = resumed m (g.R.Rules.reach c.args.rules.now c.args._inputs.now.files) laws exact c.args._root.now
          (finished c.args.found.now) (finished c.resume.new.found) c.args.stack.now.items c.resume.new.stack.items c.args.frame c.answer.result.now
          c.requires.going.invariant (c.requires.means c.answer.result.now c.answer.ensures.answer) (sym c.passes_on.ensures ∙ c.if-passes_on.false)
          (applies c.args._inputs.now.files c.answer.result.now c.answer.ensures.answer);
      placed = placed_resumed m g.R.Key.Ord.cmp c.args.found.now.started c.resume.new.found.started c.args.frame (m.advance c.args.frame.part c.answer.result.now)
          (finished c.args.found.now) (finished c.resume.new.found) c.args.stack.now.items c.resume.new.stack.items c.resume.ensures.started
          (applies c.args._inputs.now.files c.answer.result.now c.answer.ensures.answer) c.requires.going.placed;
    }) c.resume.ensures.applied
