use Rattle.std.proofs.Common.{arith, ◌∙◌, List, ap, slice_get, refl}
use Rattle.std.proofs.lemmas.Grind.{common_steps}
use Rattle.pq_rules.specs.declared.turn.Answer.{Answer}
use Rattle.pq_rules.specs.declared.turn.Answer.TheVariants.{Cycle}
use Rattle.pq_rules.specs.aux.AnswerTable.{finished}
use Rattle.pq_rules.proofs.RingEntries.{far_start, far_on}
use Rattle.pq_rules.proofs.scratch.finish_ring.Goals as goal

pub ring-init : goal.ring-init
ring-init g c = record {
  within = c.requires.within;
  answers = refl;
  started = refl;
  far = λ ring s. far_start ring c.args.stack.now.items (finished c.args.found.now);
}

pub ring-preserved-in-Some : goal.ring-preserved-in-Some
ring-preserved-in-Some g c = record {
  within = grind (arith, common_steps);
  answers = c.in_ok-assign.ensures.answers ∙ c.ring.invariant.answers;
  started = c.in_ok-assign.ensures.started ∙ c.ring.invariant.started;
  far = λ ring s. far_on ring c.args.stack.now.items (finished c.args.found.now) c.ring.stack.items c.pop.new.self.items (finished c.ring.found)
      (finished c.assign.new.found) c.in-Some.frame (c.ring.invariant.far ring s) c.in-Some.ensures.items
      (c.in_ok-assign.ensures.given (Cycle ring)
      (ap (λ (x : List (Answer g.row.R-Key.Denot g.row.R-Value.Denot)). slice_get x c.args.answer) c.ring.invariant.answers ∙ s));
}
