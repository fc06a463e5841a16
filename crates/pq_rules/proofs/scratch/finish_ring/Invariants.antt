use Rattle.std.proofs.Common.{◌≡◌, ◌≤◌, ◌++◌, List, length, slice_get, Some, vec_len}
use Rattle.pq_rules.specs.declared.turn.Answer.TheVariants.{Cycle}
use Rattle.pq_rules.specs.declared.scratch.Frame.{Frame}
use Rattle.pq_rules.specs.aux.AnswerTable.{Covers, finished}
use Rattle.pq_rules.specs.aux.Evaluator.{ring_entries}
use Rattle.pq_rules.proofs.scratch.finish_ring.Given as goal

abbrev pub invariant-ring : goal.invariant-ring
invariant-ring g l = record {
  within : l.place ≤ length l.stack.items;
  answers : l.found.answers ≡ l.initial.found.answers;
  started : l.found.started ≡ l.initial.found.started;
  far : (ring : List g.row.R-Key.Denot) → slice_get l.initial.found.answers l.answer ≡ Some (Cycle ring)
      → (popped : List (Frame g.row.R-Key.Denot g.row.R-Part.Denot)) × (l.initial.stack.items ≡ l.stack.items ++ popped)
      × Covers (finished l.initial.found ++ ring_entries ring popped) (finished l.found);
}

abbrev pub decreases-ring : goal.decreases-ring
decreases-ring g l = vec_len l.stack
