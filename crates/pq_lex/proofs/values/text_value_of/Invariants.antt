use Rattle.std.proofs.Common.{◌≡◌, ◌≤◌, ◌+◌, ◌-◌, ◌++◌, ℕ, length}
use Rattle.pq_lex.specs.Values.{value_from, text_value_of}
use Rattle.pq_lex.proofs.values.text_value_of.Given as goal

abbrev pub invariant-loop-at : goal.invariant-loop-at
invariant-loop-at l = record { fuel : ℕ; enough : length l.word ≤ l.at + fuel; goes : text_value_of l.word ≡ l.value.items ++ value_from fuel l.word l.at }

abbrev pub decreases-loop-at : goal.decreases-loop-at
decreases-loop-at l = length l.word - l.at
