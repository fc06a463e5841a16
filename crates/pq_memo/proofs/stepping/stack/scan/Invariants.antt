use Rattle.std.proofs.Common.{◌≡◌, ◌<◌, ◌≤◌, ℕ, Some}
use Rattle.pq_memo.specs.Frames.{frame_keys}
use Rattle.pq_memo.specs.aux.Stack.{nth}
use Rattle.pq_memo.proofs.stepping.stack.scan.Given as goal

abbrev pub invariant-loop-place : goal.invariant-loop-place
invariant-loop-place g l = (i : ℕ) → l.from ≤ i → i < l.place → nth (frame_keys l.frames) i ≡ Some l.key → ⊥
