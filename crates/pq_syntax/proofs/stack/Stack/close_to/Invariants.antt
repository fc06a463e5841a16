use Rattle.std.proofs.Common.{◌≡◌, reverse, vec_len}
use Rattle.pq_syntax.specs.Stacks.{closed}
use Rattle.pq_syntax.proofs.stack.Stack.close_to.Given as goal

abbrev pub invariant-open : goal.invariant-open
invariant-open g l = closed l.depth (reverse l.self-inside.entries.items) ≡ closed l.depth l.fn.self

abbrev pub decreases-open : goal.decreases-open
decreases-open g l = vec_len l.self-inside.entries
