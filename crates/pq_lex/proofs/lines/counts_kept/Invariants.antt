use Rattle.pq_lex.proofs.Counts.{CountedTo}
use Rattle.pq_lex.proofs.lines.counts_kept.Given as goal

abbrev pub invariant-loop-block : goal.invariant-loop-block
invariant-loop-block l = CountedTo l.units l.counts.items l.block l.count
