use Rattle.std.proofs.Common.{◌≤◌, drop}
use Rattle.pq_syntax.proofs.SideBySide.{Goes}
use Rattle.pq_syntax.proofs.parser.texts.side_by_side.Given as goal

abbrev pub invariant-loop-token : goal.invariant-loop-token
invariant-loop-token l = record { ordered : l.start ≤ l.end; goes : Goes l.start l.end (drop l.token-index l.tokens) l.tokens }
