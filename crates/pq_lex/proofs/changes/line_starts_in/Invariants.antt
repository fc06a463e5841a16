use Rattle.std.proofs.Common.{◌≡◌, ◌+◌, ◌≤◌}
use Rattle.pq_lex.specs.Lines.{line_number}
use Rattle.pq_lex.proofs.changes.line_starts_in.Given as goal

abbrev pub invariant-loop-i : goal.invariant-loop-i
invariant-loop-i l = (line_number l.bytes l.at + l.count ≡ line_number l.bytes l.i) × (l.at + l.count ≤ l.i)
