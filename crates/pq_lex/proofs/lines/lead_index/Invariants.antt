use Rattle.std.proofs.Common.{◌≡◌, ◌≤◌}
use Rattle.pq_lex.specs.aux.LineMarks.{lead_index}
use Rattle.pq_lex.proofs.lines.lead_index.Given as goal

abbrev pub invariant-loop-first : goal.invariant-loop-first
invariant-loop-first l = record { within : l.first ≤ l.at; is : lead_index l.units l.at ≡ lead_index l.units l.first }

abbrev pub decreases-loop-first : goal.decreases-loop-first
decreases-loop-first l = l.first
