use Rattle.pq_checks.specs.Faults.{table}
use Rattle.pq_checks.proofs.EachLine.{each_line}
use Rattle.pq_checks.proofs.laws.each_fault.Goals as goal

pub returns : goal.returns
returns c = record { each = λ s nodes f. each_line (table s nodes) f }
