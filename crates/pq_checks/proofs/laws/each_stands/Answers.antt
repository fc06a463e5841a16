use Rattle.pq_checks.proofs.EachStands.{all_stand}
use Rattle.pq_checks.proofs.laws.each_stands.Goals as goal

pub returns : goal.returns
returns c = record { stands = all_stand }
