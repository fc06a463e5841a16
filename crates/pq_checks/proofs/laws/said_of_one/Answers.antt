use Rattle.std.proofs.Common.{[]}
use Rattle.pq_checks.proofs.SaidAfter.{said_is_of_one, of_one_is_said}
use Rattle.pq_checks.proofs.laws.said_of_one.Goals as goal

pub returns : goal.returns
returns g c = λ f xs x. (said_is_of_one f [] xs x, of_one_is_said f [] xs x)
