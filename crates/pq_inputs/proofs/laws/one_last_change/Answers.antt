use Rattle.pq_inputs.proofs.Last.{last_is_one}
use Rattle.pq_inputs.proofs.laws.one_last_change.Goals as goal

pub returns-clause-file : goal.returns-clause-file
returns-clause-file c = λ history name a b of_a of_b. last_is_one a b of_a of_b

pub returns-clause-durability : goal.returns-clause-durability
returns-clause-durability c = λ history durability a b of_a of_b. last_is_one a b of_a of_b
