use Rattle.pq_core.specs.aux.Rising.{NoneOf}
use Rattle.pq_core.specs.aux.Accounts.{HasMade}
use Rattle.pq_core.proofs.store.in_accounts.first_made.Given as goal

abbrev pub invariant-loop-i : goal.invariant-loop-i
invariant-loop-i g l = NoneOf HasMade l.accounts.items l.i
