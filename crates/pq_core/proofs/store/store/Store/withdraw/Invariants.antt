use Rattle.pq_core.proofs.WithdrawEach.{WithdrewBelow}
use Rattle.pq_core.proofs.store.store.Store.withdraw.Given as goal

abbrev pub invariant-requests : goal.invariant-requests
invariant-requests g l = WithdrewBelow g.R.Key.Ord.cmp g.R.Rules.machine g.M.Stamp.point l.client l.label l.number l.some l.initial.self l.self
