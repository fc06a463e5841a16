use Rattle.pq_core.proofs.laws.store_counts_starts.Goals as goal

pub returns : goal.returns
returns g c log x = x.each
