use Rattle.pq_core.proofs.laws.starts_are_counted.Goals as goal

pub returns : goal.returns
returns g c log x = x.each
