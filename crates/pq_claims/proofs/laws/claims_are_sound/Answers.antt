use Rattle.std.proofs.Common.{subst}
use Rattle.pq_claims.specs.Claims.{AreSound}
use Rattle.pq_claims.specs.aux.Table.{holder_in}
use Rattle.pq_claims.proofs.Keeping.{kept_sound}
use Rattle.pq_claims.proofs.laws.claims_are_sound.Goals as goal

pub returns : goal.returns
returns g c = record { sound = subst (λ v. AreSound v) c.claims.view_is (kept_sound c.claims.inside.next (λ k. holder_in g.R.Key.Ord.cmp c.claims.inside.holders.entries k) c.claims.inside.runs.entries c.claims.invariant) }
