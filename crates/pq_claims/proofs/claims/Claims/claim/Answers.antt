use Rattle.std.proofs.Common.{subst, refl, List, ℕ}
use Rattle.pq_claims.specs.Claims.{Hold, Claimed}
use Rattle.pq_claims.specs.aux.Table.{holder_in, shown}
use Rattle.pq_claims.proofs.claims.Claims.claim.Goals as goal

pub returns : goal.returns
returns g c = record {
  claimed = subst (λ (v : List (ℕ × Hold g.row.R-Key.Denot)). Claimed g.R.Key.Ord.cmp c.args.run c.args.key.now c.claim_in-claimed.result v
      (shown (λ k. holder_in g.R.Key.Ord.cmp c.claim_in-claimed.new.holders.entries k) c.claim_in-claimed.new.runs.entries)) c.self.view_is
      (subst (λ (r : ℕ). Claimed g.R.Key.Ord.cmp r c.args.key.now c.claim_in-claimed.result (shown (λ k. holder_in g.R.Key.Ord.cmp c.self.inside.holders.entries k) c.self.inside.runs.entries)
      (shown (λ k. holder_in g.R.Key.Ord.cmp c.claim_in-claimed.new.holders.entries k) c.claim_in-claimed.new.runs.entries)) c.number.ensures c.claim_in-claimed.ensures.claimed);
}
