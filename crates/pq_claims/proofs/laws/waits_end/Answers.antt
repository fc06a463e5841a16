use Rattle.std.proofs.Common.{subst, ◌≡◌, None, ℕ, List}
use Rattle.pq_rules.specs.Relations.{Leads}
use Rattle.pq_claims.specs.Claims.{Hold, WaitsFor, hold_of}
use Rattle.pq_claims.specs.aux.Table.{holder_in}
use Rattle.pq_claims.proofs.Ending.{waits_end}
use Rattle.pq_claims.proofs.laws.waits_end.Goals as goal

pub returns : goal.returns
returns g c = record {
  ends = subst (λ (v : List (ℕ × Hold g.row.R-Key.Denot)). (r : ℕ) → (s : ℕ) × Leads (WaitsFor v) r s × ((hold_of v s).wait ≡ None)) c.claims.view_is
      (waits_end c.claims.inside.next (λ k. holder_in g.R.Key.Ord.cmp c.claims.inside.holders.entries k) c.claims.inside.runs.entries c.claims.invariant);
}
