use Rattle.std.proofs.Common.{[], ◌≡◌, refl, Some, None, subst, List, ℕ}
use Rattle.pq_claims.specs.Claims.{Hold, Releases}
use Rattle.pq_claims.specs.aux.Table.{holder_in, held_at, shown}
use Rattle.pq_claims.proofs.Keeping.{kept_same}
use Rattle.pq_claims.proofs.Answering.{released_kept, released_shown, released_none, released_none_shown}
use Rattle.pq_claims.proofs.claims.Claims.release.Goals as goal

pub invariant_of-self : goal.invariant_of-self
invariant_of-self g c =
    released_kept g.R.Key.Ord.cmp g.met.R.Key.Ord.total (g.met.R.Rules.lawful c.self.inside.rules []).exact c.self.inside.next c.self.inside.holders.entries c.take_holder.new.holders.entries
    c.self.inside.runs.entries c.pop_key.new.runs.entries c.number.result c.in-Some.key c.self.invariant c.in-Some.ensures.keys c.in-Some.ensures.set c.take_holder.ensures

pub returns-in-Some : goal.returns-in-Some
returns-in-Some g c = record {
  released = subst (λ (v : List (ℕ × Hold g.row.R-Key.Denot)). Releases c.args.run (Some c.in-Some.key) v (shown (λ k. holder_in g.R.Key.Ord.cmp c.take_holder.new.holders.entries k) c.pop_key.new.runs.entries)) c.self.view_is
      (subst (λ (r : ℕ). Releases r (Some c.in-Some.key) (shown (λ k. holder_in g.R.Key.Ord.cmp c.self.inside.holders.entries k) c.self.inside.runs.entries)
      (shown (λ k. holder_in g.R.Key.Ord.cmp c.take_holder.new.holders.entries k) c.pop_key.new.runs.entries)) c.number.ensures
      (released_shown g.R.Key.Ord.cmp g.met.R.Key.Ord.total (g.met.R.Rules.lawful c.self.inside.rules []).exact c.self.inside.holders.entries c.take_holder.new.holders.entries
      c.self.inside.runs.entries c.pop_key.new.runs.entries c.number.result c.in-Some.key c.in-Some.ensures.keys c.in-Some.ensures.set c.take_holder.ensures));
}

pub invariant_of-self-in-None : goal.invariant_of-self-in-None
invariant_of-self-in-None g c =
    kept_same c.self.inside.next (λ k. holder_in g.R.Key.Ord.cmp c.self.inside.holders.entries k) (λ k. holder_in g.R.Key.Ord.cmp c.self.inside.holders.entries k)
    (λ r. held_at c.self.inside.runs.entries r) (λ r. held_at c.pop_key.new.runs.entries r) (λ k. refl)
    (released_none g.R.Key.Ord.cmp g.met.R.Key.Ord.total (g.met.R.Rules.lawful c.self.inside.rules []).exact c.self.inside.runs.entries c.pop_key.new.runs.entries c.number.result None refl
    c.in-None.ensures.keys c.in-None.ensures.set) c.self.invariant

pub returns-in-None : goal.returns-in-None
returns-in-None g c = record {
  released = subst (λ (v : List (ℕ × Hold g.row.R-Key.Denot)). Releases c.args.run None v (shown (λ k. holder_in g.R.Key.Ord.cmp c.self.inside.holders.entries k) c.pop_key.new.runs.entries)) c.self.view_is
      (subst (λ (r : ℕ). Releases r None (shown (λ k. holder_in g.R.Key.Ord.cmp c.self.inside.holders.entries k) c.self.inside.runs.entries)
      (shown (λ k. holder_in g.R.Key.Ord.cmp c.self.inside.holders.entries k) c.pop_key.new.runs.entries)) c.number.ensures
      (released_none_shown (λ k. holder_in g.R.Key.Ord.cmp c.self.inside.holders.entries k) c.self.inside.runs.entries c.pop_key.new.runs.entries c.number.result c.in-None.ensures.none
      (released_none g.R.Key.Ord.cmp g.met.R.Key.Ord.total (g.met.R.Rules.lawful c.self.inside.rules []).exact c.self.inside.runs.entries c.pop_key.new.runs.entries c.number.result None refl
      c.in-None.ensures.keys c.in-None.ensures.set)));
}
