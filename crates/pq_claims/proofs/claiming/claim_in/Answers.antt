use Rattle.std.proofs.Common.{[], refl, sym, ◌∙◌, List, ℕ}
use Rattle.pq_claims.specs.declared.holders.Holder.{Holder}
use Rattle.pq_claims.specs.aux.Table.{Keeps, held_at, holder_in}
use Rattle.pq_claims.proofs.Keeping.{kept_same}
use Rattle.pq_claims.proofs.Answering.{shown_same, same_later, kept_later, claimed_waited, claimed_got}
use Rattle.pq_claims.proofs.claiming.claim_in.Goals as goal

pub returns-in-Err-clause-kept : goal.returns-in-Err-clause-kept
returns-in-Err-clause-kept g c =
    same_later g.R.Key.Ord.cmp c.args.next c.args.holders.now.entries c.args.holders.now.entries c.args.runs.now.entries c.open_run.new.runs.entries (λ k. refl) c.open_run.ensures.same c.requires

pub returns-in-Err-clause-claimed : goal.returns-in-Err-clause-claimed
returns-in-Err-clause-claimed g c =
    shown_same (λ k. holder_in g.R.Key.Ord.cmp c.args.holders.now.entries k) (λ k. holder_in g.R.Key.Ord.cmp c.args.holders.now.entries k) c.args.runs.now.entries c.open_run.new.runs.entries
    (λ k. refl) c.open_run.ensures.same

pub wait_for-requires-clause-kept : goal.wait_for-requires-clause-kept
wait_for-requires-clause-kept g c = (
  c.args.next,
  kept_same c.args.next (λ k. holder_in g.R.Key.Ord.cmp c.args.holders.now.entries k) (λ k. holder_in g.R.Key.Ord.cmp c.args.holders.now.entries k) (λ r. held_at c.args.runs.now.entries r)
      (λ r. held_at c.open_run.new.runs.entries r) (λ k. refl) c.open_run.ensures.same c.requires,
)

pub returns-in-Ok-wait_for-clause-kept : goal.returns-in-Ok-wait_for-clause-kept
returns-in-Ok-wait_for-clause-kept g c =
    kept_later c.args.next (λ k. holder_in g.R.Key.Ord.cmp c.args.holders.now.entries k) (λ r. held_at c.wait_for.new.runs.entries r)
    (c.wait_for.ensures.kept c.args.next
    (kept_same c.args.next (λ k. holder_in g.R.Key.Ord.cmp c.args.holders.now.entries k) (λ k. holder_in g.R.Key.Ord.cmp c.args.holders.now.entries k) (λ r. held_at c.args.runs.now.entries r)
    (λ r. held_at c.open_run.new.runs.entries r) (λ k. refl) c.open_run.ensures.same c.requires))

pub returns-in-Ok-wait_for-clause-claimed : goal.returns-in-Ok-wait_for-clause-claimed
returns-in-Ok-wait_for-clause-claimed g c =
    claimed_waited g.R.Key.Ord.cmp g.met.R.Key.Ord.total (g.met.R.Rules.lawful c.args.rules.now []).exact c.args.next c.args.holders.now.entries c.args.runs.now.entries
    c.open_run.new.runs.entries c.wait_for.new.runs.entries c.args.run c.args.key.now c.in-Some.holder c.in-Ok-wait_for.claim c.open_run.ensures.same (sym c.holder_of.ensures ∙ c.in-Some.is)
    (kept_same c.args.next (λ k. holder_in g.R.Key.Ord.cmp c.args.holders.now.entries k) (λ k. holder_in g.R.Key.Ord.cmp c.args.holders.now.entries k) (λ r. held_at c.args.runs.now.entries r)
    (λ r. held_at c.open_run.new.runs.entries r) (λ k. refl) c.open_run.ensures.same c.requires)
    (c.in-Ok-wait_for.ensures {u = tt}).waited

pub returns-in-Err-wait_for-clause-kept : goal.returns-in-Err-wait_for-clause-kept
returns-in-Err-wait_for-clause-kept g c =
    same_later g.R.Key.Ord.cmp c.args.next c.args.holders.now.entries c.args.holders.now.entries c.args.runs.now.entries c.wait_for.new.runs.entries (λ k. refl)
    (λ r. (c.in-Err-wait_for.ensures {u = tt}).refused r ∙ c.open_run.ensures.same r) c.requires

pub returns-in-Err-wait_for-clause-claimed : goal.returns-in-Err-wait_for-clause-claimed
returns-in-Err-wait_for-clause-claimed g c =
    shown_same (λ k. holder_in g.R.Key.Ord.cmp c.args.holders.now.entries k) (λ k. holder_in g.R.Key.Ord.cmp c.args.holders.now.entries k) c.args.runs.now.entries c.wait_for.new.runs.entries
    (λ k. refl) (λ r. (c.in-Err-wait_for.ensures {u = tt}).refused r ∙ c.open_run.ensures.same r)

pub take_free-requires-clause-kept : goal.take_free-requires-clause-kept
take_free-requires-clause-kept g c =
    kept_same c.args.next (λ k. holder_in g.R.Key.Ord.cmp c.args.holders.now.entries k) (λ k. holder_in g.R.Key.Ord.cmp c.args.holders.now.entries k) (λ r. held_at c.args.runs.now.entries r)
    (λ r. held_at c.open_run.new.runs.entries r) (λ k. refl) c.open_run.ensures.same c.requires

pub returns-in-Ok-take_free-clause-claimed : goal.returns-in-Ok-take_free-clause-claimed
returns-in-Ok-take_free-clause-claimed g c =
    claimed_got g.R.Key.Ord.cmp g.met.R.Key.Ord.total (g.met.R.Rules.lawful c.args.rules.now []).exact c.args.next c.args.holders.now.entries c.take_free.new.holders.entries
    c.args.runs.now.entries c.open_run.new.runs.entries c.take_free.new.runs.entries c.args.run c.args.key.now _ c.open_run.ensures.same (sym c.holder_of.ensures ∙ c.in-None.is) refl
    (kept_same c.args.next (λ k. holder_in g.R.Key.Ord.cmp c.args.holders.now.entries k) (λ k. holder_in g.R.Key.Ord.cmp c.args.holders.now.entries k) (λ r. held_at c.args.runs.now.entries r)
    (λ r. held_at c.open_run.new.runs.entries r) (λ k. refl) c.open_run.ensures.same c.requires)
    (c.in-Ok-take_free.ensures {u = tt}).holder (c.in-Ok-take_free.ensures {u = tt}).keys

pub returns-in-Err-take_free-clause-kept : goal.returns-in-Err-take_free-clause-kept
returns-in-Err-take_free-clause-kept g c =
    same_later g.R.Key.Ord.cmp c.args.next c.args.holders.now.entries c.take_free.new.holders.entries c.args.runs.now.entries c.take_free.new.runs.entries
    (c.in-Err-take_free.ensures {u = tt}).holders (λ r. (c.in-Err-take_free.ensures {u = tt}).runs r ∙ c.open_run.ensures.same r) c.requires

pub returns-in-Err-take_free-clause-claimed : goal.returns-in-Err-take_free-clause-claimed
returns-in-Err-take_free-clause-claimed g c =
    shown_same (λ k. holder_in g.R.Key.Ord.cmp c.args.holders.now.entries k) (λ k. holder_in g.R.Key.Ord.cmp c.take_free.new.holders.entries k) c.args.runs.now.entries c.take_free.new.runs.entries
    (c.in-Err-take_free.ensures {u = tt}).holders (λ r. (c.in-Err-take_free.ensures {u = tt}).runs r ∙ c.open_run.ensures.same r)
