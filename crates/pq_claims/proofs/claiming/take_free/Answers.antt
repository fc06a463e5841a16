use Rattle.std.proofs.Common.{[], refl, ap, length, List, subst, ◌≡◌}
use Rattle.std.specs.Prelude.{IfNone}
use Rattle.pq_claims.specs.aux.Table.{held_at}
use Rattle.pq_claims.proofs.Answering.{take_kept, pushed_popped}
use Rattle.pq_claims.proofs.claiming.take_free.Goals as goal

pub returns-in-Ok-clause-kept : goal.returns-in-Ok-clause-kept
returns-in-Ok-clause-kept g c =
    take_kept g.R.Key.Ord.cmp g.met.R.Key.Ord.total (g.met.R.Rules.lawful c.args.rules.now []).exact c.args.next c.args.holders.now.entries c.put_holder.new.holders.entries
    c.args.runs.now.entries c.push_key.new.runs.entries c.set_wait.new.runs.entries c.args.run c.args.key.now c.in_ok-copy.copy c.in_ok-again.again _
    c.requires.kept (c.in_ok-copy.ensures {u = tt}).copy (c.in_ok-again.ensures {u = tt}).copy c.requires.free refl
    (ap (λ ks. length ks) c.keys_in-place.ensures) refl (c.in-Ok.ensures {u = tt}).put (c.in_ok-push_key.ensures {u = tt}).pushed c.set_wait.ensures.set

pub returns-in-Err-clause-runs : goal.returns-in-Err-clause-runs
returns-in-Err-clause-runs g c =
    pushed_popped g.R.Key.Ord.cmp g.met.R.Key.Ord.total (g.met.R.Rules.lawful c.args.rules.now []).exact c.args.runs.now.entries c.push_key.new.runs.entries c.pop_key.new.runs.entries
    c.args.run c.in_ok-copy.copy c.pop_key.result (c.in_ok-push_key.ensures {u = tt}).pushed c.pop_key.ensures.keys c.pop_key.ensures.set
    (λ e. subst (λ o. IfNone o ((held_at c.push_key.new.runs.entries c.args.run).keys ≡ [])) e c.pop_key.ensures.none)
