use Rattle.std.proofs.Common.{refl, sym, ◌∙◌, ap, arith}
use Rattle.pq_claims.specs.Claims.{Hold}
use Rattle.pq_core.specs.Told.{told_puts}
use Rattle.pq_core.proofs.RunsKept.{no_runs}
use Rattle.pq_core.proofs.Lists.{none_some}
use Rattle.pq_core.proofs.Queued.{once_none}
use Rattle.pq_core.proofs.StoreOpening.{new_stands}
use Rattle.pq_core.specs.Ledger.{unused}
use Rattle.pq_core.proofs.StoreCounting.{none_counted}
use Rattle.pq_core.proofs.store.store.Store.new.Goals as goal

pub invariant_of-result : goal.invariant_of-result
invariant_of-result g c =
    record {
      stamped = c.requires;
      kept = record { memos = λ k memo h. absurd (none_some memo (sym (c.new.ensures.empty k) ∙ h)) };
      accounts_above = c.new-2.ensures.above 0;
      runs_above = c.new-4.ensures.above 0;
      queue = rw c.new-3.ensures (record {
        waits = λ k n w. absurd w;
        queued = λ k n request w. absurd (none_some w.account (sym (c.new-2.ensures.none k) ∙ w.here));
        once = once_none _;
      });
      room = rw c.new-3.ensures (omega arith);
      runs = no_runs _ _ _ _ _ _ (λ r. ap (λ (h : Hold g.row.R-Key.Denot). h.keys) (c.new-5.ensures.empty r)) c.new-4.ensures.none;
      ledger = (
        unused c.args.inputs,
        new_stands g.R.Key.Ord.cmp (g.R.Rules.machine c.new.result.rules) g.M.Stamp.point told_puts _ c.now-latest.ensures.counted c.now-latest.ensures.last
            c.new-2.ensures.none c.new-4.ensures.none refl refl refl,
      );
    }

pub returns-clause-stands : goal.returns-clause-stands
returns-clause-stands g c =
    new_stands g.R.Key.Ord.cmp (g.R.Rules.machine c.args.rules) g.M.Stamp.point told_puts _ c.now-latest.ensures.counted c.now-latest.ensures.last
    c.new-2.ensures.none c.new-4.ensures.none refl refl refl

pub returns-clause-counted : goal.returns-clause-counted
returns-clause-counted g c =
    none_counted g.R.Key.Ord.cmp c.args.inputs.revision _
