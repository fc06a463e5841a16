use Rattle.std.proofs.Common.{◌≡◌, ◌+◌, ◌<◌, ◌≤◌, refl, sym, ◌∙◌, subst, ap, Some, [], arith}
use Rattle.std.specs.Option.{option_map}
use Rattle.std.specs.Prelude.{string_bytes}
use Rattle.pq_inputs.specs.Refusal.{last_revision}
use Rattle.pq_core.proofs.Making.{goes_by, all_same}
use Rattle.pq_core.specs.Told.{told_puts}
use Rattle.pq_core.specs.Changes.{set}
use Rattle.pq_core.specs.Points.{point_now}
use Rattle.pq_core.specs.Moves.{changed}
use Rattle.pq_core.specs.Stores.{StoreView, held}
use Rattle.pq_core.specs.aux.Rising.{found}
use Rattle.pq_core.specs.Accounts.{AccountView}
use Rattle.pq_core.proofs.RunsKept.{edited_runs}
use Rattle.pq_core.proofs.StoreOpening.{unmoved}
use Rattle.pq_core.proofs.StoreAccepting.{run_past}
use Rattle.pq_core.proofs.StoreEditing.{edit_moved, edit_refused, table_is, of_body}
use Rattle.pq_rules.proofs.Weight.{Exact}
use Rattle.pq_memo.specs.Table.{memo_at}
use Rattle.pq_core.proofs.StoreCounting.{edited_counted}
use Rattle.pq_core.specs.aux.Inside.{store_of}
use Rattle.pq_core.proofs.store.store.Store.set_whole.Goals as goal

pub invariant_of-self : goal.invariant_of-self
invariant_of-self g c =
    let w = c.self.invariant in
    let may : (account : AccountView g.row.R-Key.Denot g.row.R-Value.Denot g.row.M.Denot) × (found c.self.inside.accounts.items c.args.client ≡ Some account) =
    subst (λ (v : StoreView g.row.R.Denot g.row.R-Key.Denot g.row.R-Part.Denot g.row.R-Value.Denot g.row.M.Denot). (account : AccountView g.row.R-Key.Denot g.row.R-Value.Denot g.row.M.Denot) × (found v.accounts.items c.args.client ≡ Some account)) (sym c.self.view_is) c.requires.may in
    let told = c.in-Ok.ensures {u = tt} in
    let table = table_is c.set.new.self c.self.inside.inputs (of_body c.args.file c.args.durability (set (option_map string_bytes c.args.text))) (rw c.as_str.ensures.same at told.files) (told.revision.1 ∙ told.revision.0) told.history told.limit in
    let moved = edit_moved g.R.Key.Ord.cmp (g.R.Rules.machine c.self.inside.memos.rules) g.M.Stamp.point told_puts
    (held (store_of c.self.inside))
    (record (held (store_of c.self.inside)) { inputs = c.set.new.self })
    c.args.client c.in-Ok.revision (of_body c.args.file c.args.durability (set (option_map string_bytes c.args.text))) (option_map string_bytes c.args.text) w.ledger.0 may refl (rw c.as_str.ensures.same at told.accepted) told.revision.0 table (λ k. refl) refl refl (λ k. refl) refl w.ledger.1 in
    let next : c.set.new.self.revision ≡ c.self.inside.inputs.revision + 1 = told.revision.1 ∙ told.revision.0 in
    let most : c.set.new.self.revision ≤ last_revision = rw c.now-bounded.ensures.now at c.now-bounded.ensures.bounded in
    let room : c.self.inside.inputs.revision < last_revision = omega arith in
    record {
      stamped =
          subst (λ (v : StoreView g.row.R.Denot g.row.R-Key.Denot g.row.R-Part.Denot g.row.R-Value.Denot g.row.M.Denot). v.inputs.revision < last_revision → g.M.Stamp.point c.args.stamp ≡ point_now (changed v.inputs (of_body c.args.file c.args.durability (set (option_map string_bytes c.args.text))))) (sym c.self.view_is) c.requires.stamp
          room
          ∙ ap point_now (sym table);
      kept = c.kept_is_sound.ensures.next c.self.inside.inputs c.set.new.self
          (record { counted = c.now-latest.ensures.counted; latest = c.now-latest.ensures.last; revision = told.revision.1 ∙ told.revision.0; history = told.history }) w.kept;
      accounts_above = w.accounts_above;
      runs_above = w.runs_above;
      queue = w.queue;
      room = w.room;
      runs = edited_runs _ _ _ _ _ c.set.new.self _ (told.revision.1 ∙ told.revision.0) (λ s y h. run_past g.R.Key.Ord.cmp (g.R.Rules.machine c.self.inside.memos.rules) g.M.Stamp.point told_puts (held (store_of c.self.inside)) w.ledger.0 s y w.ledger.1 h) w.kept w.runs;
      ledger = (moved.0, moved.2);
    }

pub returns-in-Ok-clause-moved : goal.returns-in-Ok-clause-moved
returns-in-Ok-clause-moved g c =
    let may : (account : AccountView g.row.R-Key.Denot g.row.R-Value.Denot g.row.M.Denot) × (found c.self.inside.accounts.items c.args.client ≡ Some account) =
    subst (λ (v : StoreView g.row.R.Denot g.row.R-Key.Denot g.row.R-Part.Denot g.row.R-Value.Denot g.row.M.Denot). (account : AccountView g.row.R-Key.Denot g.row.R-Value.Denot g.row.M.Denot) × (found v.accounts.items c.args.client ≡ Some account)) (sym c.self.view_is) c.requires.may in
    let told = c.in-Ok.ensures {u = tt} in
    let table = table_is c.set.new.self c.self.inside.inputs (of_body c.args.file c.args.durability (set (option_map string_bytes c.args.text))) (rw c.as_str.ensures.same at told.files) (told.revision.1 ∙ told.revision.0) told.history told.limit in
    rw (← c.self.view_is)
    (goes_by g.R.Key.Ord.cmp (g.R.Rules.machine c.self.inside.memos.rules) g.M.Stamp.point _ _ _ (all_same _ _ (λ k. refl))
    (λ l s. edit_moved g.R.Key.Ord.cmp (g.R.Rules.machine c.self.inside.memos.rules) g.M.Stamp.point told_puts
    (held (store_of c.self.inside))
    (record (held (store_of c.self.inside)) { inputs = c.set.new.self })
    c.args.client c.in-Ok.revision (of_body c.args.file c.args.durability (set (option_map string_bytes c.args.text))) (option_map string_bytes c.args.text) l may refl (rw c.as_str.ensures.same at told.accepted) told.revision.0 table (λ k. refl) refl refl (λ k. refl) refl s))

pub returns-in-Err-clause-moved : goal.returns-in-Err-clause-moved
returns-in-Err-clause-moved g c =
    let may : (account : AccountView g.row.R-Key.Denot g.row.R-Value.Denot g.row.M.Denot) × (found c.self.inside.accounts.items c.args.client ≡ Some account) =
    subst (λ (v : StoreView g.row.R.Denot g.row.R-Key.Denot g.row.R-Part.Denot g.row.R-Value.Denot g.row.M.Denot). (account : AccountView g.row.R-Key.Denot g.row.R-Value.Denot g.row.M.Denot) × (found v.accounts.items c.args.client ≡ Some account)) (sym c.self.view_is) c.requires.may in
    let told = c.in-Err.ensures {u = tt} in
    rw (← c.self.view_is)
    (goes_by g.R.Key.Ord.cmp (g.R.Rules.machine c.self.inside.memos.rules) g.M.Stamp.point _ _ _ (all_same _ _ (λ k. refl))
    (λ l s. (
      l,
      (
        ap (λ x. of_body c.args.file c.args.durability (set (option_map string_bytes x))) told.back,
        edit_refused g.R.Key.Ord.cmp (g.R.Rules.machine c.self.inside.memos.rules) g.M.Stamp.point told_puts (held (store_of c.self.inside)) c.args.client (of_body c.args.file c.args.durability (set (option_map string_bytes c.args.text))) (option_map string_bytes c.args.text) c.in-Err.refused.fault l may refl
            (rw c.as_str.ensures.same at told.fault) s,
        refl,
      ),
      unmoved g.R.Key.Ord.cmp (g.R.Rules.machine c.self.inside.memos.rules) g.M.Stamp.point told_puts _ _ l
          (record {
            inputs = told.refused;
            accounts = λ k. refl;
            opened = refl;
            clients = refl;
            runs = λ k. refl;
            started = refl;
          })
          s,
    )))

pub returns-in-Ok-clause-accounts : goal.returns-in-Ok-clause-accounts
returns-in-Ok-clause-accounts g c = rw (← c.self.view_is) refl

pub returns-in-Ok-clause-late : goal.returns-in-Ok-clause-late
returns-in-Ok-clause-late g c =
    let w = c.self.invariant in
    let told = c.in-Ok.ensures {u = tt} in
    let next : c.set.new.self.revision ≡ c.self.inside.inputs.revision + 1 = told.revision.1 ∙ told.revision.0 in
    λ s run h.
    let past : run.started ≤ c.self.inside.inputs.revision = run_past g.R.Key.Ord.cmp (g.R.Rules.machine c.self.inside.memos.rules) g.M.Stamp.point told_puts (held (store_of c.self.inside)) w.ledger.0 s run w.ledger.1 h in
    omega arith

pub returns-in-Ok-clause-counted : goal.returns-in-Ok-clause-counted
returns-in-Ok-clause-counted g c =
    let exact : Exact g.R.Key.Ord.cmp = record { total = g.met.R.Key.Ord.total; exact = (g.met.R.Rules.lawful c.self.inside.memos.rules []).exact } in
    let told = c.in-Ok.ensures {u = tt} in
    rw (← c.self.view_is) (λ log x. edited_counted g.R.Key.Ord.cmp exact (g.R.Rules.machine c.self.inside.memos.rules) c.self.inside.inputs log c.set.new.self (memo_at g.R.Key.Ord.cmp c.self.inside.memos.places) c.self.inside.runs.items c.self.inside.runs.items (told.revision.1 ∙ told.revision.0) x)

pub returns-in-Err-clause-counted : goal.returns-in-Err-clause-counted
returns-in-Err-clause-counted g c =
    let told = c.in-Err.ensures {u = tt} in
    rw (← c.self.view_is) (rw told.refused (λ log x. x))
