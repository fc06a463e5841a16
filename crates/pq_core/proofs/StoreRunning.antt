-- Steps and ends of runs, at what a core keeps.
use Rattle.std.proofs.Common.{◌≡◌, ◌≢◌, ℕ, ◌<◌, ◌≤◌, ◌==◌, if◌then◌else◌, ◌⊎◌, Bool, true, false, List, Option, Some, None, refl, sym, ◌∙◌, ap, subst, inl, inr, arith}
use Rattle.std.specs.Prelude.{Ok, IsSome}
use Rattle.std.specs.Option.{option_map}
use Rattle.std.specs.declared.cmp.Ordering.{Ordering}
use Rattle.pq_inputs.specs.Sources.{Table}
use Rattle.pq_rules.specs.Turns.{Machine}
use Rattle.pq_memo.specs.Sound.{Memo}
use Rattle.pq_memo.specs.Look.{HasChangedRead, IsFresh, IsLapsedRing}
use Rattle.pq_memo.specs.Steps.{IsWhy}
use Rattle.pq_memo.specs.Cause.{IsCause}
use Rattle.pq_memo.specs.declared.table.look.Why.{Why}
use Rattle.pq_memo.specs.declared.table.look.Why.TheVariants.{Fresh, Changed, Ring}
use Rattle.std.proofs.lemmas.Bool.{eqb-true}
use Rattle.pq_core.proofs.Lists.{some_one}
use Rattle.pq_core.proofs.Changing.{if_at, if_other}
use Rattle.pq_core.proofs.Calling.{stands_same, run_seen, none_runs, run_at, seat_open, seat_shut}
use Rattle.pq_core.proofs.Ending.{end_stands, out_stands}
use Rattle.pq_core.proofs.Keeping.{runs_placed, kept_looks, kept_gives}
use Rattle.pq_core.proofs.AccountStanding.{running_there, finished_stands, out_changed_stands}
use Rattle.pq_core.proofs.AccountMoves.{one_stage}
use Rattle.pq_core.proofs.Making.{go_on_same, go_on_set, advances_staged}
use Rattle.pq_core.proofs.Queued.{queue_same, queue_finished}
use Rattle.pq_core.specs.Points.{Point, point_now}
use Rattle.pq_core.specs.Replies.{ReplyView}
use Rattle.pq_core.specs.Ledger.{Out, Ledger, with_entry, Fate}
use Rattle.pq_core.specs.RightReply.{answer_by}
use Rattle.pq_core.specs.Kept.{Kept, IsDemand}
use Rattle.pq_core.specs.Works.{DoneView, WorkView, HasWhy}
use Rattle.pq_rules.specs.declared.turn.Answer.{Answer}
use Rattle.pq_core.specs.Moves.{Reaches, RunAt, Runs, NoneRuns, IsOvertaken, IsCurrent, IsBlocked, GoesOn, IsOf, LooksFor, Gives, out_of, Stops, ended, ended_entry, place_ended, reply_at, with_out}
use Rattle.pq_core.specs.Stores.{Held, fields_of, run_seen as seen_of, StandsOf}
use Rattle.pq_core.specs.aux.Stands.{RunSeen}
use Rattle.pq_core.specs.declared.store.rising.Place.{Place}
use Rattle.pq_core.specs.aux.Rising.{found}
use Rattle.pq_core.specs.aux.Runs.{RunView, IsSameRun, HandedOut, IsAnswer, out_at}
use Rattle.pq_core.specs.Accounts.{AccountView, IsStage, with_stage}
use Rattle.pq_core.specs.Truth.{IsTrueReply}
use Rattle.pq_core.specs.aux.Accounts.{AccountStands}
use Rattle.pq_core.specs.aux.Rising.{Slots}
use Rattle.pq_core.specs.aux.Changes.{IsSetAt}
use Rattle.pq_core.specs.declared.store.account.Begun.{Begun}
use Rattle.pq_core.specs.declared.store.account.Stage.{Stage}
use Rattle.pq_core.specs.Lanes.{ReadyView}
use Rattle.pq_core.specs.declared.values.request.Request.{Request}
use Rattle.pq_rules.specs.Turns.{over}
use Rattle.pq_rules.specs.Value.{Means}
use Rattle.pq_core.specs.aux.Queue.{IsQueue}
use Rattle.pq_core.specs.aux.Advancing.{AllGoOn}
use Rattle.pq_core.specs.declared.store.account.Stage.TheVariants.{Running, Made}
use Rattle.pq_core.specs.declared.values.outcome.Outcome.{Outcome}
use Rattle.pq_core.specs.declared.values.outcome.Outcome.TheVariants.{Cancelled, Answered}
use Rattle.pq_core.specs.declared.values.moves.Move.TheVariants.{Carry, Stepped, Answered as MoveAnswered, Stopped}

-- `at_seen at` is what the ledger knows of the run `at`
abbrev pub at_seen : {K V M O : Type 0} → RunAt K V M O → RunSeen K
at_seen at = record { client = at.c; number = at.n; request = at.entry.request; started = at.started; out = at.out }

-- `begun_at r at` is what the account of its client keeps of the run `r`, which is `at`
abbrev pub begun_at : {K V M O : Type 0} → ℕ → RunAt K V M O → Begun
begun_at r at = record { run = r; accepted = at.entry.accepted }

-- `RunHere l r run` is that `run` is the run `r` of the ledger
pub record RunHere {K P V M O : Type 0} (l : Ledger K V M O) (r : ℕ) (run : RunView K P) : Type 0 where
  pub at : RunAt K V M O
  pub runs : Runs l r at
  pub same : seen_of run ≡ at_seen at

-- `run_reply run revision outcome` is the reply of `outcome` to the request of `run`
abbrev pub run_reply : {K P V M : Type 0} → RunView K P → ℕ → Outcome K V M → ReplyView K V M
run_reply run revision outcome = record { client = run.client; number = run.number; request = run.request; revision = revision; outcome = outcome }

-- `cancelled_as started seen` is the outcome of a run that was stopped
abbrev pub cancelled_as : {K V M : Type 0} → ℕ → ℕ → Outcome K V M
cancelled_as started seen = Cancelled started seen

-- `EndsIn b a account c n reply` is that in the accounts `b`, which are `a` afterwards, the request `n`
-- of the account `account` of the client `c` was in a run, and that `reply` is made
pub record EndsIn {K V M : Type 0} (b a : List (Place (AccountView K V M))) (account : AccountView K V M) (c n : ℕ) (reply : ReplyView K V M) : Type 0 where
  pub begun : Begun
  pub was : IsStage account n (Running begun)
  pub set : (k : ℕ) → found a k ≡ (if k == c then Some (with_stage account n (Made (record { reply = reply; accepted = begun.accepted }))) else found b k)

module _ {K V M : Type 0} where
  pub ends_of : {b a : Slots (AccountView K V M)} {account : AccountView K V M} {c n : ℕ} {reply : ReplyView K V M}
      → ((begun : Begun) × IsStage account n (Running begun) × IsSetAt b a c (Some (with_stage account n (Made (record { reply = reply; accepted = begun.accepted })))))
      → EndsIn b.items a.items account c n reply
  ends_of h = record { begun = h.0; was = h.1; set = h.2.found }

  -- the queue after a run has ended
  pub end_queue : (b a : List (Place (AccountView K V M))) (queue : List (ℕ × ℕ)) (c n : ℕ) (reply : ReplyView K V M)
      → ((account : AccountView K V M) → found b c ≡ Some account → EndsIn b a account c n reply)
      → (found b c ≡ None → (k : ℕ) → found a k ≡ found b k)
      → IsQueue b queue → IsQueue a queue
  end_queue b a queue c n reply set same q = by_account (found b c) refl
    where
      by_account : (account : Option (AccountView K V M)) → found b c ≡ account → IsQueue a queue
      by_account (Some account) here = let e = set account here in queue_finished b a queue c n e.begun account (record { reply = reply; accepted = e.begun.accepted }) here e.was e.set q
      by_account None none = queue_same b a queue (same none) q

  -- the accounts after a run has ended
  pub end_advances : (b a : List (Place (AccountView K V M))) (c n : ℕ) (reply : ReplyView K V M)
      → ((account : AccountView K V M) → found b c ≡ Some account → EndsIn b a account c n reply)
      → (found b c ≡ None → (k : ℕ) → found a k ≡ found b k)
      → AllGoOn b a
  end_advances b a c n reply set same = by_account (found b c) refl
    where
      by_account : (account : Option (AccountView K V M)) → found b c ≡ account → AllGoOn b a
      by_account (Some account) here = let e = set account here in go_on_set b a c account _ here e.set (advances_staged account n (Running e.begun) _ e.was tt tt)
      by_account None none = go_on_same b a (same none)

  abbrev running_as : Begun → Stage K (ReadyView K V M)
  running_as begun = Running begun

  running_one : (i j : Begun) → running_as i ≡ running_as j → i ≡ j
  running_one i j e = cc

-- the reply of a run that answers is right at its stamp
pub told_answer : {R K P V M : Type 0} (order : K → K → Ordering) (machine : R → Machine K P V) (rules : R) (point : M → Point) (inputs : Table) (c n revision : ℕ) (asked request : Request K) (answer : Answer K V) (stamp : M)
    → asked ≡ request → IsAnswer order (machine rules) inputs request answer → point stamp ≡ point_now inputs → revision ≡ inputs.revision
    → IsTrueReply order machine point (record { client = c; number = n; request = asked; revision = revision; outcome = Answered answer stamp })
told_answer {K = K} order machine rules point inputs c n revision asked request answer stamp same means stamped now = record {
  rules = rules;
  told = (
    now ∙ ap (λ (p : Point). p.revision) (sym stamped),
    record {
      key = means.0;
      demanded = ap (λ (q : Request K). q.want) same ∙ means.1;
      means_so = subst (λ (p : Point). Means (over order (machine rules) p.files) means.0 answer) (sym stamped) means.2;
    },
  );
}

-- `SameBut b a` is that but for accounts and runs `a` keeps what `b` keeps
pub record SameBut {K P V M : Type 0} (b a : Held K P V M) : Type 0 where
  pub inputs : a.inputs ≡ b.inputs
  pub opened : a.opened ≡ b.opened
  pub clients : a.clients ≡ b.clients
  pub started : a.started ≡ b.started

module _ {K P V M O : Type 0} (order : K → K → Ordering) (m : Machine K P V) (point : M → Point) (puts : O → List (ReplyView K V M)) where
  -- the run of the ledger that the core keeps
  pub run_here : (b : Held K P V M) (l : Ledger K V M O) (r : ℕ) (run : RunView K P) → StandsOf order m point puts b l → found b.runs r ≡ Some run → RunHere l r run
  run_here b l r run s h =
      let x = run_at (AccountStands puts) (answer_by order m point) puts (fields_of b) l r (seen_of run) s (ap (option_map seen_of) h) in
      record { at = x.0; runs = x.1; same = x.2 }

  pub no_run : (b : Held K P V M) (l : Ledger K V M O) (r : ℕ) → StandsOf order m point puts b l → found b.runs r ≡ None → NoneRuns l r
  no_run b l r s h = none_runs (AccountStands puts) (answer_by order m point) puts (fields_of b) l r s (ap (option_map seen_of) h)

  -- a run's request is in a run in its account
  pub run_running : (b : Held K P V M) (l : Ledger K V M O) (r : ℕ) (run : RunView K P) (account : AccountView K V M) → StandsOf order m point puts b l → found b.runs r ≡ Some run
      → found b.accounts run.client ≡ Some account → (begun : Begun) × IsStage account run.number (Running begun)
  run_running b l r run account s h there =
      let x = run_here b l r run s h in
      let c_is : run.client ≡ x.at.c = ap (λ (y : RunSeen K). y.client) x.same in
      let n_is : run.number ≡ x.at.n = ap (λ (y : RunSeen K). y.number) x.same in
      let w = seat_open (AccountStands puts) (answer_by order m point) puts (fields_of b) l x.at.c x.at.client account s x.runs.is_entry.client_here (ap (λ (c : ℕ). found b.accounts c) (sym c_is) ∙ there) in (
        begun_at r x.at,
        subst (λ (n : ℕ). IsStage account n (Running (begun_at r x.at))) (sym n_is)
            (running_there puts (answer_by order m point) l.inputs x.at.c account x.at.client x.at.n x.at.entry r x.at.started x.at.out
            (s.kept.clients x.at.c x.at.client x.runs.is_entry.client_here) w.1 x.runs.is_entry.here x.runs.runs),
      )

  pub run_demands : (b : Held K P V M) (l : Ledger K V M O) (r : ℕ) (run : RunView K P) → StandsOf order m point puts b l → found b.runs r ≡ Some run → IsDemand run.request.want
  run_demands b l r run s h =
      let x = run_here b l r run s h in
      subst (λ (y : RunSeen K). IsDemand y.request.want) (sym x.same) (runs_placed (answer_by order m point) puts l r x.at s.kept x.runs).1

  -- a run is overtaken where its start is older than now, or its client has no account
  pub overtaken : (b : Held K P V M) (l : Ledger K V M O) (r : ℕ) (run : RunView K P) → StandsOf order m point puts b l → (x : RunHere l r run)
      → (run.started < b.inputs.revision) ⊎ (found b.accounts run.client ≡ None) → IsOvertaken l x.at
  overtaken b l r run s x o = elim o [
    | inl late ↦ inl (subst (λ (t : Table). x.at.started < t.revision) (sym s.inputs) (subst (λ (y : RunSeen K). y.started < b.inputs.revision) x.same late))
    | inr shut ↦
        inr (seat_shut (AccountStands puts) (answer_by order m point) puts (fields_of b) l x.at.c x.at.client s x.runs.is_entry.client_here
        (subst (λ (y : RunSeen K). found b.accounts y.client ≡ None) x.same shut))
  ]

  -- and else it is current
  pub current : (b : Held K P V M) (l : Ledger K V M O) (r : ℕ) (run : RunView K P) → StandsOf order m point puts b l → (x : RunHere l r run)
      → ((run.started < b.inputs.revision) ⊎ (found b.accounts run.client ≡ None) → ⊥) → IsCurrent l x.at × (run.started ≡ b.inputs.revision)
  current b l r run s x o =
      let placed = runs_placed (answer_by order m point) puts l r x.at s.kept x.runs in
      let past : x.at.started ≤ l.inputs.revision = placed.3 in
      let same : run.started ≡ x.at.started = ap (λ (y : RunSeen K). y.started) x.same in
      let now : l.inputs.revision ≡ b.inputs.revision = ap (λ (t : Table). t.revision) s.inputs in
      let is_now : run.started ≡ b.inputs.revision = exactly run.started b.inputs.revision (omega arith) (λ late. o (inl late)) in (
        record {
          now = sym same ∙ (is_now ∙ sym now);
          open_yet = still (found b.accounts run.client) refl;
        },
        is_now,
      )
    where
      exactly : (i j : ℕ) → i ≤ j → (i < j → ⊥) → i ≡ j
      exactly i j h f = grind (arith, f)

      still : (account : Option (AccountView K V M)) → found b.accounts run.client ≡ account → x.at.client.is_open ≡ true
      still None h = absurd (o (inr h))
      still (Some account) h =
          (seat_open (AccountStands puts) (answer_by order m point) puts (fields_of b) l x.at.c x.at.client account s x.runs.is_entry.client_here
          (subst (λ (y : RunSeen K). found b.accounts y.client ≡ Some account) x.same h)).0

  -- a run that was taken out ends
  pub end_moved : (b a : Held K P V M) (l : Ledger K V M O) (r : ℕ) (run : RunView K P) (fate : Fate) (outcome : Outcome K V M) (x : RunHere l r run)
      → StandsOf order m point puts b l → found b.runs r ≡ Some run
      → ((k : ℕ) → found a.runs k ≡ (if k == r then None else found b.runs k))
      → ((account : AccountView K V M) → found b.accounts run.client ≡ Some account → EndsIn b.accounts a.accounts account run.client run.number (run_reply run b.inputs.revision outcome))
      → (found b.accounts run.client ≡ None → (k : ℕ) → found a.accounts k ≡ found b.accounts k)
      → SameBut b a → Kept (answer_by order m point) puts (ended l x.at fate outcome) → StandsOf order m point puts a (ended l x.at fate outcome)
  end_moved b a l r run fate outcome x s h runs set same but kept =
      end_stands (AccountStands puts) (answer_by order m point) puts (fields_of b) (fields_of a) l (ended l x.at fate outcome) r x.at fate outcome s x.runs
      (record { inputs = but.inputs; opened = but.opened; clients = but.clients })
      (record {
        here = ap (option_map seen_of) (runs r ∙ if_at r None (found b.runs r));
        others = λ q ne. ap (option_map seen_of) (runs q ∙ if_other q r None (found b.runs q) ne);
      })
      but.started (elsewhere (found b.accounts run.client) refl) (opened_so (found b.accounts run.client) refl)
      (λ o. shut_so (found b.accounts run.client) refl o) refl kept
    where
      c_is : run.client ≡ x.at.c
      c_is = ap (λ (y : RunSeen K). y.client) x.same

      n_is : run.number ≡ x.at.n
      n_is = ap (λ (y : RunSeen K). y.number) x.same

      reply_is : run_reply run b.inputs.revision outcome ≡ reply_at l x.at outcome
      reply_is =
          subst (λ (y : RunSeen K). run_reply run b.inputs.revision outcome ≡ record { client = y.client; number = y.number; request = y.request; revision = l.inputs.revision; outcome = outcome }) x.same
          (ap (λ (i : ℕ). record { client = run.client; number = run.number; request = run.request; revision = i; outcome = outcome }) (ap (λ (t : Table). t.revision) (sym s.inputs)))

      elsewhere : (account : Option (AccountView K V M)) → found b.accounts run.client ≡ account → (k : ℕ) → k ≢ x.at.c → found a.accounts k ≡ found b.accounts k
      elsewhere None e k ne = same e k
      elsewhere (Some account) e k ne = (set account e).set k ∙ if_other k run.client (Some _) (found b.accounts k) (λ i. ne (i ∙ c_is))

      shut_so : (account : Option (AccountView K V M)) → found b.accounts run.client ≡ account → x.at.client.is_open ≡ false → found a.accounts x.at.c ≡ None
      shut_so None e o = same e x.at.c ∙ (ap (λ (c : ℕ). found b.accounts c) (sym c_is) ∙ e)
      shut_so (Some account) e o =
          absurd (both (sym (seat_open (AccountStands puts) (answer_by order m point) puts (fields_of b) l x.at.c x.at.client account s x.runs.is_entry.client_here
          (ap (λ (c : ℕ). found b.accounts c) (sym c_is) ∙ e)).0 ∙ o))
        where
          both : true ≡ false → ⊥
          both z = cc

      opened_so : (account : Option (AccountView K V M)) → found b.accounts run.client ≡ account → x.at.client.is_open ≡ true
          → (after : AccountView K V M) × (found a.accounts x.at.c ≡ Some after) × AccountStands puts after (with_entry x.at.client x.at.n (ended_entry l x.at fate outcome))
      opened_so None e o =
          absurd (both (sym o ∙ seat_shut (AccountStands puts) (answer_by order m point) puts (fields_of b) l x.at.c x.at.client s x.runs.is_entry.client_here
          (ap (λ (c : ℕ). found b.accounts c) (sym c_is) ∙ e)))
        where
          both : true ≡ false → ⊥
          both z = cc
      opened_so (Some account) e o =
          let ends = set account e in
          let w = seat_open (AccountStands puts) (answer_by order m point) puts (fields_of b) l x.at.c x.at.client account s x.runs.is_entry.client_here (ap (λ (c : ℕ). found b.accounts c) (sym c_is) ∙ e) in
          let there = running_there puts (answer_by order m point) l.inputs x.at.c account x.at.client x.at.n x.at.entry r x.at.started x.at.out
          (s.kept.clients x.at.c x.at.client x.runs.is_entry.client_here) w.1 x.runs.is_entry.here x.runs.runs in
          let was : IsStage account x.at.n (Running ends.begun) = subst (λ (n : ℕ). IsStage account n (Running ends.begun)) n_is ends.was in
          let accepted : x.at.entry.accepted ≡ ends.begun.accepted =
          ap (λ (y : Begun). y.accepted) (running_one {K = K} {V = V} {M = M} (begun_at r x.at) ends.begun (one_stage account x.at.n (Running (begun_at r x.at)) (Running ends.begun) there was)) in (
            with_stage account run.number (Made (record { reply = run_reply run b.inputs.revision outcome; accepted = ends.begun.accepted })),
            ap (λ (c : ℕ). found a.accounts c) (sym c_is) ∙ (ends.set run.client ∙ if_at run.client (Some _) (found b.accounts run.client)),
            subst (λ (n : ℕ). AccountStands puts (with_stage account n (Made (record { reply = run_reply run b.inputs.revision outcome; accepted = ends.begun.accepted }))) (with_entry x.at.client x.at.n (ended_entry l x.at fate outcome))) (sym n_is)
                (subst (λ (y : ReplyView K V M). AccountStands puts (with_stage account x.at.n (Made (record { reply = y; accepted = ends.begun.accepted }))) (with_entry x.at.client x.at.n (ended_entry l x.at fate outcome))) (sym reply_is)
                (finished_stands puts account x.at.client x.at.n ends.begun (ended_entry l x.at fate outcome) (reply_at l x.at outcome) w.1 was
                (ap (λ (f : Bool). place_ended f (reply_at l x.at outcome)) o) accepted)),
          )

  -- the work of a run that was taken out and put back is another
  pub out_moved : (b a : Held K P V M) (l : Ledger K V M O) (r : ℕ) (run after : RunView K P) (x : RunHere l r run)
      → StandsOf order m point puts b l → found b.runs r ≡ Some run → IsSameRun run after
      → ((k : ℕ) → found a.runs k ≡ (if k == r then Some after else found b.runs k)) → ((k : ℕ) → found a.accounts k ≡ found b.accounts k) → SameBut b a
      → Kept (answer_by order m point) puts (with_out l r x.at (out_at after.top)) → StandsOf order m point puts a (with_out l r x.at (out_at after.top))
  out_moved b a l r run after x s h is runs accounts but kept =
      out_stands (AccountStands puts) (answer_by order m point) puts (fields_of b) (fields_of a) l (with_out l r x.at (out_at after.top)) r x.at (out_at after.top) s x.runs
      (record { inputs = but.inputs; opened = but.opened; clients = but.clients })
      (record {
        here = ap (option_map seen_of) (runs r ∙ if_at r (Some after) (found b.runs r)) ∙ ap Some seen_is;
        others = λ q ne. ap (option_map seen_of) (runs q ∙ if_other q r (Some after) (found b.runs q) ne);
      })
      but.started accounts
      (λ account w. out_changed_stands puts account x.at.client x.at.n x.at.entry r x.at.started x.at.out (out_at after.top) w x.runs.is_entry.here x.runs.runs)
      refl kept
    where
      seen_is : seen_of after ≡ record { client = x.at.c; number = x.at.n; request = x.at.entry.request; started = x.at.started; out = out_at after.top }
      seen_is =
          ap (λ (y : ℕ). record { client = y; number = after.number; request = after.request; started = after.started; out = out_at after.top }) (is.client ∙ ap (λ (y : RunSeen K). y.client) x.same)
          ∙ (ap (λ (y : ℕ). record { client = x.at.c; number = y; request = after.request; started = after.started; out = out_at after.top }) (is.number ∙ ap (λ (y : RunSeen K). y.number) x.same)
          ∙ (ap (λ y. record { client = x.at.c; number = x.at.n; request = y; started = after.started; out = out_at after.top }) (is.request ∙ ap (λ (y : RunSeen K). y.request) x.same)
          ∙ ap (λ (y : ℕ). record { client = x.at.c; number = x.at.n; request = x.at.entry.request; started = y; out = out_at after.top }) (is.started ∙ ap (λ (y : RunSeen K). y.started) x.same)))

  -- a run that was taken out is put back, its work as before
  pub back_moved : (b a : Held K P V M) (l : Ledger K V M O) (r : ℕ) (run after : RunView K P) → StandsOf order m point puts b l → found b.runs r ≡ Some run → IsSameRun run after
      → out_at after.top ≡ out_at run.top → ((k : ℕ) → found a.runs k ≡ (if k == r then Some after else found b.runs k)) → ((k : ℕ) → found a.accounts k ≡ found b.accounts k)
      → SameBut b a → StandsOf order m point puts a l
  back_moved b a l r run after s h is out runs accounts but =
      stands_same (AccountStands puts) (answer_by order m point) puts (fields_of b) (fields_of a) l
      (record {
        counts = record { inputs = but.inputs; opened = but.opened; clients = but.clients };
        seats = accounts;
        runs = λ k. same_seen k (k == r) refl;
        started = but.started;
      })
      s
    where
      seen_is : seen_of after ≡ seen_of run
      seen_is =
          ap (λ (y : ℕ). record { client = y; number = after.number; request = after.request; started = after.started; out = out_at after.top }) is.client
          ∙ (ap (λ (y : ℕ). record { client = run.client; number = y; request = after.request; started = after.started; out = out_at after.top }) is.number
          ∙ (ap (λ y. record { client = run.client; number = run.number; request = y; started = after.started; out = out_at after.top }) is.request
          ∙ (ap (λ (y : ℕ). record { client = run.client; number = run.number; request = run.request; started = y; out = out_at after.top }) is.started
          ∙ ap (λ y. record { client = run.client; number = run.number; request = run.request; started = run.started; out = y }) out)))

      same_seen : (k : ℕ) (t : Bool) → (k == r) ≡ t → option_map seen_of (found a.runs k) ≡ option_map seen_of (found b.runs k)
      same_seen k true e =
          ap (option_map seen_of) (runs k ∙ ap (λ (z : Bool). if z then Some after else found b.runs k) e)
          ∙ (ap Some seen_is ∙ (ap (option_map seen_of) (sym h) ∙ ap (λ (j : ℕ). option_map seen_of (found b.runs j)) (sym (eqb-true k r e))))
      same_seen k false e = ap (option_map seen_of) (runs k ∙ ap (λ (z : Bool). if z then Some after else found b.runs k) e)

-- what the ledger knows of each run is the same
module _ {K P V M O : Type 0} (order : K → K → Ordering) (m : Machine K P V) (point : M → Point) (puts : O → List (ReplyView K V M)) where
  pub seen_moved : (b a : Held K P V M) (l : Ledger K V M O) → ((k : ℕ) → option_map seen_of (found a.runs k) ≡ option_map seen_of (found b.runs k))
      → ((k : ℕ) → found a.accounts k ≡ found b.accounts k) → SameBut b a → StandsOf order m point puts b l → StandsOf order m point puts a l
  seen_moved b a l runs accounts but s =
      stands_same (AccountStands puts) (answer_by order m point) puts (fields_of b) (fields_of a) l
      (record {
        counts = record { inputs = but.inputs; opened = but.opened; clients = but.clients };
        seats = accounts;
        runs = runs;
        started = but.started;
      })
      s

module _ {R K P V M O : Type 0} (order : K → K → Ordering) (m : Machine K P V) (point : M → Point) (puts : O → List (ReplyView K V M)) (rules : R) where
  -- a run that was overtaken and taken out is stopped
  pub stop_moved : (b a : Held K P V M) (l : Ledger K V M O) (r : ℕ) (run : RunView K P) (x : RunHere l r run)
      → StandsOf order m point puts b l → found b.runs r ≡ Some run → (run.started < b.inputs.revision) ⊎ (found b.accounts run.client ≡ None)
      → ((k : ℕ) → found a.runs k ≡ (if k == r then None else found b.runs k))
      → ((account : AccountView K V M) → found b.accounts run.client ≡ Some account → EndsIn b.accounts a.accounts account run.client run.number (run_reply run b.inputs.revision (Cancelled run.started b.inputs.revision)))
      → (found b.accounts run.client ≡ None → (k : ℕ) → found a.accounts k ≡ found b.accounts k)
      → SameBut b a → Stops l r (ended l x.at x.at.entry.fate (Cancelled x.at.started l.inputs.revision))
      × StandsOf order m point puts a (ended l x.at x.at.entry.fate (Cancelled x.at.started l.inputs.revision))
  stop_moved b a l r run x s h late runs set same but =
      let stops : Stops l r (ended l x.at x.at.entry.fate (Cancelled x.at.started l.inputs.revision)) = (x.at, x.runs, overtaken order m point puts b l r run s x late, refl) in (
        stops,
        end_moved order m point puts b a l r run x.at.entry.fate (Cancelled x.at.started l.inputs.revision) x s h runs
            (λ account e. subst (λ (y : Outcome K V M). EndsIn b.accounts a.accounts account run.client run.number (run_reply run b.inputs.revision y)) same_outcome (set account e))
            same but
            (kept_looks (answer_by order m point) puts {P = P} rules r (Ok Stopped) l _ s.kept stops),
      )
    where
      same_outcome : cancelled_as {K = K} {V = V} {M = M} run.started b.inputs.revision ≡ cancelled_as x.at.started l.inputs.revision
      same_outcome =
          ap (λ (i : ℕ). cancelled_as i b.inputs.revision) (ap (λ (y : RunSeen K). y.started) x.same)
          ∙ ap (λ (i : ℕ). cancelled_as x.at.started i) (ap (λ (t : Table). t.revision) (sym s.inputs))

  -- the run `at` is the one that the core keeps
  pub run_is : (b : Held K P V M) (l : Ledger K V M O) (r : ℕ) (run : RunView K P) (at : RunAt K V M O) → StandsOf order m point puts b l → found b.runs r ≡ Some run → Runs l r at
      → seen_of run ≡ at_seen at
  run_is b l r run at s h w =
      some_one (seen_of run) (at_seen at)
      (ap (option_map seen_of) (sym h) ∙ run_seen (AccountStands puts) (answer_by order m point) puts (fields_of b) l r at s w)

  -- a result that does not fit is of no work of the run
  pub not_fitting : (b : Held K P V M) (l : Ledger K V M O) (r : ℕ) (run : RunView K P) (done : DoneView R K P V) → StandsOf order m point puts b l → found b.runs r ≡ Some run
      → ((done.run ≡ r) × (done.started ≡ run.started) × (out_at run.top ≡ Some (out_of done)) → ⊥) → (at : RunAt K V M O) → Runs l r at → IsOf r at done → ⊥
  not_fitting b l r run done s h f at w o =
      let is = run_is b l r run at s h w in
      f (o.run_same, o.started ∙ ap (λ (y : RunSeen K). y.started) (sym is), ap (λ (y : RunSeen K). y.out) is ∙ o.out)

  pub fits_of : (l : Ledger K V M O) (r : ℕ) (run : RunView K P) (done : DoneView R K P V) (x : RunHere l r run)
      → (done.run ≡ r) × (done.started ≡ run.started) × (out_at run.top ≡ Some (out_of done)) → IsOf r x.at done
  fits_of l r run done x f = record {
    run_same = f.0;
    started = f.1 ∙ ap (λ (y : RunSeen K). y.started) x.same;
    out = ap (λ (y : RunSeen K). y.out) (sym x.same) ∙ f.2;
  }

  idle_of : (l : Ledger K V M O) (r : ℕ) (run : RunView K P) (x : RunHere l r run) → out_at run.top ≡ None → x.at.out ≡ None
  idle_of l r run x e = ap (λ (y : RunSeen K). y.out) (sym x.same) ∙ e

  -- a run takes its result
  pub give_moved : (b a : Held K P V M) (l : Ledger K V M O) (r : ℕ) (run after : RunView K P) (done : DoneView R K P V)
      → StandsOf order m point puts b l → found b.runs r ≡ Some run → ((run.started < b.inputs.revision) ⊎ (found b.accounts run.client ≡ None) → ⊥)
      → (done.run ≡ r) × (done.started ≡ run.started) × (out_at run.top ≡ Some (out_of done)) → IsSameRun run after → out_at after.top ≡ None
      → ((k : ℕ) → found a.runs k ≡ (if k == r then Some after else found b.runs k)) → ((k : ℕ) → found a.accounts k ≡ found b.accounts k) → SameBut b a
      → Reaches (Gives r done (Ok Stepped)) l (StandsOf order m point puts a)
  give_moved b a l r run after done s h early f same empty runs accounts but =
      let x = run_here order m point puts b l r run s h in
      let move : Gives r done (Ok Stepped) l (with_out l r x.at (out_at after.top)) =
      (x.at, x.runs, fits_of l r run done x f, (current order m point puts b l r run s x early).0, ap (with_out l r x.at) empty) in (
        with_out l r x.at (out_at after.top),
        move,
        out_moved order m point puts b a l r run after x s h same runs accounts but (kept_gives (answer_by order m point) puts r done (Ok Stepped) l _ s.kept move),
      )

  -- a run could not take its result
  pub give_refused : (b : Held K P V M) (l : Ledger K V M O) (r : ℕ) (run : RunView K P) (done : DoneView R K P V) → StandsOf order m point puts b l → found b.runs r ≡ Some run
      → ((run.started < b.inputs.revision) ⊎ (found b.accounts run.client ≡ None) → ⊥)
      → (done.run ≡ r) × (done.started ≡ run.started) × (out_at run.top ≡ Some (out_of done))
      → (at : RunAt K V M O) × Runs l r at × IsOf r at done × IsCurrent l at
  give_refused b l r run done s h early f =
      let x = run_here order m point puts b l r run s h in
      (x.at, x.runs, fits_of l r run done x f, (current order m point puts b l r run s x early).0)

  -- what a run that looks is: current, and its work is not out
  pub goes_on : (b : Held K P V M) (l : Ledger K V M O) (r : ℕ) (run : RunView K P) → StandsOf order m point puts b l → found b.runs r ≡ Some run
      → ((run.started < b.inputs.revision) ⊎ (found b.accounts run.client ≡ None) → ⊥) → out_at run.top ≡ None → (at : RunAt K V M O) × GoesOn l r at
  goes_on b l r run s h early empty =
      let x = run_here order m point puts b l r run s h in
      (x.at, record { runs = x.runs; current = (current order m point puts b l r run s x early).0; idle = idle_of l r run x empty })

  -- a run whose work is out is blocked by itself
  pub look_blocked : (b : Held K P V M) (l : Ledger K V M O) (r : ℕ) (run : RunView K P) → StandsOf order m point puts b l → found b.runs r ≡ Some run
      → ((run.started < b.inputs.revision) ⊎ (found b.accounts run.client ≡ None) → ⊥) → IsSome (out_at run.top)
      → (at : RunAt K V M O) × Runs l r at × IsCurrent l at × ((out : Out K) × (at.out ≡ Some out))
  look_blocked b l r run s h early full =
      let x = run_here order m point puts b l r run s h in
      let w = some_of (out_at run.top) full in
      (x.at, x.runs, (current order m point puts b l r run s x early).0, (w.0, ap (λ (y : RunSeen K). y.out) (sym x.same) ∙ w.1))
    where
      some_of : (o : Option (Out K)) → IsSome o → (out : Out K) × (o ≡ Some out)
      some_of None e = absurd (cc)
      some_of (Some out) e = (out, refl)

  -- a run waits for another run
  pub look_held : (b : Held K P V M) (l : Ledger K V M O) (r : ℕ) (run : RunView K P) (other : ℕ) (there : RunView K P) → StandsOf order m point puts b l → found b.runs r ≡ Some run
      → ((run.started < b.inputs.revision) ⊎ (found b.accounts run.client ≡ None) → ⊥) → out_at run.top ≡ None → other ≢ r → found b.runs other ≡ Some there
      → (at : RunAt K V M O) × Runs l r at × IsCurrent l at × IsBlocked l r at other
  look_held b l r run other there s h early empty ne e =
      let x = run_here order m point puts b l r run s h in
      let y = run_here order m point puts b l other there s e in
      let now = (current order m point puts b l r run s x early).0 in
      let past : y.at.started ≤ l.inputs.revision = (runs_placed (answer_by order m point) puts l other y.at s.kept y.runs).3 in
      (x.at, x.runs, now, inr (idle_of l r run x empty, ne, (y.at, y.runs, subst (λ (i : ℕ). y.at.started ≤ i) (sym now.now) past)))

  -- a run hands work out
  pub carry_moved : (b a : Held K P V M) (l : Ledger K V M O) (r : ℕ) (run after : RunView K P) (work : WorkView R K P V) (table : K → Option (Memo K V))
      → StandsOf order m point puts b l → found b.runs r ≡ Some run → ((run.started < b.inputs.revision) ⊎ (found b.accounts run.client ≡ None) → ⊥) → out_at run.top ≡ None
      → IsSameRun run after → HandedOut m rules b.inputs table r after.top work
      → ((k : ℕ) → found a.runs k ≡ (if k == r then Some after else found b.runs k)) → ((k : ℕ) → found a.accounts k ≡ found b.accounts k) → SameBut b a
      → Reaches (LooksFor (answer_by order m point) rules r (Ok (Carry work))) l (StandsOf order m point puts a)
  carry_moved b a l r run after work table s h early empty same handed runs accounts but =
      let x = run_here order m point puts b l r run s h in
      let now = current order m point puts b l r run s x early in
      let move : LooksFor (answer_by order m point) rules r (Ok (Carry work)) l (with_out l r x.at (out_at after.top)) = (
        x.at,
        record { runs = x.runs; current = now.0; idle = idle_of l r run x empty },
        record {
          rules_same = handed.rules_same;
          run_same = handed.run_same;
          started = handed.started ∙ (sym now.1 ∙ ap (λ (y : RunSeen K). y.started) x.same);
          files_same = handed.files ∙ ap (λ (t : Table). t.files) (sym s.inputs);
        },
        ap (with_out l r x.at) handed.out,
      ) in (
        with_out l r x.at (out_at after.top),
        move,
        out_moved order m point puts b a l r run after x s h same runs accounts but (kept_looks (answer_by order m point) puts {P = P} rules r (Ok (Carry work)) l _ s.kept move),
      )

  -- a run answers
  pub answer_moved : (b a : Held K P V M) (l : Ledger K V M O) (r : ℕ) (run : RunView K P) (answer : Answer K V) (stamp : M)
      → StandsOf order m point puts b l → found b.runs r ≡ Some run → ((run.started < b.inputs.revision) ⊎ (found b.accounts run.client ≡ None) → ⊥) → out_at run.top ≡ None
      → IsAnswer order m b.inputs run.request answer → point stamp ≡ point_now b.inputs
      → ((k : ℕ) → found a.runs k ≡ (if k == r then None else found b.runs k))
      → ((account : AccountView K V M) → found b.accounts run.client ≡ Some account → EndsIn b.accounts a.accounts account run.client run.number (run_reply run b.inputs.revision (Answered answer stamp)))
      → (found b.accounts run.client ≡ None → (k : ℕ) → found a.accounts k ≡ found b.accounts k) → SameBut b a
      → Reaches (LooksFor {P = P} (answer_by order m point) rules r (Ok MoveAnswered)) l (StandsOf order m point puts a)
  answer_moved b a l r run answer stamp s h early empty means stamped runs set accounts but =
      let x = run_here order m point puts b l r run s h in
      let now = current order m point puts b l r run s x early in
      let move : LooksFor {P = P} (answer_by order m point) rules r (Ok MoveAnswered) l (ended l x.at x.at.entry.fate (Answered answer stamp)) = (
        x.at,
        record { runs = x.runs; current = now.0; idle = idle_of l r run x empty },
        (
          answer,
          stamp,
          record {
            key = means.0;
            demanded = ap (λ (y : RunSeen K). y.request.want) (sym x.same) ∙ means.1;
            is_value = record {
              files = l.inputs.files;
              there = s.kept.inputs.latest;
              means_so = subst (λ (t : Table). answer_by order m point stamp (point_now t) means.0 answer) (sym s.inputs) (stamped, means.2);
            };
          },
          refl,
        ),
      ) in (
        ended l x.at x.at.entry.fate (Answered answer stamp),
        move,
        end_moved order m point puts b a l r run x.at.entry.fate (Answered answer stamp) x s h runs set accounts but (kept_looks (answer_by order m point) puts {P = P} rules r (Ok MoveAnswered) l _ s.kept move),
      )

-- there is no work out where a test finds none
pub none_of : {A : Type 0} (o : Option A) → (IsSome o → ⊥) → o ≡ None
none_of None f = refl
none_of (Some x) f = absurd (f refl)

-- a rule that has to be started has a cause
pub why_cause : {K P V : Type 0} (order : K → K → Ordering) (m : Machine K P V) (inputs : Table) (Has : K → Memo K V → Type 0) (k : K) (why : Why K)
    → (IsFresh m Has k → IsCause order m inputs.history inputs.revision Has k Fresh)
    → ((q : K) → HasChangedRead m inputs.history inputs.revision Has k q → IsCause order m inputs.history inputs.revision Has k (Changed q))
    → (IsLapsedRing inputs.history inputs.revision Has k → IsCause order m inputs.history inputs.revision Has k Ring)
    → IsWhy m inputs.history inputs.revision Has k why → IsCause order m inputs.history inputs.revision Has k why
why_cause order m inputs Has k Fresh fresh changed ring w = fresh w
why_cause order m inputs Has k (Changed q) fresh changed ring w = changed q w
why_cause order m inputs Has k Ring fresh changed ring w = ring w

-- each cause in one sense is one in another
pub why_then : {K : Type 0} (A B : Why K → Type 0) (front : List K) (why : Option (Why K)) → HasWhy A front why → ((w : Why K) → A w → B w) → HasWhy B front why
why_then A B front None h f = h
why_then A B front (Some w) h f = (h.0, f w h.1)
