-- One request is withdrawn, at what a store keeps.
use Rattle.std.proofs.Common.{◌≡◌, ℕ, ◌≤◌, ◌==◌, if◌then◌else◌, Bool, true, false, List, length, slice_get, Option, Some, None, refl, sym, ◌∙◌, ap, subst, inl, inr, arith}
use Rattle.std.specs.Option.{option_map}
use Rattle.std.specs.Prelude.{filter}
use Rattle.std.specs.declared.cmp.Ordering.{Ordering}
use Rattle.pq_inputs.specs.Sources.{Table}
use Rattle.pq_rules.specs.Turns.{Machine}
use Rattle.pq_rules.specs.declared.turn.Answer.{Answer}
use Rattle.pq_core.specs.Points.{Point}
use Rattle.pq_core.specs.Replies.{ReplyView}
use Rattle.pq_core.specs.Lanes.{ReadyView}
use Rattle.pq_core.specs.Ledger.{Out, Place, Waiting, Running, Ready, Put, Dropped, Entry, Client, Ledger, IsOpen, WasWithdrawn, with_client, with_entry}
use Rattle.pq_core.specs.RightReply.{IsTrueOutcome, answer_by}
use Rattle.pq_core.specs.Moves.{Reaches, RunAt, IsOwed, MayWithdraw, withdrawn, place_ended, reply_at}
use Rattle.pq_core.specs.Kept.{IsDemand, PlaceKept, Kept}
use Rattle.pq_core.specs.Accounts.{AccountView, IsStage}
use Rattle.pq_core.specs.Stores.{Held, StandsOf, fields_of, run_seen}
use Rattle.pq_core.specs.aux.Accounts.{AccountStands, StageStands}
use Rattle.pq_core.specs.aux.Queue.{IsQueue, is_other_seat}
use Rattle.pq_core.specs.aux.Rising.{found}
use Rattle.pq_core.specs.aux.Runs.{RunView}
use Rattle.pq_core.specs.aux.RunEnds.{EndsBy}
use Rattle.pq_core.specs.aux.Stands.{RunSeen, EntryStands}
use Rattle.pq_core.specs.aux.Withdrawing.{IsOtherStage, IsOwedIn, IsRunOf, IsWithdrawnIn, WithdrawsWaiting, WithdrawsOne, WithdrawsRuns, withdrawn_reply}
use Rattle.pq_core.specs.aux.Advancing.{Advances}
use Rattle.pq_core.specs.declared.store.account.Begun.{Begun}
use Rattle.pq_core.specs.declared.store.account.Stage.{Stage}
use Rattle.pq_core.specs.declared.store.account.Stage.TheVariants.{Waiting as StageWaiting, Running as StageRunning, Made, Collected}
use Rattle.pq_core.specs.declared.values.label.Label.{Label}
use Rattle.pq_core.specs.declared.values.outcome.Outcome.TheVariants.{Withdrawn}
use Rattle.pq_core.specs.declared.values.request.Request.{Request}
use Rattle.pq_core.specs.declared.values.request.Want.{Want}
use Rattle.pq_core.specs.declared.values.request.Want.TheVariants.{Demand, Fixed}
use Rattle.pq_core.specs.declared.store.rising.Place.{Place as Slot}
use Rattle.pq_core.specs.declared.steps.run_end.Ending.TheVariants.{Withdrawn as EndWithdrawn}
use Rattle.pq_core.specs.declared.calls.withdrawing.Owed.{Owed}
use Rattle.pq_core.specs.declared.calls.withdrawing.Owed.TheVariants.{Nothing, Waits as OwedWaits, Runs as OwedRuns}
use Rattle.pq_core.proofs.AccountMoves.{one_stage}
use Rattle.pq_core.proofs.AccountStanding.{IsPending, set_stands, stage_at, stage_of}
use Rattle.pq_core.proofs.Calling.{open_of, seat_open, placed}
use Rattle.pq_core.proofs.Changing.{if_at, if_other}
use Rattle.pq_core.proofs.Ending.{open_restand, ready_place}
use Rattle.pq_core.proofs.Keeping.{kept_client, kept_entry}
use Rattle.pq_core.proofs.Lists.{get_set, none_some, same_or_other, set_other, some_one}
use Rattle.pq_core.proofs.Making.{advances_staged}
use Rattle.pq_core.proofs.Moving.{waiting_place}
use Rattle.pq_core.proofs.Queued.{queue_withdrawn}
use Rattle.pq_core.proofs.StoreClosing.{SameButAccounts, account_set, same_runs}
use Rattle.pq_core.proofs.StoreResting.{stage_waits}
use Rattle.pq_core.proofs.StoreRunning.{run_is}

-- ---- what is kept

module _ {K V M : Type 0} (means : M → Point → K → Answer K V → Type 0) where
  -- a request that is owed a reply is past those that were put, and demands a key
  pub owed_placed : (inputs : Table) (qs : List (ReplyView K V M)) (c n : ℕ) (entry : Entry K V M) (place : Place K V M) → PlaceKept means inputs qs c n entry place → IsOwed place
      → (length qs ≤ n) × IsDemand entry.request.want
  owed_placed inputs qs c n entry Waiting k o = k
  owed_placed inputs qs c n entry (Running run started out) k o = (k.0, k.1)
  owed_placed inputs qs c n entry (Ready reply) k o = absurd o
  owed_placed inputs qs c n entry Put k o = absurd o
  owed_placed inputs qs c n entry Dropped k o = absurd o

  withdrawn_true : (inputs : Table) (accepted : ℕ) (want : Want K) → IsDemand want → accepted ≤ inputs.revision → IsTrueOutcome {K = K} {V = V} means inputs accepted WasWithdrawn want inputs.revision Withdrawn
  withdrawn_true inputs accepted (Demand key) d past = (refl, past, omega arith)
  withdrawn_true inputs accepted (Fixed text) d past = absurd d

module _ {K V M O : Type 0} (means : M → Point → K → Answer K V → Type 0) (puts : O → List (ReplyView K V M)) where
  -- a request is withdrawn
  pub kept_withdrawn : (l : Ledger K V M O) (c n : ℕ) (client : Client K V M O) (entry : Entry K V M) → Kept means puts l → slice_get l.clients c ≡ Some client → slice_get client.entries n ≡ Some entry
      → IsOwed entry.place → Kept means puts (with_client l c (with_entry client n (withdrawn l c n entry)))
  kept_withdrawn l c n client entry k here at owed =
      let ck = k.clients c client here in
      let ek = ck.each n entry at in
      let x = owed_placed means l.inputs (puts client.outbox) c n entry entry.place ek.placed owed in
      kept_client means puts l c _ k
      (kept_entry means l.inputs (puts client.outbox) c client.entries n _ ck
      (record {
        past = ek.past;
        placed = (x.0, record { client = refl; number = refl; request = refl; outcome = withdrawn_true means l.inputs entry.accepted entry.request.want x.1 ek.past });
      }))

-- ---- a request that waits

module _ {K V M : Type 0} where
  -- the account goes on
  pub withdrawn_advances : (c n revision : ℕ) (before after : AccountView K V M) → IsWithdrawnIn c n revision before after → Advances before after
  withdrawn_advances c n revision before after w =
      subst (λ (x : AccountView K V M). Advances before x) (sym w.is)
      (advances_staged before n (StageWaiting w.request w.accepted) _ w.waits tt tt)

  -- and its request leaves the queue
  pub withdrawn_queue : (b a : List (Slot (AccountView K V M))) (queue left : List (ℕ × ℕ)) (c n revision : ℕ) (account after : AccountView K V M) → found b c ≡ Some account
      → IsWithdrawnIn c n revision account after → ((k : ℕ) → found a k ≡ (if k == c then Some after else found b k))
      → left ≡ filter (λ seat. is_other_seat c n seat) queue → IsQueue b queue → IsQueue a left
  withdrawn_queue b a queue left c n revision account after here w set e q =
      queue_withdrawn b a queue left c n w.accepted account w.request _ here w.waits
      (subst (λ (x : AccountView K V M). (k : ℕ) → found a k ≡ (if k == c then Some x else found b k)) w.is set) e q

module _ {K P V M O : Type 0} (order : K → K → Ordering) (m : Machine K P V) (point : M → Point) (puts : O → List (ReplyView K V M)) where
  pub waiting_withdrawn : (b a : Held K P V M) (c n : ℕ) (account after : AccountView K V M) (l : Ledger K V M O) → StandsOf order m point puts b l → found b.accounts c ≡ Some account
      → IsWithdrawnIn c n b.inputs.revision account after → ((k : ℕ) → found a.accounts k ≡ (if k == c then Some after else found b.accounts k))
      → SameButAccounts b a → a.opened ≡ b.opened → Reaches (WithdrawsWaiting c n) l (StandsOf order m point puts a)
  waiting_withdrawn b a c n account after l s here w accounts e count =
      let x = stage_waits order m point puts b l c n w.accepted account w.request s here w.waits in
      let client : Client K V M O = x.0 in
      let entry : Entry K V M = x.1 in
      let new : Entry K V M = withdrawn l c n entry in
      let is_open : IsOpen l c client = record { here = x.2.is_entry.client_here; open_yet = x.4 } in
      let next : Ledger K V M O = with_client l c (with_entry client n new) in
      let move : WithdrawsWaiting c n l next = (client, is_open, (entry, x.2.is_entry.here, x.2.waits, refl)) in (
        next,
        move,
        open_restand (AccountStands puts) (answer_by order m point) puts (fields_of b) (fields_of a) l next c n client (with_entry client n new) after s is_open x.4
            (account_set order m point puts b a c (Some after) accounts)
            (record { inputs = e.inputs; opened = count; clients = e.clients })
            (same_runs order m point puts b a e)
            (λ i other ne h. set_other client.entries n new i ne ∙ h)
            (λ i other h. elim (get_set client.entries n new i other h) [
              | inl v ↦ inr (subst (λ (y : Entry K V M). EntryStands (fields_of a) c i y y.place) (sym v.1) tt)
              | inr v ↦ inl (v.1, v.0)
            ])
            (λ other r st u h p. waits_not (sym x.2.waits ∙ (ap (λ (y : Entry K V M). y.place) (some_one entry other (sym x.2.is_entry.here ∙ h)) ∙ p)))
            (subst (λ (y : AccountView K V M). AccountStands puts y (with_entry client n new)) (sym w.is)
            (set_stands puts account client n new (StageWaiting w.request w.accepted) (Made (record { reply = withdrawn_reply c n w.request b.inputs.revision; accepted = w.accepted })) x.5 w.waits
            (reply_is entry.request l.inputs.revision x.3 (ap (λ (t : Table). t.revision) s.inputs), x.6)))
            refl
            (kept_withdrawn (answer_by order m point) puts l c n client entry s.kept x.2.is_entry.client_here x.2.is_entry.here (subst (λ (p : Place K V M). IsOwed p) (sym x.2.waits) tt)),
      )
    where
      waits_not : {r st : ℕ} {u : Option (Out K)} → waiting_place {K = K} {V = V} {M = M} ≡ placed {K = K} {V = V} {M = M} r st u → ⊥
      waits_not z = cc

      reply_is : (request : Request K) (revision : ℕ) → request ≡ w.request → revision ≡ b.inputs.revision
          → ready_place {K = K} {V = V} {M = M} (withdrawn_reply c n request revision) ≡ ready_place (withdrawn_reply c n w.request b.inputs.revision)
      reply_is request revision f g =
          ap (λ (y : Request K). ready_place {K = K} {V = V} {M = M} (withdrawn_reply c n y revision)) f
          ∙ ap (λ (y : ℕ). ready_place {K = K} {V = V} {M = M} (withdrawn_reply c n w.request y)) g

-- ---- what a request has to do

-- the run that a map of what is seen of runs has
some_mapped : {K P : Type 0} (o : Option (RunView K P)) (seen : RunSeen K) → option_map run_seen o ≡ Some seen → (run : RunView K P) × (o ≡ Some run) × (run_seen run ≡ seen)
some_mapped None seen e = absurd (none_some seen e)
some_mapped (Some run) seen e = (run, refl, some_one (run_seen run) seen e)

pending_owed : {K V M : Type 0} (place : Place K V M) → IsOwed place → IsPending place
pending_owed Waiting o = tt
pending_owed (Running run started out) o = tt
pending_owed (Ready reply) o = absurd o
pending_owed Put o = absurd o
pending_owed Dropped o = absurd o

module _ {K V M : Type 0} where
  -- `OwedWaiting account n label` is that the request `n` of `account` waits, and has the label
  -- `label`
  pub record OwedWaiting (account : AccountView K V M) (n : ℕ) (label : Label) : Type 0 where
    pub request : Request K
    pub accepted : ℕ
    pub waits : IsStage account n (StageWaiting request accepted)
    pub labelled : request.label ≡ label

module _ {K P V M : Type 0} where
  pub owed_waiting : (account : AccountView K V M) (runs : List (Slot (RunView K P))) (n : ℕ) (label : Label) → IsOwedIn account runs n label OwedWaits → OwedWaiting account n label
  owed_waiting account runs n label (inl x) = record {
    request = x.2.0;
    accepted = x.2.1;
    waits = subst (λ (y : Stage K (ReadyView K V M)). IsStage account n y) x.2.2 x.1;
    labelled = x.2.3;
  }
  owed_waiting account runs n label (inr x) = absurd (not_so x.0)
    where
      not_so : OwedWaits ≡ Nothing → ⊥
      not_so e = cc

  -- `OwedRunning account runs n label r` is that the request `n` of `account` is in the run `r`,
  -- which has the label `label`
  pub record OwedRunning (account : AccountView K V M) (runs : List (Slot (RunView K P))) (n : ℕ) (label : Label) (r : ℕ) : Type 0 where
    pub begun : Begun
    pub runs_in : IsStage account n (StageRunning begun)
    pub is : begun.run ≡ r
    pub run : RunView K P
    pub here : found runs r ≡ Some run
    pub labelled : run.request.label ≡ label

  pub owed_running : (account : AccountView K V M) (runs : List (Slot (RunView K P))) (n : ℕ) (label : Label) (r : ℕ) → IsOwedIn account runs n label (OwedRuns r) → OwedRunning account runs n label r
  owed_running account runs n label r (inl x) = record {
    begun = x.2.0;
    runs_in = subst (λ (y : Stage K (ReadyView K V M)). IsStage account n y) x.2.2 x.1;
    is = x.2.3;
    run = x.2.1;
    here = x.2.4;
    labelled = x.2.5;
  }
  owed_running account runs n label r (inr x) = absurd (not_so x.0)
    where
      not_so : OwedRuns r ≡ Nothing → ⊥
      not_so e = cc

module _ {K P V M O : Type 0} (order : K → K → Ordering) (m : Machine K P V) (point : M → Point) (puts : O → List (ReplyView K V M)) where
  -- the run of the ledger that a request in a run is in
  entry_runs : (b : Held K P V M) (l : Ledger K V M O) (c n : ℕ) (client : Client K V M O) (entry : Entry K V M) (r st : ℕ) (o : Option (Out K)) → StandsOf order m point puts b l
      → slice_get l.clients c ≡ Some client → slice_get client.entries n ≡ Some entry → entry.place ≡ Running r st o
      → (run : RunView K P) × (found b.runs r ≡ Some run) × (run_seen run ≡ record { client = c; number = n; request = entry.request; started = st; out = o })
  entry_runs b l c n client entry r st o s here at is =
      some_mapped (found b.runs r) _ (subst (λ (p : Place K V M). EntryStands (fields_of b) c n entry p) is ((s.each c client here).entries n entry at)).1

  -- a request in another stage may not be withdrawn
  other_not : (b : Held K P V M) (l : Ledger K V M O) (c n : ℕ) (client : Client K V M O) (entry : Entry K V M) (label : Label) (stage : Stage K (ReadyView K V M)) → StandsOf order m point puts b l
      → slice_get l.clients c ≡ Some client → slice_get client.entries n ≡ Some entry → StageStands stage entry → IsOtherStage b.runs label stage → MayWithdraw label entry → ⊥
  other_not b l c n client entry label (StageWaiting request accepted) s here at stands other may = other (ap (λ (y : Request K). y.label) (sym stands.1) ∙ may.labelled)
  other_not b l c n client entry label (StageRunning begun) s here at stands other may =
      let x = entry_runs b l c n client entry begun.run stands.0 stands.1 s here at stands.2 in
      other x.0 x.1 (ap (λ (y : RunSeen K). y.request.label) x.2 ∙ may.labelled)
  other_not b l c n client entry label (Made ready) s here at stands other may = absurd (subst (λ (p : Place K V M). IsOwed p) stands.0 may.owed)
  other_not b l c n client entry label Collected s here at stands other may = absurd (subst (λ (p : Place K V M). IsOwed p) stands.1 may.owed)

  -- the request has nothing to do
  pub nothing_withdrawn : (b : Held K P V M) (l : Ledger K V M O) (c n : ℕ) (account : AccountView K V M) (label : Label) → StandsOf order m point puts b l → found b.accounts c ≡ Some account
      → IsOwedIn account b.runs n label Nothing → WithdrawsOne c n label false l l
  nothing_withdrawn b l c n account label s here owed = (w.0, w.1, none, refl)
    where
      w : (client : Client K V M O) × IsOpen l c client × AccountStands puts account client
      w = open_of (AccountStands puts) (answer_by order m point) puts (fields_of b) l c account s here

      none : (entry : Entry K V M) → slice_get w.0.entries n ≡ Some entry → MayWithdraw label entry → ⊥
      none entry at may =
          let st = stage_of puts (answer_by order m point) l.inputs c account w.0 n entry (s.kept.clients c w.0 w.1.here) w.2 at (pending_owed entry.place may.owed) in
          elim owed [
            | inl x ↦
                other_not b l c n w.0 entry label st.stage s w.1.here at st.stands
                (subst (λ (y : Stage K (ReadyView K V M)). IsOtherStage b.runs label y) (one_stage account n x.0 st.stage x.1 st.is_at) x.2) may
            | inr x ↦ x.1 st.stage st.is_at
          ]

  -- the request waits, and is withdrawn
  pub one_waiting : (b : Held K P V M) (l next : Ledger K V M O) (c n : ℕ) (account : AccountView K V M) (label : Label) → StandsOf order m point puts b l → found b.accounts c ≡ Some account
      → OwedWaiting account n label → WithdrawsWaiting c n l next → WithdrawsOne c n label true l next
  one_waiting b l next c n account label s here owed move =
      let w = open_of (AccountStands puts) (answer_by order m point) puts (fields_of b) l c account s here in
      let client_is : w.0 ≡ move.0 = some_one w.0 move.0 (sym w.1.here ∙ move.1.here) in
      let x = stage_at puts account w.0 n (StageWaiting owed.request owed.accepted) w.2 owed.waits in
      let entry_is : x.entry ≡ move.2.0 = some_one x.entry move.2.0 (sym x.here ∙ (ap (λ (y : Client K V M O). slice_get y.entries n) client_is ∙ move.2.1)) in (
        move.0,
        move.1,
        (
          move.2.0,
          move.2.1,
          record {
            owed = subst (λ (p : Place K V M). IsOwed p) (sym move.2.2) tt;
            labelled = ap (λ (y : Entry K V M). y.request.label) (sym entry_is) ∙ (ap (λ (y : Request K). y.label) x.stands.1 ∙ owed.labelled);
          },
          move.2.3,
        ),
      )

  -- the run is of the request
  pub run_of_seat : (b : Held K P V M) (l : Ledger K V M O) (c n : ℕ) (account : AccountView K V M) (label : Label) (r : ℕ) → StandsOf order m point puts b l → found b.accounts c ≡ Some account
      → (owed : OwedRunning account b.runs n label r) → (owed.run.client ≡ c) × (owed.run.number ≡ n)
  run_of_seat b l c n account label r s here owed =
      let w = open_of (AccountStands puts) (answer_by order m point) puts (fields_of b) l c account s here in
      let x = stage_at puts account w.0 n (StageRunning owed.begun) w.2 owed.runs_in in
      let y = entry_runs b l c n w.0 x.entry owed.begun.run x.stands.0 x.stands.1 s w.1.here x.here x.stands.2 in
      let same : owed.run ≡ y.0 = some_one owed.run y.0 (sym owed.here ∙ (ap (λ (i : ℕ). found b.runs i) (sym owed.is) ∙ y.1)) in
      let seen = ap (λ (z : RunView K P). run_seen z) same ∙ y.2 in
      (ap (λ (z : RunSeen K). z.client) seen, ap (λ (z : RunSeen K). z.number) seen)

  pub owed_run_of : (b : Held K P V M) (l : Ledger K V M O) (c n : ℕ) (account : AccountView K V M) (label : Label) (owed : Owed) → StandsOf order m point puts b l → found b.accounts c ≡ Some account
      → IsOwedIn account b.runs n label owed → IsRunOf c b.runs owed
  owed_run_of b l c n account label Nothing s here o = tt
  owed_run_of b l c n account label OwedWaits s here o = tt
  owed_run_of b l c n account label (OwedRuns r) s here o =
      let x = owed_running account b.runs n label r o in
      λ run h. ap (λ (z : RunView K P). z.client) (some_one run x.run (sym h ∙ x.here)) ∙ (run_of_seat b l c n account label r s here x).0

  -- the request is in a run, which is over
  pub one_running : (b : Held K P V M) (l next : Ledger K V M O) (c n : ℕ) (account : AccountView K V M) (label : Label) (r : ℕ) → StandsOf order m point puts b l → found b.accounts c ≡ Some account
      → OwedRunning account b.runs n label r → EndsBy (answer_by order m point) r EndWithdrawn l next → WithdrawsOne c n label true l next
  one_running b l next c n account label r s here owed ends =
      let at : RunAt K V M O = ends.0 in
      let seat = run_of_seat b l c n account label r s here owed in
      let seen = run_is order m point puts (tt {0}) b l r owed.run at s owed.here ends.1 in
      let c_is : at.c ≡ c = ap (λ (z : RunSeen K). z.client) (sym seen) ∙ seat.0 in
      let n_is : at.n ≡ n = ap (λ (z : RunSeen K). z.number) (sym seen) ∙ seat.1 in
      let client_here : slice_get l.clients c ≡ Some at.client = ap (λ (i : ℕ). slice_get l.clients i) (sym c_is) ∙ ends.1.is_entry.client_here in
      let is_open : at.client.is_open ≡ true = (seat_open (AccountStands puts) (answer_by order m point) puts (fields_of b) l c at.client account s client_here here).0 in (
        at.client,
        record { here = client_here; open_yet = is_open },
        (
          at.entry,
          ap (λ (i : ℕ). slice_get at.client.entries i) (sym n_is) ∙ ends.1.is_entry.here,
          record {
            owed = subst (λ (p : Place K V M). IsOwed p) (sym ends.1.runs) tt;
            labelled = ap (λ (z : RunSeen K). z.request.label) (sym seen) ∙ owed.labelled;
          },
          ends.2
              ∙ (ap (λ (f : Bool). with_client l at.c (with_entry at.client at.n (record { request = at.entry.request; accepted = at.entry.accepted; place = place_ended f (reply_at l at Withdrawn); fate = WasWithdrawn }))) is_open
              ∙ (ap (λ (i : ℕ). with_client l i (with_entry at.client at.n (withdrawn l i at.n at.entry))) c_is
              ∙ ap (λ (i : ℕ). with_client l c (with_entry at.client i (withdrawn l c i at.entry))) n_is)),
        ),
      )

module _ {K P : Type 0} where
  -- a run that is over is of a request with the label
  pub over_one : (before after : List (Slot (RunView K P))) (c : ℕ) (label : Label) (r : ℕ) (run : RunView K P) → found before r ≡ Some run → run.client ≡ c → run.request.label ≡ label
      → ((k : ℕ) → found after k ≡ (if k == r then None else found before k)) → WithdrawsRuns c label before after
  over_one before after c label r run here client_is labelled set k = elim (same_or_other k r) [
    | inl e ↦
        inr (
          ap (λ (i : ℕ). found after i) e ∙ (set r ∙ if_at r None (found before r)),
          λ other h. (
              let same : other ≡ run = some_one other run (sym h ∙ (ap (λ (i : ℕ). found before i) e ∙ here)) in
              (ap (λ (z : RunView K P). z.client) same ∙ client_is, ap (λ (z : RunView K P). z.request.label) same ∙ labelled)),
        )
    | inr ne ↦ inl (set k ∙ if_other k r None (found before k) ne)
  ]

  pub over_none : (before after : List (Slot (RunView K P))) (c : ℕ) (label : Label) → after ≡ before → WithdrawsRuns c label before after
  over_none before after c label e k = inl (ap (λ (x : List (Slot (RunView K P))). found x k) e)
