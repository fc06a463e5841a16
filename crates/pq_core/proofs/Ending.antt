-- The calls of a core as moves of the ledgers that it stands for: steps and ends of runs,
-- releases, closes, takes, rest.
use Rattle.std.proofs.Common.{◌≡◌, ◌≢◌, ℕ, zero, suc, ◌+◌, ◌<◌, ◌⊎◌, Bool, true, false, List, [], ◌∷◌, map, length, slice_get, slice_set, Option, Some, None, refl, sym, ◌∙◌, ap, subst, inl, inr, arith}
use Rattle.pq_rules.specs.declared.turn.Answer.{Answer}
use Rattle.pq_core.proofs.Lists.{get_set, get_within, get_map, set_long, set_same, set_other, same_or_other, some_one, none_some}
use Rattle.pq_core.proofs.Standing.{entry_elsewhere, client_elsewhere, count_same, count_closed, restand}
use Rattle.pq_core.proofs.Calling.{SeatSet, RunSet, SameCounts, run_entry, placed}
use Rattle.pq_core.proofs.Moving.{SameRuns, elsewhere_seat, none_there}
use Rattle.pq_core.specs.Points.{Point}
use Rattle.pq_core.specs.Replies.{ReplyView}
use Rattle.pq_core.specs.Ledger.{Out, Place, Waiting, Running, Ready, Put, Dropped, Entry, Client, Ledger, IsOpen, with_client, with_entry, moved_to, with_outbox, place_closed, entry_closed, closed, Fate}
use Rattle.pq_core.specs.Moves.{RunAt, Runs, open_count, ended, ended_entry, place_ended, reply_at, with_out}
use Rattle.pq_core.specs.Kept.{Kept}
use Rattle.pq_core.specs.aux.Stands.{RunSeen, Fields, EntryStands, IsOwedNothing, ClientStands, HasRun, Stands}
use Rattle.pq_core.specs.declared.values.outcome.Outcome.{Outcome}

abbrev pub ready_place : {K V M : Type 0} → ReplyView K V M → Place K V M
ready_place reply = Ready reply

module _ {K V M L O : Type 0} (AsSeat : L → Client K V M O → Type 0) (means : M → Point → K → Answer K V → Type 0) (puts : O → List (ReplyView K V M)) where
  ended_entry_stands : (g : Fields K L) (c n : ℕ) (entry : Entry K V M) (flag : Bool) (reply : ReplyView K V M) → EntryStands g c n entry (place_ended flag reply)
  ended_entry_stands g c n entry true reply = tt
  ended_entry_stands g c n entry false reply = tt

  ended_nothing : (flag : Bool) (reply : ReplyView K V M) → flag ≡ false → IsOwedNothing (place_ended flag reply)
  ended_nothing true reply e = absurd (both e)
    where
      both : true ≡ false → ⊥
      both f = cc
  ended_nothing false reply e = tt

  -- a run ends: its reply is in the seat of its client, if that is open
  pub end_stands : (f g : Fields K L) (l m : Ledger K V M O) (r : ℕ) (at : RunAt K V M O) (fate : Fate) (outcome : Outcome K V M)
      → Stands AsSeat means puts f l → Runs l r at → SameCounts f g → RunSet f g r None → g.started ≡ f.started
      → ((k : ℕ) → k ≢ at.c → g.seats k ≡ f.seats k)
      → (at.client.is_open ≡ true → (seat : L) × (g.seats at.c ≡ Some seat) × AsSeat seat (with_entry at.client at.n (ended_entry l at fate outcome)))
      → (at.client.is_open ≡ false → g.seats at.c ≡ None)
      → m ≡ ended l at fate outcome → Kept means puts m → Stands AsSeat means puts g m
  end_stands f g l m r at fate outcome s h counts runs started seats seat shut e kept =
      run_entry AsSeat means puts f g l m r at (ended_entry l at fate outcome) None s h counts runs started seats seat shut
      (λ o. ended_nothing at.client.is_open (reply_at l at outcome) o)
      (ended_entry_stands g at.c at.n (ended_entry l at fate outcome) at.client.is_open (reply_at l at outcome))
      (λ seen x. absurd (none_some seen x))
      e kept

  -- the work of a run is handed out, or its result was taken
  pub out_stands : (f g : Fields K L) (l m : Ledger K V M O) (r : ℕ) (at : RunAt K V M O) (out : Option (Out K))
      → Stands AsSeat means puts f l → Runs l r at → SameCounts f g
      → RunSet f g r (Some (record { client = at.c; number = at.n; request = at.entry.request; started = at.started; out = out }))
      → g.started ≡ f.started → ((k : ℕ) → g.seats k ≡ f.seats k)
      → ((seat : L) → AsSeat seat at.client → AsSeat seat (with_entry at.client at.n (moved_to at.entry (Running r at.started out))))
      → m ≡ with_out l r at out → Kept means puts m → Stands AsSeat means puts g m
  out_stands f g l m r at out s h counts runs started seats as_seat e kept =
      let x = s.each at.c at.client h.is_entry.client_here in
      let below = (subst (λ (p : Place K V M). EntryStands f at.c at.n at.entry p) h.runs (x.entries at.n at.entry h.is_entry.here)).0 in
      run_entry AsSeat means puts f g l m r at (moved_to at.entry (Running r at.started out)) _ s h counts runs started (λ k ne. seats k)
      (λ o. let w = x.seat o in (w.0, seats at.c ∙ w.1, as_seat w.0 w.2))
      (λ o. seats at.c ∙ x.shut o)
      (λ o. tt)
      (subst (λ (i : ℕ). r < i) (sym started) below, runs.here)
      (λ seen y. fits seen (sym (some_one _ seen y)))
      e kept
    where
      fits : (seen : RunSeen K) → seen ≡ record { client = at.c; number = at.n; request = at.entry.request; started = at.started; out = out }
          → (seen.client ≡ at.c) × (seen.number ≡ at.n) × (placed {K = K} {V = V} {M = M} r at.started out ≡ placed r seen.started seen.out) × (seen.request ≡ at.entry.request)
      fits seen y = (
        ap (λ (z : RunSeen K). z.client) y,
        ap (λ (z : RunSeen K). z.number) y,
        subst (λ (z : RunSeen K). placed {K = K} {V = V} {M = M} r at.started out ≡ placed r z.started z.out) (sym y) refl,
        ap (λ (z : RunSeen K). z.request) y,
      )

  -- an open client stays open, and at most its request `n` changes, which is in no run
  pub open_restand : (f g : Fields K L) (l m : Ledger K V M O) (c n : ℕ) (client after : Client K V M O) (seat : L)
      → Stands AsSeat means puts f l → IsOpen l c client → after.is_open ≡ true → SeatSet f g c (Some seat) → SameCounts f g → SameRuns f g
      → ((i : ℕ) (entry : Entry K V M) → i ≢ n → slice_get client.entries i ≡ Some entry → slice_get after.entries i ≡ Some entry)
      → ((i : ℕ) (entry : Entry K V M) → slice_get after.entries i ≡ Some entry → (slice_get client.entries i ≡ Some entry) × (i ≢ n) ⊎ EntryStands g c i entry entry.place)
      → ((entry : Entry K V M) (r s : ℕ) (o : Option (Out K)) → slice_get client.entries n ≡ Some entry → entry.place ≡ Running r s o → ⊥)
      → AsSeat seat after → m ≡ with_client l c after → Kept means puts m → Stands AsSeat means puts g m
  open_restand f g l m c n client after seat s is_open still set counts q same entries none as_seat e kept =
      let elsewhere = elsewhere_seat f g c n (Some seat) set q in
      let x = s.each c client is_open.here in
      restand AsSeat means puts f g l m c n client after s is_open.here elsewhere counts.inputs counts.clients
      (ap (λ (y : Ledger K V M O). y.inputs) e) (ap (λ (y : Ledger K V M O). y.clients) e) (ap (λ (y : Ledger K V M O). y.runs) e ∙ (s.started ∙ sym q.started))
      (count_same l.clients c client after is_open.here (still ∙ sym is_open.open_yet) ∙ (s.opened ∙ sym counts.opened))
      same
      (record {
        seat = λ o. (seat, set.here, as_seat);
        shut = λ o. absurd (both (sym still ∙ o));
        dropped = λ o. absurd (both (sym still ∙ o));
        entries = λ i entry h. elim (entries i entry h) [
          | inl w ↦ entry_elsewhere f g c n c i entry entry.place elsewhere (λ v. w.1 v.1) (x.entries i entry w.0)
          | inr w ↦ w
        ];
      })
      (none_there AsSeat means puts f g l c n client after.entries s is_open.here q.runs none)
      kept
    where
      both : true ≡ false → ⊥
      both o = cc

  -- an open client gets another seat, and the ledger stays as it is
  pub reseated : (f g : Fields K L) (l : Ledger K V M O) (c : ℕ) (client : Client K V M O) (seat : L) → Stands AsSeat means puts f l → IsOpen l c client
      → SeatSet f g c (Some seat) → SameCounts f g → SameRuns f g → AsSeat seat client → Stands AsSeat means puts g l
  reseated f g l c client seat s is_open set counts q as_seat = record {
    inputs = s.inputs ∙ sym counts.inputs;
    clients = s.clients ∙ sym counts.clients;
    opened = s.opened ∙ sym counts.opened;
    started = s.started ∙ sym q.started;
    within = λ k other h. elim (same_or_other k c) [
      | inl is ↦ subst (λ (j : ℕ). j < g.clients) (sym is) (subst (λ (n : ℕ). c < n) (s.clients ∙ sym counts.clients) (get_within l.clients c client is_open.here))
      | inr ne ↦ subst (λ (n : ℕ). k < n) (sym counts.clients) (s.within k other (sym (set.others k ne) ∙ h))
    ];
    each = λ k x h. elim (same_or_other k c) [
      | inl is ↦
          subst (λ (y : ℕ). ClientStands AsSeat g y x) (sym is)
          (subst (λ (y : Client K V M O). ClientStands AsSeat g c y) (some_one client x (sym is_open.here ∙ (ap (slice_get l.clients) (sym is) ∙ h))) here_stands)
      | inr ne ↦ client_elsewhere AsSeat f g c 0 k x (elsewhere_seat f g c 0 (Some seat) set q) ne (s.each k x h)
    ];
    runs = λ r run h. s.runs r run (sym (q.runs r) ∙ h);
    kept = s.kept;
  }
    where
      both : true ≡ false → ⊥
      both o = cc

      here_stands : ClientStands AsSeat g c client
      here_stands = record {
        seat = λ o. (seat, set.here, as_seat);
        shut = λ o. absurd (both (sym is_open.open_yet ∙ o));
        dropped = λ o. absurd (both (sym is_open.open_yet ∙ o));
        entries = λ i entry h.
            entry_elsewhere f g c (suc i) c i entry entry.place (elsewhere_seat f g c (suc i) (Some seat) set q)
            (λ v. let e : i ≡ suc i = v.1 in absurd (omega arith))
            ((s.each c client is_open.here).entries i entry h);
      }

  -- a reply that was ready is put
  pub put_stands : (f g : Fields K L) (l m : Ledger K V M O) (c n : ℕ) (client : Client K V M O) (entry : Entry K V M) (reply : ReplyView K V M) (seat : L) (o : O)
      → Stands AsSeat means puts f l → IsOpen l c client → slice_get client.entries n ≡ Some entry → entry.place ≡ Ready reply
      → SeatSet f g c (Some seat) → SameCounts f g → SameRuns f g
      → AsSeat seat (with_outbox (with_entry client n (moved_to entry Put)) o false)
      → m ≡ with_client l c (with_outbox (with_entry client n (moved_to entry Put)) o false) → Kept means puts m → Stands AsSeat means puts g m
  put_stands f g l m c n client entry reply seat o s is_open here ready set counts q as_seat e kept =
      open_restand f g l m c n client (with_outbox (with_entry client n (moved_to entry Put)) o false) seat s is_open is_open.open_yet set counts q
      (λ i other ne w. set_other client.entries n (moved_to entry Put) i ne ∙ w)
      (λ i other h. elim (get_set client.entries n (moved_to entry Put) i other h) [
        | inl w ↦ inr (subst (λ (y : Entry K V M). EntryStands g c i y y.place) (sym w.1) tt)
        | inr w ↦ inl (w.1, w.0)
      ])
      (λ other r st u h p. ready_not (sym ready ∙ (ap (λ (y : Entry K V M). y.place) (some_one entry other (sym here ∙ h)) ∙ p)))
      as_seat e kept
    where
      ready_not : {r st : ℕ} {u : Option (Out K)} → ready_place {K = K} {V = V} {M = M} reply ≡ placed {K = K} {V = V} {M = M} r st u → ⊥
      ready_not x = cc

  -- a client is closed
  pub close_stands : (f g : Fields K L) (l m : Ledger K V M O) (c : ℕ) (client : Client K V M O) → Stands AsSeat means puts f l → IsOpen l c client
      → SeatSet f g c None → g.inputs ≡ f.inputs → g.opened + 1 ≡ f.opened → g.clients ≡ f.clients → SameRuns f g
      → m ≡ with_client l c (closed client) → Kept means puts m → Stands AsSeat means puts g m
  close_stands f g l m c client s is_open set inputs count clients q e kept = record {
    inputs = ap (λ (y : Ledger K V M O). y.inputs) e ∙ (s.inputs ∙ sym inputs);
    clients = ap (λ (xs : List (Client K V M O)). length xs) clients_set ∙ (set_long l.clients c (closed client) ∙ (s.clients ∙ sym clients));
    opened =
        let a : open_count (slice_set l.clients c (closed client)) + 1 ≡ open_count l.clients = count_closed l.clients c client (closed client) is_open.here is_open.open_yet refl in
        let b : open_count l.clients ≡ f.opened = s.opened in
        let d : g.opened + 1 ≡ f.opened = count in
        ap (λ (xs : List (Client K V M O)). open_count xs) clients_set ∙ omega arith;
    started = ap (λ (y : Ledger K V M O). y.runs) e ∙ (s.started ∙ sym q.started);
    within = λ k seat h. elim (same_or_other k c) [
      | inl w ↦ absurd (none_some seat (sym set.here ∙ (ap g.seats (sym w) ∙ h)))
      | inr w ↦ subst (λ (i : ℕ). k < i) (sym clients) (s.within k seat (sym (set.others k w) ∙ h))
    ];
    each = λ k x h. elim (get_set l.clients c (closed client) k x (ap (λ (xs : List (Client K V M O)). slice_get xs k) (sym clients_set) ∙ h)) [
      | inl w ↦
          subst (λ (y : ℕ). ClientStands AsSeat g y x) (sym w.0)
          (subst (λ (y : Client K V M O). ClientStands AsSeat g c y) (sym w.1) closed_stands)
      | inr w ↦ client_elsewhere AsSeat f g c 0 k x (elsewhere_seat f g c 0 None set q) w.0 (s.each k x w.1)
    ];
    runs = λ r run h. run_closed r run (s.runs r run (sym (q.runs r) ∙ h));
    kept = kept;
  }
    where
      clients_set : m.clients ≡ slice_set l.clients c (closed client)
      clients_set = ap (λ (y : Ledger K V M O). y.clients) e

      both : false ≡ true → ⊥
      both o = cc

      entry_after : (n : ℕ) (entry : Entry K V M) (place : Place K V M) → EntryStands f c n entry place → EntryStands g c n (entry_closed entry) (place_closed place)
      entry_after n entry Waiting x = tt
      entry_after n entry (Running r st o) x = (subst (λ (i : ℕ). r < i) (sym q.started) x.0, q.runs r ∙ x.1)
      entry_after n entry (Ready reply) x = tt
      entry_after n entry Put x = tt
      entry_after n entry Dropped x = tt

      closed_nothing : (place : Place K V M) → IsOwedNothing (place_closed place)
      closed_nothing Waiting = tt
      closed_nothing (Running r st o) = tt
      closed_nothing (Ready reply) = tt
      closed_nothing Put = tt
      closed_nothing Dropped = tt

      closed_stands : ClientStands AsSeat g c (closed client)
      closed_stands = record {
        seat = λ o. absurd (both o);
        shut = λ o. set.here;
        dropped = λ o n entry h. let w = get_map entry_closed client.entries n entry h in subst (λ (y : Entry K V M). IsOwedNothing y.place) (sym w.2) (closed_nothing w.0.place);
        entries = λ n entry h.
            let w = get_map entry_closed client.entries n entry h in
            subst (λ (y : Entry K V M). EntryStands g c n y y.place) (sym w.2)
            (entry_after n w.0 w.0.place ((s.each c client is_open.here).entries n w.0 w.1));
      }

      run_closed : (r : ℕ) (run : RunSeen K) → HasRun l r run → HasRun m r run
      run_closed r run x = elim (same_or_other run.client c) [
        | inl w ↦
            let is : x.client ≡ client = some_one x.client client (sym x.client_here ∙ (ap (λ (k : ℕ). slice_get l.clients k) w ∙ is_open.here)) in
            record {
              client = closed client;
              entry = entry_closed x.entry;
              client_here =
                  ap (λ (xs : List (Client K V M O)). slice_get xs run.client) clients_set ∙ (ap (λ (k : ℕ). slice_get (slice_set l.clients c (closed client)) k) w
                  ∙ set_same l.clients c (closed client) (get_within l.clients c client is_open.here));
              here = map_there client.entries run.number x.entry (ap (λ (y : Client K V M O). slice_get y.entries run.number) (sym is) ∙ x.here);
              runs = ap (λ (p : Place K V M). place_closed p) x.runs;
              request = x.request;
            }
        | inr w ↦
            record {
              client = x.client;
              entry = x.entry;
              client_here = ap (λ (xs : List (Client K V M O)). slice_get xs run.client) clients_set ∙ (set_other l.clients c (closed client) run.client w ∙ x.client_here);
              here = x.here;
              runs = x.runs;
              request = x.request;
            }
      ]
        where
          map_there : (xs : List (Entry K V M)) (i : ℕ) (y : Entry K V M) → slice_get xs i ≡ Some y → slice_get (map entry_closed xs) i ≡ Some (entry_closed y)
          map_there [] i y h = absurd (none_some y h)
          map_there (z ∷ zs) zero y h = ap (λ (v : Entry K V M). Some (entry_closed v)) (some_one z y h)
          map_there (z ∷ zs) (suc i) y h = map_there zs i y h
