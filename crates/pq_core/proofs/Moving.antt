-- The calls of a core as moves of the ledgers that it stands for: opening, accepting, editing,
-- starting.
use Rattle.std.proofs.Common.{◌≡◌, ◌≢◌, ℕ, ◌+◌, ◌<◌, true, false, List, [], ◌∷◌, ◌++◌, length, slice_get, slice_set, Option, Some, None, refl, sym, ◌∙◌, ap, subst, inl, inr, arith}
use Rattle.pq_inputs.specs.Sources.{Table}
use Rattle.pq_rules.specs.declared.turn.Answer.{Answer}
use Rattle.pq_core.proofs.Lists.{get_append, get_longer, get_within, set_same, set_other, append_long, same_or_other, some_one, none_some}
use Rattle.pq_core.proofs.Standing.{Elsewhere, RunsThere, entry_elsewhere, client_elsewhere, client_entry, count_same, count_opened, restand}
use Rattle.pq_core.proofs.Calling.{SeatSet, RunSet, SameCounts, SameFields, stands_same, placed}
use Rattle.pq_core.specs.Points.{Point}
use Rattle.pq_core.specs.Replies.{ReplyView}
use Rattle.pq_core.specs.Changes.{ChangeView}
use Rattle.pq_core.specs.Ledger.{Out, Place, Waiting, Running, Ready, Put, Dropped, Entry, Client, Ledger, IsOpen, with_client, with_entry, moved_to, opened}
use Rattle.pq_core.specs.Moves.{Waits, open_count, first_place, new_entry, with_new, changed, started_at}
use Rattle.pq_core.specs.Kept.{Kept}
use Rattle.pq_core.specs.aux.Stands.{RunSeen, Fields, EntryStands, ClientStands, Stands}
use Rattle.pq_core.specs.declared.values.request.Request.{Request}

-- `SameRuns f g` is that `f` and `g` have the same runs
pub record SameRuns {K L : Type 0} (f g : Fields K L) : Type 0 where
  pub runs : (r : ℕ) → g.runs r ≡ f.runs r
  pub started : g.started ≡ f.started

abbrev pub waiting_place : {K V M : Type 0} → Place K V M
waiting_place = Waiting

module _ {K L : Type 0} where
  -- but for a seat nothing differs
  pub elsewhere_seat : (f g : Fields K L) (c n : ℕ) (seat : Option L) → SeatSet f g c seat → SameRuns f g → Elsewhere f g c n
  elsewhere_seat f g c n seat s q = record {
    seats = s.others;
    later = let a : g.started ≡ f.started = q.started in omega arith;
    kept = λ r run h ne. q.runs r ∙ h;
    back = λ r run h ne. sym (q.runs r) ∙ h;
  }

module _ {K V M L O : Type 0} (AsSeat : L → Client K V M O → Type 0) (means : M → Point → K → Answer K V → Type 0) (puts : O → List (ReplyView K V M)) where
  -- a run of the core is older than the next
  pub run_below : (f : Fields K L) (l : Ledger K V M O) (r : ℕ) (run : RunSeen K) → Stands AsSeat means puts f l → f.runs r ≡ Some run → r < f.started
  run_below f l r run s h =
      let x = s.runs r run h in
      (subst (λ (p : Place K V M). EntryStands f run.client run.number x.entry p) x.runs ((s.each run.client x.client x.client_here).entries run.number x.entry x.here)).0

  -- no run is of a request that is not in a run
  pub none_there : (f g : Fields K L) (l : Ledger K V M O) (c n : ℕ) (client : Client K V M O) (entries : List (Entry K V M)) → Stands AsSeat means puts f l
      → slice_get l.clients c ≡ Some client → ((r : ℕ) → g.runs r ≡ f.runs r)
      → ((entry : Entry K V M) (r s : ℕ) (o : Option (Out K)) → slice_get client.entries n ≡ Some entry → entry.place ≡ Running r s o → ⊥)
      → RunsThere g c n entries
  none_there f g l c n client entries s here same other r run h w v =
      let x = s.runs r run (sym (same r) ∙ h) in
      let is : x.client ≡ client = some_one x.client client (sym x.client_here ∙ (ap (λ (k : ℕ). slice_get l.clients k) w ∙ here)) in
      absurd (other x.entry r run.started run.out
      (ap (λ (k : ℕ). slice_get client.entries k) (sym v) ∙ (ap (λ (y : Client K V M O). slice_get y.entries run.number) (sym is) ∙ x.here))
      x.runs)

  -- a client is opened
  pub open_stands : (f g : Fields K L) (l m : Ledger K V M O) (seat : L) (outbox : O) → Stands AsSeat means puts f l
      → SeatSet f g f.clients (Some seat) → SameRuns f g → g.inputs ≡ f.inputs → g.opened ≡ f.opened + 1 → g.clients ≡ f.clients + 1
      → AsSeat seat (opened outbox) → m ≡ record { inputs = l.inputs; clients = l.clients ++ opened outbox ∷ []; runs = l.runs }
      → Kept means puts m → Stands AsSeat means puts g m
  open_stands f g l m seat outbox s set q inputs count clients as_seat e kept = record {
    inputs = ap (λ (y : Ledger K V M O). y.inputs) e ∙ (s.inputs ∙ sym inputs);
    clients = ap (λ (xs : List (Client K V M O)). length xs) clients_set ∙ (append_long l.clients (opened outbox) ∙ (ap (λ (n : ℕ). n + 1) s.clients ∙ sym clients));
    opened = ap (λ (xs : List (Client K V M O)). open_count xs) clients_set ∙ (count_opened l.clients outbox ∙ (ap (λ (n : ℕ). n + 1) s.opened ∙ sym count));
    started = ap (λ (y : Ledger K V M O). y.runs) e ∙ (s.started ∙ sym q.started);
    within = λ c x h. elim (same_or_other c f.clients) [
      | inl w ↦ let d : g.clients ≡ f.clients + 1 = clients in let is : c ≡ f.clients = w in omega arith
      | inr w ↦ let a : c < f.clients = s.within c x (sym (set.others c w) ∙ h) in let d : g.clients ≡ f.clients + 1 = clients in omega arith
    ];
    each = λ c client h. elim (get_append l.clients (opened outbox) c client (ap (λ (xs : List (Client K V M O)). slice_get xs c) (sym clients_set) ∙ h)) [
      | inl w ↦ subst (λ (y : Client K V M O). ClientStands AsSeat g c y) (sym w.1) (new_client c (w.0 ∙ s.clients))
      | inr w ↦ client_elsewhere AsSeat f g f.clients 0 c client (elsewhere_seat f g f.clients 0 (Some seat) set q) (not_new c client w) (s.each c client w)
    ];
    runs = λ r run h.
        let x = s.runs r run (sym (q.runs r) ∙ h) in
        record {
          client = x.client;
          entry = x.entry;
          client_here = ap (λ (xs : List (Client K V M O)). slice_get xs run.client) clients_set ∙ get_longer l.clients (opened outbox ∷ []) run.client x.client x.client_here;
          here = x.here;
          runs = x.runs;
          request = x.request;
        };
    kept = kept;
  }
    where
      clients_set : m.clients ≡ l.clients ++ opened outbox ∷ []
      clients_set = ap (λ (y : Ledger K V M O). y.clients) e

      not_new : (c : ℕ) (client : Client K V M O) → slice_get l.clients c ≡ Some client → c ≢ f.clients
      not_new c client h w =
          let a : c < length l.clients = get_within l.clients c client h in
          let b : length l.clients ≡ f.clients = s.clients in
          let is : c ≡ f.clients = w in
          absurd (omega arith)

      new_client : (c : ℕ) → c ≡ f.clients → ClientStands AsSeat g c (opened outbox)
      new_client c w = record {
        seat = λ o. (seat, ap g.seats w ∙ set.here, as_seat);
        shut = λ o. absurd (not_shut o);
        dropped = λ o. absurd (not_shut o);
        entries = λ n entry h. absurd (none_some entry h);
      }
        where
          not_shut : true ≡ false → ⊥
          not_shut o = cc

  -- a request is accepted
  pub accept_stands : (f g : Fields K L) (l m : Ledger K V M O) (c n : ℕ) (client : Client K V M O) (seat : L) (request : Request K) → Stands AsSeat means puts f l
      → IsOpen l c client → n ≡ length client.entries → SeatSet f g c (Some seat) → SameCounts f g → ((r : ℕ) → g.runs r ≡ f.runs r) → g.started ≡ f.started
      → EntryStands g c n (new_entry {V = V} {M = M} c n request l.inputs.revision) (first_place c n request l.inputs.revision request.want)
      → AsSeat seat (with_new client (new_entry c n request l.inputs.revision))
      → m ≡ with_client l c (with_new client (new_entry c n request l.inputs.revision)) → Kept means puts m → Stands AsSeat means puts g m
  accept_stands f g l m c n client seat request s is_open number set counts runs started there as_seat e kept =
      restand AsSeat means puts f g l m c n client after s is_open.here elsewhere counts.inputs counts.clients
      (ap (λ (y : Ledger K V M O). y.inputs) e) (ap (λ (y : Ledger K V M O). y.clients) e) (ap (λ (y : Ledger K V M O). y.runs) e ∙ (s.started ∙ sym started))
      (count_same l.clients c client after is_open.here refl ∙ (s.opened ∙ sym counts.opened))
      (λ i entry ne h. get_longer client.entries (entry_new ∷ []) i entry h)
      stands
      (none_there f g l c n client (client.entries ++ entry_new ∷ []) s is_open.here runs
      (λ entry r st o h p. let a : n < length client.entries = get_within client.entries n entry h in let b : n ≡ length client.entries = number in absurd (omega arith)))
      kept
    where
      entry_new : Entry K V M
      entry_new = new_entry c n request l.inputs.revision

      after : Client K V M O
      after = with_new client entry_new

      elsewhere : Elsewhere f g c n
      elsewhere = record {
        seats = set.others;
        later = let a : g.started ≡ f.started = started in omega arith;
        kept = λ r run h ne. runs r ∙ h;
        back = λ r run h ne. sym (runs r) ∙ h;
      }

      stands : ClientStands AsSeat g c after
      stands = record {
        seat = λ o. (seat, set.here, as_seat);
        shut = λ o. absurd (both (sym is_open.open_yet ∙ o));
        dropped = λ o. absurd (both (sym is_open.open_yet ∙ o));
        entries = λ i entry h. elim (get_append client.entries entry_new i entry h) [
          | inl w ↦
              subst (λ (y : ℕ). EntryStands g c y entry entry.place) (number ∙ sym w.0)
              (subst (λ (y : Entry K V M). EntryStands g c n y y.place) (sym w.1) there)
          | inr w ↦
              entry_elsewhere f g c n c i entry entry.place elsewhere
              (λ v. let a : i < length client.entries = get_within client.entries i entry w in let b : n ≡ length client.entries = number in let d : i ≡ n = v.1 in absurd (omega arith))
              ((s.each c client is_open.here).entries i entry w)
        ];
      }
        where
          both : true ≡ false → ⊥
          both o = cc

  -- an edit is accepted
  pub edit_stands : (f g : Fields K L) (l m : Ledger K V M O) (change : ChangeView) → Stands AsSeat means puts f l
      → g.inputs ≡ changed f.inputs change → g.opened ≡ f.opened → g.clients ≡ f.clients → ((c : ℕ) → g.seats c ≡ f.seats c) → SameRuns f g
      → m ≡ record { inputs = changed l.inputs change; clients = l.clients; runs = l.runs } → Kept means puts m → Stands AsSeat means puts g m
  edit_stands f g l m change s inputs count clients seats q e kept =
      let h : SameFields f (record { inputs = f.inputs; seats = g.seats; opened = g.opened; clients = g.clients; runs = g.runs; started = g.started }) = record {
        counts = record { inputs = refl; opened = count; clients = clients };
        seats = seats;
        runs = q.runs;
        started = q.started;
      } in
      let x = stands_same AsSeat means puts f _ l h s in
      record {
        inputs = ap (λ (y : Ledger K V M O). y.inputs) e ∙ (ap (λ (t : Table). changed t change) s.inputs ∙ sym inputs);
        clients = ap (λ (y : Ledger K V M O). length y.clients) e ∙ x.clients;
        opened = ap (λ (y : Ledger K V M O). open_count y.clients) e ∙ x.opened;
        started = ap (λ (y : Ledger K V M O). y.runs) e ∙ x.started;
        within = x.within;
        each = λ c client w.
            let y = x.each c client (ap (λ (z : Ledger K V M O). slice_get z.clients c) (sym e) ∙ w) in
            record { seat = y.seat; shut = y.shut; dropped = y.dropped; entries = λ n entry v. entry_same c n entry entry.place (y.entries n entry v) };
        runs = λ r run w.
            let y = x.runs r run w in
            record {
              client = y.client;
              entry = y.entry;
              client_here = ap (λ (z : Ledger K V M O). slice_get z.clients run.client) e ∙ y.client_here;
              here = y.here;
              runs = y.runs;
              request = y.request;
            };
        kept = kept;
      }
    where
      entry_same : (c n : ℕ) (entry : Entry K V M) (place : Place K V M)
          → EntryStands (record { inputs = f.inputs; seats = g.seats; opened = g.opened; clients = g.clients; runs = g.runs; started = g.started }) c n entry place
          → EntryStands g c n entry place
      entry_same c n entry Waiting x = x
      entry_same c n entry (Running r st o) x = x
      entry_same c n entry (Ready reply) x = x
      entry_same c n entry Put x = x
      entry_same c n entry Dropped x = x

  -- a request is started
  pub start_stands : (f g : Fields K L) (l m : Ledger K V M O) (c n : ℕ) (client : Client K V M O) (entry : Entry K V M) (seat : L) → Stands AsSeat means puts f l
      → client.is_open ≡ true → Waits l c client n entry → SeatSet f g c (Some seat) → SameCounts f g
      → RunSet f g f.started (Some (record { client = c; number = n; request = entry.request; started = l.inputs.revision; out = None }))
      → g.started ≡ f.started + 1
      → AsSeat seat (with_entry client n (moved_to entry (Running f.started l.inputs.revision None)))
      → m ≡ started_at l f.started c client n entry → Kept means puts m → Stands AsSeat means puts g m
  start_stands f g l m c n client entry seat s is_open w set counts runs started as_seat e kept =
      restand AsSeat means puts f g l m c n client after s w.is_entry.client_here elsewhere counts.inputs counts.clients
      (ap (λ (y : Ledger K V M O). y.inputs) e) (ap (λ (y : Ledger K V M O). y.clients) e)
      (ap (λ (y : Ledger K V M O). y.runs) e ∙ (ap (λ (i : ℕ). i + 1) s.started ∙ sym started))
      (count_same l.clients c client after w.is_entry.client_here refl ∙ (s.opened ∙ sym counts.opened))
      (λ i other ne h. set_other client.entries n entry_after i ne ∙ h)
      (client_entry AsSeat f g c n client entry_after elsewhere (s.each c client w.is_entry.client_here)
      (let a : g.started ≡ f.started + 1 = started in omega arith, runs.here)
      (λ o. (seat, set.here, as_seat))
      (λ o. absurd (both (sym is_open ∙ o)))
      (λ o. absurd (both (sym is_open ∙ o))))
      there
      kept
    where
      entry_after : Entry K V M
      entry_after = moved_to entry (Running f.started l.inputs.revision None)

      after : Client K V M O
      after = with_entry client n entry_after

      both : true ≡ false → ⊥
      both o = cc

      elsewhere : Elsewhere f g c n
      elsewhere = record {
        seats = set.others;
        later = let a : g.started ≡ f.started + 1 = started in omega arith;
        kept = λ r run h ne. runs.others r (let a : r < f.started = run_below f l r run s h in omega arith) ∙ h;
        back = λ r run h ne. elim (same_or_other r f.started) [
          | inl v ↦
              let is = some_one run _ (sym h ∙ (ap g.runs v ∙ runs.here)) in
              absurd (ne (ap (λ (y : RunSeen K). y.client) is, ap (λ (y : RunSeen K). y.number) is))
          | inr v ↦ sym (runs.others r v) ∙ h
        ];
      }

      there : RunsThere g c n (slice_set client.entries n entry_after)
      there r run h v z = elim (same_or_other r f.started) [
        | inl u ↦
            let is = some_one run _ (sym h ∙ (ap g.runs u ∙ runs.here)) in (
              entry_after,
              set_same client.entries n entry_after (get_within client.entries n entry w.is_entry.here),
              subst (λ (y : RunSeen K). placed {K = K} {V = V} {M = M} f.started l.inputs.revision None ≡ placed r y.started y.out) (sym is)
                  (subst (λ (y : ℕ). placed {K = K} {V = V} {M = M} f.started l.inputs.revision None ≡ placed y l.inputs.revision None) (sym u) refl),
              ap (λ (y : RunSeen K). y.request) is,
            )
        | inr u ↦
            none_there f f l c n client (slice_set client.entries n entry_after) s w.is_entry.client_here (λ q. refl)
            (λ other q st o hh p. absurd (waits_not (sym w.waits ∙ (ap (λ (y : Entry K V M). y.place) (some_one entry other (sym w.is_entry.here ∙ hh)) ∙ p))))
            r run (sym (runs.others r u) ∙ h) v z
      ]
        where
          waits_not : {q st : ℕ} {o : Option (Out K)} → waiting_place {K = K} {V = V} {M = M} ≡ placed {K = K} {V = V} {M = M} q st o → ⊥
          waits_not x = cc
