-- The calls of a core as moves of the ledgers that it stands for: one client changes.
use Rattle.std.proofs.Common.{◌≡◌, ◌≢◌, ℕ, ◌<◌, Bool, true, false, List, length, slice_get, slice_set, Option, Some, None, refl, sym, ◌∙◌, ap, subst, inl, inr, arith}
use Rattle.pq_rules.specs.declared.turn.Answer.{Answer}
use Rattle.pq_core.proofs.Lists.{get_within, get_there, set_same, set_other, same_or_other, some_one, none_some}
use Rattle.pq_core.proofs.Standing.{Elsewhere, client_entry, count_same, restand}
use Rattle.pq_core.specs.Points.{Point}
use Rattle.pq_core.specs.Replies.{ReplyView}
use Rattle.pq_core.specs.Ledger.{Out, Place, Waiting, Running, Ready, Put, Dropped, Entry, Client, Ledger, IsOpen, IsClosed, with_client, with_entry}
use Rattle.pq_core.specs.Moves.{RunAt, Runs, NoneRuns}
use Rattle.pq_core.specs.Kept.{Kept}
use Rattle.pq_core.specs.aux.Stands.{RunSeen, Fields, EntryStands, IsOwedNothing, Stands}

-- `SeatSet f g c seat` is that `seat` is what `g` has of the client `c`, and that it has of others
-- what `f` has
pub record SeatSet {K L : Type 0} (f g : Fields K L) (c : ℕ) (seat : Option L) : Type 0 where
  pub here : g.seats c ≡ seat
  pub others : (k : ℕ) → k ≢ c → g.seats k ≡ f.seats k

-- `RunSet f g r run` is that `run` is what `g` has of the run `r`, and that it has of others what
-- `f` has
pub record RunSet {K L : Type 0} (f g : Fields K L) (r : ℕ) (run : Option (RunSeen K)) : Type 0 where
  pub here : g.runs r ≡ run
  pub others : (q : ℕ) → q ≢ r → g.runs q ≡ f.runs q

-- `SameCounts f g` is that inputs and counts of `f` and `g` are the same
pub record SameCounts {K L : Type 0} (f g : Fields K L) : Type 0 where
  pub inputs : g.inputs ≡ f.inputs
  pub opened : g.opened ≡ f.opened
  pub clients : g.clients ≡ f.clients

-- `SameFields f g` is that `f` and `g` keep the same
pub record SameFields {K L : Type 0} (f g : Fields K L) : Type 0 where
  pub counts : SameCounts f g
  pub seats : (c : ℕ) → g.seats c ≡ f.seats c
  pub runs : (r : ℕ) → g.runs r ≡ f.runs r
  pub started : g.started ≡ f.started

-- `placed r s o` is the place of the request of the run `r`
abbrev pub placed : {K V M : Type 0} → ℕ → ℕ → Option (Out K) → Place K V M
placed r s o = Running r s o

module _ {K V M L O : Type 0} (AsSeat : L → Client K V M O → Type 0) (means : M → Point → K → Answer K V → Type 0) (puts : O → List (ReplyView K V M)) where
  -- fields that keep the same stand for the same
  pub stands_same : (f g : Fields K L) (l : Ledger K V M O) → SameFields f g → Stands AsSeat means puts f l → Stands AsSeat means puts g l
  stands_same f g l e s = record {
    inputs = s.inputs ∙ sym e.counts.inputs;
    clients = s.clients ∙ sym e.counts.clients;
    opened = s.opened ∙ sym e.counts.opened;
    started = s.started ∙ sym e.started;
    within = λ c seat h. subst (λ (n : ℕ). c < n) (sym e.counts.clients) (s.within c seat (sym (e.seats c) ∙ h));
    each = λ c client h.
        let x = s.each c client h in
        record {
          seat = λ o. let w = x.seat o in (w.0, e.seats c ∙ w.1, w.2);
          shut = λ o. e.seats c ∙ x.shut o;
          dropped = x.dropped;
          entries = λ n entry i. entry_same c n entry entry.place (x.entries n entry i);
        };
    runs = λ r run h. s.runs r run (sym (e.runs r) ∙ h);
    kept = s.kept;
  }
    where
      entry_same : (c n : ℕ) (entry : Entry K V M) (place : Place K V M) → EntryStands f c n entry place → EntryStands g c n entry place
      entry_same c n entry Waiting x = x
      entry_same c n entry (Running r st o) x = (subst (λ (m : ℕ). r < m) (sym e.started) x.0, e.runs r ∙ x.1)
      entry_same c n entry (Ready reply) x = x
      entry_same c n entry Put x = x
      entry_same c n entry Dropped x = x

  -- the client of a seat
  pub open_of : (f : Fields K L) (l : Ledger K V M O) (c : ℕ) (seat : L) → Stands AsSeat means puts f l → f.seats c ≡ Some seat
      → (client : Client K V M O) × IsOpen l c client × AsSeat seat client
  open_of f l c seat s h =
      let a : c < f.clients = s.within c seat h in
      let b : length l.clients ≡ f.clients = s.clients in
      let w = get_there l.clients c (omega arith) in
      by_flag w.0 w.1 w.0.is_open refl
    where
      by_flag : (client : Client K V M O) → slice_get l.clients c ≡ Some client → (flag : Bool) → client.is_open ≡ flag
          → (client : Client K V M O) × IsOpen l c client × AsSeat seat client
      by_flag client here true e =
          let x = (s.each c client here).seat e in
          let same : x.0 ≡ seat = some_one x.0 seat (sym x.1 ∙ h) in
          (client, record { here = here; open_yet = e }, subst (λ (y : L). AsSeat y client) same x.2)
      by_flag client here false e = absurd (none_some seat (sym ((s.each c client here).shut e) ∙ h))

  -- a client without a seat is closed
  pub closed_of : (f : Fields K L) (l : Ledger K V M O) (c : ℕ) → Stands AsSeat means puts f l → f.seats c ≡ None → c < f.clients → IsClosed l c
  closed_of f l c s h a =
      let b : length l.clients ≡ f.clients = s.clients in
      let w = get_there l.clients c (omega arith) in
      by_flag w.0 w.1 w.0.is_open refl
    where
      by_flag : (client : Client K V M O) → slice_get l.clients c ≡ Some client → (flag : Bool) → client.is_open ≡ flag → IsClosed l c
      by_flag client here true e = absurd (none_some ((s.each c client here).seat e).0 (sym h ∙ ((s.each c client here).seat e).1))
      by_flag client here false e = record { client = client; here = here; closed = e }

  -- without a seat the client is not open
  pub none_open : (f : Fields K L) (l : Ledger K V M O) (c : ℕ) → Stands AsSeat means puts f l → f.seats c ≡ None → (client : Client K V M O) → IsOpen l c client → ⊥
  none_open f l c s h client o = let x = (s.each c client o.here).seat o.open_yet in none_some x.0 (sym h ∙ x.1)

  -- a run of the ledger, and a run of the core
  pub run_seen : (f : Fields K L) (l : Ledger K V M O) (r : ℕ) (at : RunAt K V M O) → Stands AsSeat means puts f l → Runs l r at
      → f.runs r ≡ Some (record { client = at.c; number = at.n; request = at.entry.request; started = at.started; out = at.out })
  run_seen f l r at s h =
      (subst (λ (p : Place K V M). EntryStands f at.c at.n at.entry p) h.runs ((s.each at.c at.client h.is_entry.client_here).entries at.n at.entry h.is_entry.here)).1

  pub none_runs : (f : Fields K L) (l : Ledger K V M O) (r : ℕ) → Stands AsSeat means puts f l → f.runs r ≡ None → NoneRuns l r
  none_runs f l r s h at x = none_some _ (sym h ∙ run_seen f l r at s x)

  -- the run of the ledger that the core keeps
  pub run_at : (f : Fields K L) (l : Ledger K V M O) (r : ℕ) (run : RunSeen K) → Stands AsSeat means puts f l → f.runs r ≡ Some run
      → (at : RunAt K V M O) × Runs l r at × (run ≡ record { client = at.c; number = at.n; request = at.entry.request; started = at.started; out = at.out })
  run_at f l r run s h =
      let x = s.runs r run h in
      let at : RunAt K V M O = record { c = run.client; client = x.client; n = run.number; entry = x.entry; started = run.started; out = run.out } in
      let there : Runs l r at = record { is_entry = record { client_here = x.client_here; here = x.here }; runs = x.runs } in
      (at, there, some_one run _ (sym h ∙ run_seen f l r at s there))

  -- the run's client is open exactly where it has a seat
  pub seat_open : (f : Fields K L) (l : Ledger K V M O) (c : ℕ) (client : Client K V M O) (seat : L) → Stands AsSeat means puts f l → slice_get l.clients c ≡ Some client
      → f.seats c ≡ Some seat → (client.is_open ≡ true) × AsSeat seat client
  seat_open f l c client seat s here h =
      let w = open_of f l c seat s h in
      let same : w.0 ≡ client = some_one w.0 client (sym w.1.here ∙ here) in
      (subst (λ (y : Client K V M O). y.is_open ≡ true) same w.1.open_yet, subst (λ (y : Client K V M O). AsSeat seat y) same w.2)

  pub seat_shut : (f : Fields K L) (l : Ledger K V M O) (c : ℕ) (client : Client K V M O) → Stands AsSeat means puts f l → slice_get l.clients c ≡ Some client
      → f.seats c ≡ None → client.is_open ≡ false
  seat_shut f l c client s here h = by_flag client.is_open refl
    where
      by_flag : (flag : Bool) → client.is_open ≡ flag → client.is_open ≡ false
      by_flag true e = absurd (none_open f l c s h client (record { here = here; open_yet = e }))
      by_flag false e = e

  -- a run's request has another entry, and the run is kept as `run`, or is over
  pub run_entry : (f g : Fields K L) (l m : Ledger K V M O) (r : ℕ) (at : RunAt K V M O) (entry : Entry K V M) (run : Option (RunSeen K))
      → Stands AsSeat means puts f l → Runs l r at → SameCounts f g → RunSet f g r run → g.started ≡ f.started
      → ((k : ℕ) → k ≢ at.c → g.seats k ≡ f.seats k)
      → (at.client.is_open ≡ true → (seat : L) × (g.seats at.c ≡ Some seat) × AsSeat seat (with_entry at.client at.n entry))
      → (at.client.is_open ≡ false → g.seats at.c ≡ None)
      → (at.client.is_open ≡ false → IsOwedNothing entry.place)
      → EntryStands g at.c at.n entry entry.place
      → ((seen : RunSeen K) → run ≡ Some seen → (seen.client ≡ at.c) × (seen.number ≡ at.n) × (entry.place ≡ Running r seen.started seen.out) × (seen.request ≡ entry.request))
      → m ≡ with_client l at.c (with_entry at.client at.n entry)
      → Kept means puts m → Stands AsSeat means puts g m
  run_entry f g l m r at entry run s h counts runs started seats seat shut dropped there place e kept =
      let elsewhere : Elsewhere f g at.c at.n = record {
        seats = seats;
        later = let a : g.started ≡ f.started = started in omega arith;
        kept = λ q x w ne. elim (same_or_other q r) [
          | inl v ↦ absurd (ne (client_of x q w v, number_of x q w v))
          | inr v ↦ runs.others q v ∙ w
        ];
        back = λ q x w ne. elim (same_or_other q r) [
          | inl v ↦ let fits = there_at x q w v in absurd (ne (fits.0, fits.1))
          | inr v ↦ sym (runs.others q v) ∙ w
        ];
      } in
      restand AsSeat means puts f g l m at.c at.n at.client (with_entry at.client at.n entry) s h.is_entry.client_here elsewhere counts.inputs counts.clients
      (ap (λ (y : Ledger K V M O). y.inputs) e) (ap (λ (y : Ledger K V M O). y.clients) e) (ap (λ (y : Ledger K V M O). y.runs) e ∙ (s.started ∙ sym started))
      (count_same l.clients at.c at.client (with_entry at.client at.n entry) h.is_entry.client_here refl ∙ (s.opened ∙ sym counts.opened))
      (λ i other ne w. set_other at.client.entries at.n entry i ne ∙ w)
      (client_entry AsSeat f g at.c at.n at.client entry elsewhere (s.each at.c at.client h.is_entry.client_here) there seat shut dropped)
      (λ r x w v z. run_at_entry x r w v z)
      kept
    where
      seen_at : RunSeen K
      seen_at = record { client = at.c; number = at.n; request = at.entry.request; started = at.started; out = at.out }

      client_of : (x : RunSeen K) (q : ℕ) → f.runs q ≡ Some x → q ≡ r → x.client ≡ at.c
      client_of x q w v = ap (λ (y : RunSeen K). y.client) (some_one x seen_at (sym w ∙ (ap f.runs v ∙ run_seen f l r at s h)))

      number_of : (x : RunSeen K) (q : ℕ) → f.runs q ≡ Some x → q ≡ r → x.number ≡ at.n
      number_of x q w v = ap (λ (y : RunSeen K). y.number) (some_one x seen_at (sym w ∙ (ap f.runs v ∙ run_seen f l r at s h)))

      there_at : (x : RunSeen K) (q : ℕ) → g.runs q ≡ Some x → q ≡ r
          → (x.client ≡ at.c) × (x.number ≡ at.n) × (entry.place ≡ Running r x.started x.out) × (x.request ≡ entry.request)
      there_at x q w v = place x (sym runs.here ∙ (ap g.runs (sym v) ∙ w))

      run_at_entry : (x : RunSeen K) (q : ℕ) → g.runs q ≡ Some x → x.client ≡ at.c → x.number ≡ at.n
          → (other : Entry K V M) × (slice_get (slice_set at.client.entries at.n entry) at.n ≡ Some other) × (other.place ≡ Running q x.started x.out) × (x.request ≡ other.request)
      run_at_entry x q w v z = elim (same_or_other q r) [
        | inl u ↦
            let fits = there_at x q w u in (
              entry,
              set_same at.client.entries at.n entry (get_within at.client.entries at.n at.entry h.is_entry.here),
              subst (λ (y : ℕ). entry.place ≡ Running y x.started x.out) (sym u) fits.2,
              fits.3,
            )
        | inr u ↦
            let before = s.runs q x (sym (runs.others q u) ∙ w) in
            let client_is : before.client ≡ at.client = some_one before.client at.client (sym before.client_here ∙ (ap (λ (y : ℕ). slice_get l.clients y) v ∙ h.is_entry.client_here)) in
            let entry_is : before.entry ≡ at.entry =
            some_one before.entry at.entry
            (sym before.here ∙ (ap (λ (y : Client K V M O). slice_get y.entries x.number) client_is
            ∙ (ap (λ (y : ℕ). slice_get at.client.entries y) z ∙ h.is_entry.here))) in
            absurd (u (run_one (sym before.runs ∙ (ap (λ (y : Entry K V M). y.place) entry_is ∙ h.runs))))
      ]
        where
          run_one : {a b t u : ℕ} {o p : Option (Out K)} → placed {K = K} {V = V} {M = M} a t o ≡ placed {K = K} {V = V} {M = M} b u p → a ≡ b
          run_one e = cc
