-- What a core stands for after a change of one client of the ledger.
use Rattle.std.proofs.Common.{◌≡◌, ◌≢◌, ℕ, zero, suc, ◌+◌, ◌<◌, ◌≤◌, Bool, true, false, List, [], ◌∷◌, ◌++◌, length, slice_get, slice_set, Some, None, sym, ◌∙◌, ap, subst, inl, inr, arith}
use Rattle.pq_rules.specs.declared.turn.Answer.{Answer}
use Rattle.pq_core.proofs.Lists.{get_set, get_within, set_long, set_same, set_other, same_or_other, some_one}
use Rattle.pq_core.specs.Points.{Point}
use Rattle.pq_core.specs.Replies.{ReplyView}
use Rattle.pq_core.specs.Ledger.{Place, Waiting, Running, Ready, Put, Dropped, Entry, Client, Ledger, with_entry, opened}
use Rattle.pq_core.specs.Moves.{open_count, one_if}
use Rattle.pq_core.specs.Kept.{Kept}
use Rattle.pq_core.specs.aux.Stands.{RunSeen, Fields, EntryStands, IsOwedNothing, ClientStands, HasRun, Stands}

-- `Elsewhere f g c n` is that `g` keeps of all requests but the request `n` of the client `c`, and
-- of the seats of other clients, what `f` keeps
pub record Elsewhere {K L : Type 0} (f g : Fields K L) (c n : ℕ) : Type 0 where
  pub seats : (k : ℕ) → k ≢ c → g.seats k ≡ f.seats k
  pub later : f.started ≤ g.started
  pub kept : (r : ℕ) (run : RunSeen K) → f.runs r ≡ Some run → ((run.client ≡ c) × (run.number ≡ n) → ⊥) → g.runs r ≡ Some run
  pub back : (r : ℕ) (run : RunSeen K) → g.runs r ≡ Some run → ((run.client ≡ c) × (run.number ≡ n) → ⊥) → f.runs r ≡ Some run

-- `RunsThere g c n entries` is that a run of the request `n` of the client `c`, whose requests are
-- `entries`, is in its place
abbrev pub RunsThere : {K V M L : Type 0} → Fields K L → ℕ → ℕ → List (Entry K V M) → Type 0
RunsThere {K} {V} {M} {L} g c n entries =
    (r : ℕ) (run : RunSeen K) → g.runs r ≡ Some run → run.client ≡ c → run.number ≡ n
    → (entry : Entry K V M) × (slice_get entries n ≡ Some entry) × (entry.place ≡ Running r run.started run.out) × (run.request ≡ entry.request)

module _ {K V M L : Type 0} where
  -- a request elsewhere
  pub entry_elsewhere : (f g : Fields K L) (c n k i : ℕ) (entry : Entry K V M) (place : Place K V M) → Elsewhere f g c n → ((k ≡ c) × (i ≡ n) → ⊥)
      → EntryStands f k i entry place → EntryStands g k i entry place
  entry_elsewhere f g c n k i entry Waiting e ne x = x
  entry_elsewhere f g c n k i entry (Running r s o) e ne x =
      let a : r < f.started = x.0 in
      let b : f.started ≤ g.started = e.later in
      (omega arith, e.kept r _ x.1 ne)
  entry_elsewhere f g c n k i entry (Ready reply) e ne x = x
  entry_elsewhere f g c n k i entry Put e ne x = x
  entry_elsewhere f g c n k i entry Dropped e ne x = x

module _ {K V M L O : Type 0} (AsSeat : L → Client K V M O → Type 0) where
  -- another client
  pub client_elsewhere : (f g : Fields K L) (c n k : ℕ) (client : Client K V M O) → Elsewhere f g c n → k ≢ c
      → ClientStands AsSeat f k client → ClientStands AsSeat g k client
  client_elsewhere f g c n k client e ne x = record {
    seat = λ o. let w = x.seat o in (w.0, e.seats k ne ∙ w.1, w.2);
    shut = λ s. e.seats k ne ∙ x.shut s;
    dropped = x.dropped;
    entries = λ i entry h. entry_elsewhere f g c n k i entry entry.place e (λ w. ne w.0) (x.entries i entry h);
  }

  -- the client with another request `n`
  pub client_entry : (f g : Fields K L) (c n : ℕ) (client : Client K V M O) (entry : Entry K V M) → Elsewhere f g c n
      → ClientStands AsSeat f c client → EntryStands g c n entry entry.place
      → (client.is_open ≡ true → (seat : L) × (g.seats c ≡ Some seat) × AsSeat seat (with_entry client n entry))
      → (client.is_open ≡ false → g.seats c ≡ None)
      → (client.is_open ≡ false → IsOwedNothing entry.place)
      → ClientStands AsSeat g c (with_entry client n entry)
  client_entry f g c n client entry e x here seat shut dropped = record {
    seat = seat;
    shut = shut;
    dropped = λ o i other h. elim (get_set client.entries n entry i other h) [
      | inl w ↦ subst (λ (y : Entry K V M). IsOwedNothing y.place) (sym w.1) (dropped o)
      | inr w ↦ x.dropped o i other w.1
    ];
    entries = λ i other h. elim (get_set client.entries n entry i other h) [
      | inl w ↦
          subst (λ (y : ℕ). EntryStands g c y other other.place) (sym w.0)
          (subst (λ (y : Entry K V M). EntryStands g c n y y.place) (sym w.1) here)
      | inr w ↦ entry_elsewhere f g c n c i other other.place e (λ v. w.0 v.1) (x.entries i other w.1)
    ];
  }

module _ {K V M O : Type 0} where
  pub count_same : (clients : List (Client K V M O)) (c : ℕ) (client other : Client K V M O) → slice_get clients c ≡ Some client
      → other.is_open ≡ client.is_open → open_count (slice_set clients c other) ≡ open_count clients
  unfolding open_count
  count_same [] c client other h e = cc
  count_same (x ∷ xs) zero client other h e =
      let same : x ≡ client = some_one x client h in
      ap (λ (b : Bool). one_if b + open_count xs) (e ∙ ap (λ (y : Client K V M O). y.is_open) (sym same))
  count_same (x ∷ xs) (suc c) client other h e = ap (λ (n : ℕ). one_if x.is_open + n) (count_same xs c client other h e)

  pub count_closed : (clients : List (Client K V M O)) (c : ℕ) (client other : Client K V M O) → slice_get clients c ≡ Some client
      → client.is_open ≡ true → other.is_open ≡ false → open_count (slice_set clients c other) + 1 ≡ open_count clients
  unfolding open_count
  count_closed [] c client other h e s = cc
  count_closed (x ∷ xs) zero client other h e s =
      let same : x.is_open ≡ true = ap (λ (y : Client K V M O). y.is_open) (some_one x client h) ∙ e in
      let a : one_if other.is_open ≡ 0 = ap one_if s in
      let b : one_if x.is_open ≡ 1 = ap one_if same in
      omega arith
  count_closed (x ∷ xs) (suc c) client other h e s =
      let r : open_count (slice_set xs c other) + 1 ≡ open_count xs = count_closed xs c client other h e s in
      omega arith

  pub count_opened : (clients : List (Client K V M O)) (outbox : O) → open_count (clients ++ opened outbox ∷ []) ≡ open_count clients + 1
  unfolding open_count
  count_opened [] outbox = omega arith
  count_opened (x ∷ xs) outbox =
      let r : open_count (xs ++ opened outbox ∷ []) ≡ open_count xs + 1 = count_opened xs outbox in
      omega arith

module _ {K V M L O : Type 0} (AsSeat : L → Client K V M O → Type 0) (means : M → Point → K → Answer K V → Type 0) (puts : O → List (ReplyView K V M)) where
  -- a run elsewhere
  run_elsewhere : (l m : Ledger K V M O) (c n r : ℕ) (client other : Client K V M O) (run : RunSeen K) → slice_get l.clients c ≡ Some client
      → m.clients ≡ slice_set l.clients c other
      → ((i : ℕ) (entry : Entry K V M) → i ≢ n → slice_get client.entries i ≡ Some entry → slice_get other.entries i ≡ Some entry)
      → ((run.client ≡ c) × (run.number ≡ n) → ⊥) → HasRun l r run → HasRun m r run
  run_elsewhere l m c n r client other run here e same ne h = elim (same_or_other run.client c) [
    | inl w ↦
        let is : h.client ≡ client = some_one h.client client (sym h.client_here ∙ (ap (λ (k : ℕ). slice_get l.clients k) w ∙ here)) in
        record {
          client = other;
          entry = h.entry;
          client_here =
              ap (λ (xs : List (Client K V M O)). slice_get xs run.client) e ∙ (ap (λ (k : ℕ). slice_get (slice_set l.clients c other) k) w
              ∙ set_same l.clients c other (get_within l.clients c client here));
          here = same run.number h.entry (λ v. ne (w, v)) (ap (λ (x : Client K V M O). slice_get x.entries run.number) (sym is) ∙ h.here);
          runs = h.runs;
          request = h.request;
        }
    | inr w ↦
        record {
          client = h.client;
          entry = h.entry;
          client_here = ap (λ (xs : List (Client K V M O)). slice_get xs run.client) e ∙ (set_other l.clients c other run.client w ∙ h.client_here);
          here = h.here;
          runs = h.runs;
          request = h.request;
        }
  ]

  -- one client of the ledger changes, at its request `n`
  pub restand : (f g : Fields K L) (l m : Ledger K V M O) (c n : ℕ) (client other : Client K V M O) → Stands AsSeat means puts f l
      → slice_get l.clients c ≡ Some client → Elsewhere f g c n
      → g.inputs ≡ f.inputs → g.clients ≡ f.clients → m.inputs ≡ l.inputs → m.clients ≡ slice_set l.clients c other → m.runs ≡ g.started
      → open_count (slice_set l.clients c other) ≡ g.opened
      → ((i : ℕ) (entry : Entry K V M) → i ≢ n → slice_get client.entries i ≡ Some entry → slice_get other.entries i ≡ Some entry)
      → ClientStands AsSeat g c other → RunsThere g c n other.entries → Kept means puts m → Stands AsSeat means puts g m
  restand f g l m c n client other s here e inputs clients inputs_same clients_set started counted same stands there kept = record {
    inputs = inputs_same ∙ (s.inputs ∙ sym inputs);
    clients = ap (λ (xs : List (Client K V M O)). length xs) clients_set ∙ (set_long l.clients c other ∙ (s.clients ∙ sym clients));
    opened = ap (λ (xs : List (Client K V M O)). open_count xs) clients_set ∙ counted;
    started = started;
    within = λ k seat h. elim (same_or_other k c) [
      | inl w ↦
          let a : c < length l.clients = get_within l.clients c client here in
          let b : length l.clients ≡ f.clients = s.clients in
          let d : g.clients ≡ f.clients = clients in
          let k_is : k ≡ c = w in
          omega arith
      | inr w ↦
          let a : k < f.clients = s.within k seat (sym (e.seats k w) ∙ h) in
          let d : g.clients ≡ f.clients = clients in
          omega arith
    ];
    each = λ k x h. elim (get_set l.clients c other k x (ap (λ (xs : List (Client K V M O)). slice_get xs k) (sym clients_set) ∙ h)) [
      | inl w ↦
          subst (λ (y : ℕ). ClientStands AsSeat g y x) (sym w.0)
          (subst (λ (y : Client K V M O). ClientStands AsSeat g c y) (sym w.1) stands)
      | inr w ↦ client_elsewhere AsSeat f g c n k x e w.0 (s.each k x w.1)
    ];
    runs = λ r run h. elim (same_or_other run.client c) [
      | inl w ↦ elim (same_or_other run.number n) [
        | inl v ↦
            let t = there r run h w v in
            record {
              client = other;
              entry = t.0;
              client_here =
                  ap (λ (xs : List (Client K V M O)). slice_get xs run.client) clients_set ∙ (ap (λ (k : ℕ). slice_get (slice_set l.clients c other) k) w
                  ∙ set_same l.clients c other (get_within l.clients c client here));
              here = ap (λ (i : ℕ). slice_get other.entries i) v ∙ t.1;
              runs = t.2;
              request = t.3;
            }
        | inr v ↦
            run_elsewhere l m c n r client other run here clients_set same (λ z. v z.1) (s.runs r run (e.back r run h (λ z. v z.1)))
      ]
      | inr w ↦
          run_elsewhere l m c n r client other run here clients_set same (λ z. w z.0) (s.runs r run (e.back r run h (λ z. w z.0)))
    ];
    kept = kept;
  }
