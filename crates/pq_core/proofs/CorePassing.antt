-- The replies that a call of the store makes are passed on to their lanes.
use Rattle.std.proofs.Common.{◌≡◌, ◌≢◌, ℕ, ◌+◌, ◌-◌, ◌<◌, ◌≤◌, true, false, List, length, slice_get, slice_set, Option, Some, None, refl, sym, ◌∙◌, ap, subst, inl, inr, arith}
use Rattle.std.specs.declared.cmp.Ordering.{Ordering}
use Rattle.pq_rules.specs.declared.turn.Answer.{Answer}
use Rattle.pq_rules.specs.Turns.{Machine}
use Rattle.pq_core.proofs.Lists.{some_one, none_some, get_set, get_within, get_there, set_long, set_other, same_or_other}
use Rattle.pq_core.proofs.Writes.{one_entry}
use Rattle.pq_core.proofs.Changing.{set_here, set_others}
use Rattle.pq_core.proofs.Slots.{above_more}
use Rattle.pq_core.proofs.Calling.{open_of}
use Rattle.pq_core.proofs.Told.{Lifts, told_long, told_ready, ready_told, told_none, open_told, kept_told}
use Rattle.pq_core.proofs.PlaceMoves.{Changes, ready_else, ready_on, ready_move, none_at}
use Rattle.pq_core.specs.Points.{Point}
use Rattle.pq_core.specs.Replies.{ReplyView}
use Rattle.pq_core.specs.Ledger.{Place, Ready, Entry, Client, Ledger, IsOpen, with_entry}
use Rattle.pq_core.specs.Moves.{window, Reaches}
use Rattle.pq_core.specs.Kept.{PlaceKept, Kept}
use Rattle.pq_core.specs.RightReply.{answer_by}
use Rattle.pq_core.specs.Lanes.{ReadyView, Tray, HasPlace, placed_in}
use Rattle.pq_core.specs.Told.{Told, told_puts, told_ledger, IsReadyAt, NoneReadyAt}
use Rattle.pq_core.specs.Stores.{StoreView, held, fields_of, IsMadeIn, NoneMade, Makes, Goes, Collects}
use Rattle.pq_core.specs.Stores.{StandsFor as StoreStandsFor}
use Rattle.pq_core.specs.Cores.{CoreView, core_of, StandsFor, IsWhole}
use Rattle.pq_core.specs.Starts.{Log, IsCountedFor}
use Rattle.pq_core.specs.declared.store.account.Stage.TheVariants.{Made}
use Rattle.pq_core.specs.declared.store.rising.Place.{Place as Seat}
use Rattle.pq_core.specs.aux.Rising.{Slots, found, IsAbove}
use Rattle.pq_core.specs.aux.Changes.{IsSetAt}
use Rattle.pq_core.specs.aux.Accounts.{AccountStands}
use Rattle.pq_core.specs.aux.Places.{LaneStands, LanesStand}
use Rattle.pq_core.specs.aux.Passing.{FillsIn, LaneAwaits, LanesAwait, PassesOn}

-- `Lands order mach point puts Move lanes l after left` is that `Move` leads from `l` to a ledger that
-- the core of `after` and `left` stands for, and that no reply is on its way
pub record Lands {R K P V M O : Type 0} (order : K → K → Ordering) (mach : Machine K P V) (point : M → Point) (puts : O → List (ReplyView K V M)) (Move : Ledger K V M O → Ledger K V M O → Type 0)
    (lanes : Slots (Tray K V M O)) (l : Ledger K V M O) (after : StoreView R K P V M) (left : Slots (Tray K V M O)) : Type 0 where
  pub ledger : Ledger K V M O
  pub moves : Move l ledger
  pub stands : StandsFor order mach point puts (core_of after left) ledger
  pub none : NoneMade after
  pub more : length l.clients ≤ length ledger.clients
  pub above : (b : ℕ) → IsAbove b lanes.items → length l.clients ≤ b → b ≤ length ledger.clients → IsAbove (length ledger.clients) left.items

-- `KeepsClient puts l c other` is that `other` is the client `c` of `l`, with the same outbox
pub record KeepsClient {K V M O : Type 0} (puts : O → List (ReplyView K V M)) (l : Ledger K V M O) (c : ℕ) (other : Client K V M O) : Type 0 where
  pub client : Client K V M O
  pub here : slice_get l.clients c ≡ Some client
  pub outbox : other.outbox ≡ client.outbox
  pub refused : other.refused ≡ client.refused
  pub is_open : other.is_open ≡ client.is_open
  pub few : length client.entries ≤ length (puts client.outbox) + window → length other.entries ≤ length (puts client.outbox) + window

-- `KeepsReady puts l m` is that `m` has the clients of `l`, and that each reply that is ready in
-- `l` is so in `m`
pub record KeepsReady {K V M O : Type 0} (puts : O → List (ReplyView K V M)) (l m : Ledger K V M O) : Type 0 where
  pub more : length l.clients ≤ length m.clients
  pub each : (c : ℕ) (other : Client K V M O) → slice_get m.clients c ≡ Some other → KeepsClient puts l c other
  pub ready : (c n : ℕ) (entry : Entry K V M) (reply : ReplyView K V M) → IsReadyAt l c n entry reply → IsReadyAt m c n entry reply

-- `Passed puts m after lanes left` is that nothing is on its way, and that the lanes stand
pub record Passed {R K P V M O : Type 0} (puts : O → List (ReplyView K V M)) (m : Ledger K V M O) (after : StoreView R K P V M) (lanes left : Slots (Tray K V M O)) : Type 0 where
  pub none : NoneMade after
  pub stand : LanesStand puts left.items m
  pub above : (b : ℕ) → IsAbove b lanes.items → IsAbove b left.items

module _ {K V M O : Type 0} (puts : O → List (ReplyView K V M)) where
  -- no client changed
  pub keeps_same : (l m : Ledger K V M O) → m.clients ≡ l.clients → KeepsReady puts l m
  keeps_same l m same = record {
    more = let e : length m.clients ≡ length l.clients = ap (λ (xs : List (Client K V M O)). length xs) same in omega arith;
    each = λ c other get. record {
      client = other;
      here = ap (λ (xs : List (Client K V M O)). slice_get xs c) (sym same) ∙ get;
      outbox = refl;
      refused = refl;
      is_open = refl;
      few = λ h. h;
    };
    ready = λ c n entry reply r. ready_else l m c n entry reply (ap (λ (xs : List (Client K V M O)). slice_get xs c) same) r;
  }

  -- one request changed, which was not ready
  pub keeps_one : (l m : Ledger K V M O) (c n : ℕ) (s : Changes l m c n) → s.other.outbox ≡ s.client.outbox → s.other.refused ≡ s.client.refused → s.other.is_open ≡ s.client.is_open
      → (length s.client.entries ≤ length (puts s.client.outbox) + window → length s.other.entries ≤ length (puts s.client.outbox) + window) → NoneReadyAt l c n → KeepsReady puts l m
  keeps_one l m c n s outbox refused is_open few none = record {
    more =
        let e : length m.clients ≡ length l.clients = ap (λ (xs : List (Client K V M O)). length xs) s.set ∙ set_long l.clients c s.other in
        omega arith;
    each = λ k x get. elim (get_set l.clients c s.other k x (ap (λ (xs : List (Client K V M O)). slice_get xs k) (sym s.set) ∙ get)) [
      | inl w ↦
          subst (λ (y : ℕ). KeepsClient puts l y x) (sym w.0)
          (subst (λ (y : Client K V M O). KeepsClient puts l c y) (sym w.1) (record { client = s.client; here = s.here; outbox = outbox; refused = refused; is_open = is_open; few = few }))
      | inr w ↦ record { client = x; here = w.1; outbox = refl; refused = refl; is_open = refl; few = λ h. h }
    ];
    ready = λ k i entry reply r. ready_on l m c n k i entry reply s (λ z. none entry reply (ready_move l k c i n entry reply z.0 z.1 r)) r;
  }

  -- one request is written
  pub keeps_entry : (l m : Ledger K V M O) (c n : ℕ) (client : Client K V M O) (entry next : Entry K V M) → slice_get l.clients c ≡ Some client → slice_get client.entries n ≡ Some entry
      → ((reply : ReplyView K V M) → entry.place ≡ Ready reply → ⊥) → m.clients ≡ slice_set l.clients c (with_entry client n next) → KeepsReady puts l m
  keeps_entry l m c n client entry next here at none set =
      keeps_one l m c n (record { client = client; other = with_entry client n next; here = here; set = set; on = λ i ne. set_other client.entries n next i ne }) refl refl refl
      (λ h. (let e : length (slice_set client.entries n next) ≡ length client.entries = set_long client.entries n next in omega arith))
      (none_at l c n client entry here at none)

  -- what is ready is right
  ready_right : (means : M → Point → K → Answer K V → Type 0) (m : Ledger K V M O) (c n : ℕ) (entry : Entry K V M) (reply : ReplyView K V M) (k : Kept means puts m) (r : IsReadyAt m c n entry reply)
      → (length (puts r.client.outbox) ≤ n) × (reply.client ≡ c) × (reply.number ≡ n)
  ready_right means m c n entry reply k r =
      let e = (k.clients c r.client r.is_entry.client_here).each n entry r.is_entry.here in
      let p = subst (λ (x : Place K V M). PlaceKept means m.inputs (puts r.client.outbox) c n entry x) r.ready e.placed in
      (p.0, p.1.client, p.1.number)

module _ {R K P V M : Type 0} (order : K → K → Ordering) (mach : Machine K P V) (point : M → Point) where
  -- what is made is ready
  pub made_ready : (store : StoreView R K P V M) (n : Ledger K V M (Told K V M)) (c k : ℕ) (ready : ReadyView K V M) → StoreStandsFor order mach point store n → IsMadeIn store c k ready
      → (entry : Entry K V M) × IsReadyAt n c k entry ready.reply × (ready.accepted ≡ entry.accepted) × ((client : Client K V M (Told K V M)) × IsOpen n c client)
  made_ready store n c k ready s made =
      let w = open_of (AccountStands told_puts) (answer_by order mach point) told_puts (fields_of (held store)) n c made.account s made.here in
      let a = w.2.each (k - made.account.seen) (Made ready) made.made.here in
      let past : made.account.seen ≤ k = made.made.past in
      let at : made.account.seen + (k - made.account.seen) ≡ k = omega arith in (
        a.entry,
        record {
          client = w.0;
          is_entry = record { client_here = w.1.here; here = subst (λ (i : ℕ). slice_get w.0.entries i ≡ Some a.entry) at a.here };
          ready = a.stands.0;
        },
        sym a.stands.1,
        (w.0, w.1),
      )

  -- nothing became ready
  pub none_made : (before after : StoreView R K P V M) (l n : Ledger K V M (Told K V M)) → NoneMade before → StoreStandsFor order mach point after n → Makes before after l n
      → ((c k : ℕ) (entry : Entry K V M) (reply : ReplyView K V M) → IsReadyAt n c k entry reply → NoneReadyAt l c k → ⊥) → NoneMade after
  none_made before after l n none s makes nothing c k ready made = elim (makes.only c k ready made) [
    | inl w ↦ none c k ready w
    | inr w ↦ let r = made_ready after n c k ready s made in nothing c k r.0 ready.reply r.1 w
  ]

module _ {R K P V M O : Type 0} (puts : O → List (ReplyView K V M)) where
  -- after a call of the store each reply that became ready is made
  pub lanes_await : (before made : StoreView R K P V M) (lanes : List (Seat (Tray K V M O))) (l m : Ledger K V M O) → NoneMade before → Makes before made (told_ledger puts l) (told_ledger puts m)
      → KeepsReady puts l m → LanesStand puts lanes l → LanesAwait puts made lanes m
  lanes_await before made lanes l m none makes keeps h = record {
    within = λ c tray get.
        let lt : c < length l.clients = h.within c tray get in
        let more : length l.clients ≤ length m.clients = keeps.more in
        omega arith;
    open_yet = λ c x get is_open.
        let k = keeps.each c x get in
        let v = h.open_yet c k.client k.here (sym k.is_open ∙ is_open) in
        (v.0, v.1, lane_awaits c x k v.0 v.2);
    shut = λ c x get is_shut. let k = keeps.each c x get in h.shut c k.client k.here (sym k.is_open ∙ is_shut);
  }
    where
      lane_awaits : (c : ℕ) (x : Client K V M O) (k : KeepsClient puts l c x) (tray : Tray K V M O) → LaneStands puts l c k.client tray → LaneAwaits puts made m c x tray
      lane_awaits c x k tray s = record {
        owner = s.owner;
        outbox = s.outbox ∙ ap Some (sym k.outbox);
        refused = s.refused ∙ sym k.refused;
        put = s.put ∙ ap (λ (o : O). length (puts o)) (sym k.outbox);
        room = s.room;
        few =
            let put : tray.put ≡ length (puts k.client.outbox) = s.put in
            let most : length k.client.entries ≤ tray.put + window = s.few in
            let few = k.few (omega arith) in
            omega arith;
        filled = λ i ready get. let w = s.filled i ready get in (w.0, keeps.ready c (tray.put + i) w.0 ready.reply w.1, w.2);
        vacant = λ i get unmade entry reply r.
            unmade _ (makes.fresh c (tray.put + i) entry reply (told_ready puts m c (tray.put + i) entry reply r) (told_none puts l c (tray.put + i) (s.vacant i get)));
        apart = λ i ready other get x. elim (makes.only c (tray.put + i) other x) [
          | inl w ↦ none c (tray.put + i) other w
          | inr w ↦ let f = s.filled i ready get in w f.0 ready.reply (told_ready puts l c (tray.put + i) f.0 ready.reply f.1)
        ];
      }

  -- where no reply is made, each that is ready is in its lane
  pub lanes_settle : (store : StoreView R K P V M) (lanes : List (Seat (Tray K V M O))) (l : Ledger K V M O) → NoneMade store → LanesAwait puts store lanes l → LanesStand puts lanes l
  lanes_settle store lanes l none h = record {
    within = h.within;
    open_yet = λ c x get is_open. let v = h.open_yet c x get is_open in (v.0, v.1, lane_settles c x v.0 v.2);
    shut = h.shut;
  }
    where
      lane_settles : (c : ℕ) (x : Client K V M O) (tray : Tray K V M O) → LaneAwaits puts store l c x tray → LaneStands puts l c x tray
      lane_settles c x tray s = record {
        owner = s.owner;
        outbox = s.outbox;
        refused = s.refused;
        put = s.put;
        room = s.room;
        few = s.few;
        filled = s.filled;
        vacant = λ i get. s.vacant i get (λ ready x. none c (tray.put + i) ready x);
      }

  -- a lane awaits what is made to its client, and does not see the others
  awaits_else : (before after : StoreView R K P V M) (l : Ledger K V M O) (k : ℕ) (x : Client K V M O) (tray : Tray K V M O) → ((n : ℕ) (ready : ReadyView K V M) → IsMadeIn before k n ready → IsMadeIn after k n ready)
      → ((n : ℕ) (ready : ReadyView K V M) → IsMadeIn after k n ready → IsMadeIn before k n ready) → LaneAwaits puts before l k x tray → LaneAwaits puts after l k x tray
  awaits_else before after l k x tray on back s = record {
    owner = s.owner;
    outbox = s.outbox;
    refused = s.refused;
    put = s.put;
    room = s.room;
    few = s.few;
    filled = s.filled;
    vacant = λ i get unmade. s.vacant i get (λ ready made. unmade ready (on (tray.put + i) ready made));
    apart = λ i ready other get made. s.apart i ready other get (back (tray.put + i) other made);
  }

module _ {R K P V M O : Type 0} (order : K → K → Ordering) (mach : Machine K P V) (point : M → Point) (puts : O → List (ReplyView K V M)) where
  -- one reply that is made gets its place
  pub lanes_passed : (before after : StoreView R K P V M) (lanes left : Slots (Tray K V M O)) (l : Ledger K V M O) (c : ℕ) (ready : ReadyView K V M) → StoreStandsFor order mach point before (told_ledger puts l)
      → LanesAwait puts before lanes.items l → Collects c (Some ready) before after → FillsIn c ready lanes left
      → LanesAwait puts after left.items l × ((b : ℕ) → IsAbove b lanes.items → IsAbove b left.items)
  lanes_passed before after lanes left l c ready s h (of_client, made, fewer, on) fills = (
    record {
      within = λ k x get. elim (same_or_other k c) [
        | inl w ↦
            let lt : c < length l.clients = get_within l.clients c client is_open.here in
            let e : k ≡ c = w in
            omega arith
        | inr w ↦ h.within k x (sym (set_others lanes left c _ set k w) ∙ get)
      ];
      open_yet = λ k x get opened. elim (same_or_other k c) [
        | inl w ↦
            let e : x ≡ client = one_entry l.clients c x client (ap (slice_get l.clients) (sym w) ∙ get) is_open.here in (
              placed_in tray ready,
              ap (λ (y : ℕ). found left.items y) w ∙ set_here lanes left c _ set,
              subst (λ (y : ℕ). LaneAwaits puts after l y x (placed_in tray ready)) (sym w) (subst (λ (y : Client K V M O). LaneAwaits puts after l c y (placed_in tray ready)) (sym e) placed),
            )
        | inr w ↦
            let v = h.open_yet k x get opened in (
              v.0,
              set_others lanes left c _ set k w ∙ v.1,
              awaits_else puts before after l k x v.0 (λ i other y. elim (on k i other y) [ inl z ↦ absurd (w z.0) | inr z ↦ z ]) (λ i other y. (fewer k i other y).0) v.2,
            )
      ];
      shut = λ k x get shut. elim (same_or_other k c) [
        | inl w ↦
            let e : x ≡ client = one_entry l.clients c x client (ap (slice_get l.clients) (sym w) ∙ get) is_open.here in
            absurd (open_not_shut x (ap (λ (y : Client K V M O). y.is_open) e ∙ is_open.open_yet) shut)
        | inr w ↦ set_others lanes left c _ set k w ∙ h.shut k x get shut
      ];
    },
    set.above,
  )
    where
      n : ℕ
      n = ready.reply.number

      r : (entry : Entry K V M) × IsReadyAt (told_ledger puts l) c n entry ready.reply × (ready.accepted ≡ entry.accepted) × ((x : Client K V M (Told K V M)) × IsOpen (told_ledger puts l) c x)
      r = made_ready order mach point before (told_ledger puts l) c n ready s made

      now : IsReadyAt l c n r.0 ready.reply
      now = ready_told puts l c n r.0 ready.reply r.1

      client : Client K V M O
      client = (open_told puts l c r.3.0 r.3.1).0

      is_open : IsOpen l c client
      is_open = (open_told puts l c r.3.0 r.3.1).1

      open_not_shut : (x : Client K V M O) → x.is_open ≡ true → x.is_open ≡ false → ⊥
      open_not_shut x e f = cc

      tray : Tray K V M O
      tray = (h.open_yet c client is_open.here is_open.open_yet).0

      awaits : LaneAwaits puts before l c client tray
      awaits = (h.open_yet c client is_open.here is_open.open_yet).2

      past : tray.put ≤ n
      past =
          let right = ready_right puts (answer_by order mach point) l c n r.0 ready.reply (kept_told puts (answer_by order mach point) l s.kept) now in
          let e : now.client ≡ client = one_entry l.clients c now.client client now.is_entry.client_here is_open.here in
          let most : length (puts client.outbox) ≤ n = subst (λ (x : Client K V M O). length (puts x.outbox) ≤ n) e right.0 in
          let put : tray.put ≡ length (puts client.outbox) = awaits.put in
          omega arith

      within : n < tray.put + window
      within =
          let e : now.client ≡ client = one_entry l.clients c now.client client now.is_entry.client_here is_open.here in
          let lt : n < length client.entries = subst (λ (x : Client K V M O). n < length x.entries) e (get_within now.client.entries n r.0 now.is_entry.here) in
          let few : length client.entries ≤ tray.put + window = awaits.few in
          omega arith

      vacant : (place : Option (ReadyView K V M)) → slice_get tray.places (n - tray.put) ≡ Some place → slice_get tray.places (n - tray.put) ≡ Some None
      vacant None get = get
      vacant (Some other) get =
          let e : n ≡ tray.put + (n - tray.put) = (let le = past in omega arith) in
          absurd (awaits.apart (n - tray.put) other ready get (subst (λ (i : ℕ). IsMadeIn before c i ready) e made))

      has : HasPlace tray ready
      has =
          let lt : n - tray.put < length tray.places = (let room : length tray.places ≡ window = awaits.room in let less = within in let le = past in omega arith) in
          let there = get_there tray.places (n - tray.put) lt in
          record { outbox = client.outbox; open_yet = awaits.outbox; client = of_client ∙ sym awaits.owner; past = past; vacant = vacant there.0 there.1 }

      set : IsSetAt lanes left c (Some (placed_in tray ready))
      set = fills tray (h.open_yet c client is_open.here is_open.open_yet).1 has

      placed : LaneAwaits puts after l c client (placed_in tray ready)
      placed = record {
        owner = awaits.owner;
        outbox = awaits.outbox;
        refused = awaits.refused;
        put = awaits.put;
        room = set_long tray.places (n - tray.put) (Some ready) ∙ awaits.room;
        few = awaits.few;
        filled = λ i other get. elim (get_set tray.places (n - tray.put) (Some ready) i (Some other) get) [
          | inl w ↦
              let same : other ≡ ready = some_one other ready w.1 in
              let at : n ≡ tray.put + i = (let e : i ≡ n - tray.put = w.0 in let le = past in omega arith) in (
                r.0,
                subst (λ (x : ReadyView K V M). IsReadyAt l c (tray.put + i) r.0 x.reply) (sym same) (ready_move l c c n (tray.put + i) r.0 ready.reply refl at now),
                ap (λ (x : ReadyView K V M). x.accepted) same ∙ r.2,
              )
          | inr w ↦ awaits.filled i other w.1
        ];
        vacant = λ i get unmade. elim (get_set tray.places (n - tray.put) (Some ready) i None get) [
          | inl w ↦ absurd (none_some ready w.1)
          | inr w ↦ awaits.vacant i w.1 (λ other x. elim (on c (tray.put + i) other x) [
            | inl z ↦ (let ne : i ≢ n - tray.put = w.0 in let e : tray.put + i ≡ n = z.1 in absurd (omega arith))
            | inr z ↦ unmade other z
          ])
        ];
        apart = λ i x other get y. elim (get_set tray.places (n - tray.put) (Some ready) i (Some x) get) [
          | inl w ↦ (fewer c (tray.put + i) other y).1 refl (let e : i ≡ n - tray.put = w.0 in let le = past in omega arith)
          | inr w ↦ awaits.apart i x other w.1 (fewer c (tray.put + i) other y).0
        ];
      }

  -- ---- what a call leaves

  pub landed : (Move : Ledger K V M O → Ledger K V M O → Type 0) (lanes left : Slots (Tray K V M O)) (l m : Ledger K V M O) (after : StoreView R K P V M) → Move l m → StoreStandsFor order mach point after (told_ledger puts m)
      → Passed puts m after lanes left → length l.clients ≤ length m.clients → Lands order mach point puts Move lanes l after left
  landed Move lanes left l m after move s p more = record {
    ledger = m;
    moves = move;
    stands = record { inputs = s.inputs; store = s; lanes = p.stand };
    none = p.none;
    more = more;
    above = λ b a lt le. above_more b (length m.clients) left.items le (p.above b a);
  }

  -- the invariant of the core after a call
  pub still_whole : (Move : Ledger K V M O → Ledger K V M O → Type 0) (before after : StoreView R K P V M) (lanes left : Slots (Tray K V M O)) (l : Ledger K V M O) → IsAbove before.clients lanes.items
      → StandsFor order mach point puts (core_of before lanes) l → Lands order mach point puts Move lanes l after left → IsWhole order mach point puts (core_of after left)
  still_whole Move before after lanes left l a s w = record {
    above =
        let b : length (told_ledger puts l).clients ≡ before.clients = s.store.clients in
        let d : length (told_ledger puts w.ledger).clients ≡ after.clients = w.stands.store.clients in
        let e = told_long puts l in
        let f = told_long puts w.ledger in
        let more = w.more in
        subst (λ (x : ℕ). IsAbove x left.items) (sym f ∙ d) (w.above before.clients a (omega arith) (omega arith));
    none_handed = w.none;
    ledger = (w.ledger, w.stands);
  }

module _ {R K P V M O : Type 0} (order : K → K → Ordering) (machine : R → Machine K P V) (point : M → Point) (puts : O → List (ReplyView K V M)) (Move : Ledger K V M O → Ledger K V M O → Type 0) (before after : StoreView R K P V M) (lanes left : Slots (Tray K V M O)) where
  -- `Calls` is what a call comes to from each ledger that the core stands for
  abbrev pub Calls : Type 0
  Calls = (l : Ledger K V M O) → StandsFor order (machine before.rules) point puts (core_of before lanes) l → Lands order (machine before.rules) point puts Move lanes l after left

  pub call_moved : Calls → (l : Ledger K V M O) → StandsFor order (machine before.rules) point puts (core_of before lanes) l → Reaches Move l (StandsFor order (machine before.rules) point puts (core_of after left))
  call_moved calls l s = let w = calls l s in (w.ledger, w.moves, w.stands)

  pub call_whole : IsWhole order (machine before.rules) point puts (core_of before lanes) → after.rules ≡ before.rules → Calls → IsWhole order (machine after.rules) point puts (core_of after left)
  call_whole inv same calls =
      subst (λ (x : R). IsWhole order (machine x) point puts (core_of after left)) (sym same)
      (still_whole order (machine before.rules) point puts Move before after lanes left inv.ledger.0 inv.above inv.ledger.1 (calls inv.ledger.0 inv.ledger.1))

module _ {R K P V M O : Type 0} (order : K → K → Ordering) (machine : R → Machine K P V) (point : M → Point) (puts : O → List (ReplyView K V M)) where
  pub passes_more : (a b c : StoreView R K P V M) (x y z : Slots (Tray K V M O)) → PassesOn order (machine a.rules) point puts a b x y → PassesOn order (machine b.rules) point puts b c y z
      → PassesOn order (machine a.rules) point puts a c x z
  passes_more a b c x y z p q =
      let r = subst (λ (rules : R). PassesOn order (machine rules) point puts b c y z) p.rules q in
      record {
        rules = q.rules ∙ p.rules;
        inputs = q.inputs ∙ p.inputs;
        places = q.places ∙ p.places;
        claims = q.claims ∙ p.claims;
        stands = λ t s. r.stands t (p.stands t s);
        counted = λ log i. r.counted log (p.counted log i);
        awaits = λ l s h.
            let v = p.awaits l s h in
            let w = r.awaits l (p.stands (told_ledger puts l) s) v.0 in
            (w.0, λ m above. w.1 m (v.1 m above));
      }

  -- a call of the store, after which all that is made is passed on
  pub served : (Known : Ledger K V M (Told K V M) → Ledger K V M (Told K V M) → Type 0) (Move : Ledger K V M O → Ledger K V M O → Type 0) (before made after : StoreView R K P V M) (lanes left : Slots (Tray K V M O))
      → NoneMade before → Goes order (machine before.rules) point before made Known → ((l : Ledger K V M O) (t : Ledger K V M (Told K V M)) → Known (told_ledger puts l) t → Lifts puts Move l t)
      → ((l m : Ledger K V M O) → Move l m → KeepsReady puts l m) → made.rules ≡ before.rules → PassesOn order (machine made.rules) point puts made after lanes left → NoneMade after
      → Calls order machine point puts Move before after lanes left
  served Known Move before made after lanes left none goes lifts keeps rules passes settled l s =
      let p = subst (λ (x : R). PassesOn order (machine x) point puts made after lanes left) rules passes in
      let g = goes (told_ledger puts l) s.store in
      let m = lifts l g.0 g.1 in
      let kept = keeps l m.0 m.1 in
      let stands = subst (λ (t : Ledger K V M (Told K V M)). StoreStandsFor order (machine before.rules) point made t) (sym m.2) g.2 in
      let makes = subst (λ (t : Ledger K V M (Told K V M)). Makes before made (told_ledger puts l) t) (sym m.2) g.3 in
      let w = p.awaits m.0 stands (lanes_await puts before made lanes.items l m.0 none makes kept s.lanes) in
      landed order (machine before.rules) point puts Move lanes left l m.0 after m.1 (p.stands (told_ledger puts m.0) stands)
      (record { none = settled; stand = lanes_settle puts after left.items m.0 settled w.0; above = w.1 }) kept.more

module _ {R K P V M O : Type 0} (order : K → K → Ordering) (machine : R → Machine K P V) (point : M → Point) (puts : O → List (ReplyView K V M)) where
  -- of the core as it is seen
  pub seen_moved : (MoveOf : R → Ledger K V M O → Ledger K V M O → Type 0) (v w after : CoreView R K P V M O) → v ≡ w
      → ((l : Ledger K V M O) → StandsFor order (machine v.rules) point puts v l → Reaches (MoveOf v.rules) l (StandsFor order (machine v.rules) point puts after))
      → (l : Ledger K V M O) → StandsFor order (machine w.rules) point puts w l → Reaches (MoveOf w.rules) l (StandsFor order (machine w.rules) point puts after)
  seen_moved MoveOf v w after e h =
      subst (λ (x : CoreView R K P V M O). (l : Ledger K V M O) → StandsFor order (machine x.rules) point puts x l → Reaches (MoveOf x.rules) l (StandsFor order (machine x.rules) point puts after)) e h

  pub seen_counted : (LogOf : StoreView R K P V M → Log K → Log K) (v w after : CoreView R K P V M O) → v ≡ w
      → ((log : Log K) → IsCountedFor order (machine v.rules) v log → IsCountedFor order (machine v.rules) after (LogOf v.store log))
      → (log : Log K) → IsCountedFor order (machine w.rules) w log → IsCountedFor order (machine w.rules) after (LogOf w.store log)
  seen_counted LogOf v w after e h =
      subst (λ (x : CoreView R K P V M O). (log : Log K) → IsCountedFor order (machine x.rules) x log → IsCountedFor order (machine x.rules) after (LogOf x.store log)) e h
