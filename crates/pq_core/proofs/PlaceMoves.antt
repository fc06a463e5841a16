-- Each reply that is ready is in the lane of its client, after each move.
use Rattle.std.proofs.Common.{◌≡◌, ◌≢◌, ℕ, zero, suc, ◌+◌, ◌<◌, ◌≤◌, ◌⊎◌, Bool, true, false, List, [], ◌∷◌, ◌++◌, length, drop, replicate, slice_get, slice_set, Option, Some, None, refl, sym, ◌∙◌, ap, subst, inl, inr, arith}
use Rattle.pq_core.proofs.Lists.{some_one, get_set, get_append, get_within, get_there, set_same, set_other, set_long, append_long, same_or_other}
use Rattle.pq_core.proofs.Writes.{nothing_there, drop_get, one_entry}
use Rattle.pq_core.specs.Replies.{ReplyView}
use Rattle.pq_core.specs.Ledger.{Place, Ready, Put, Entry, Client, Ledger, opened, closed, with_entry, with_outbox, moved_to}
use Rattle.pq_core.specs.Moves.{window}
use Rattle.pq_core.specs.Lanes.{ReadyView, Tray, empty_tray, IsNextIn, after_next, tray_with, tray_after}
use Rattle.pq_core.specs.Told.{IsReadyAt, NoneReadyAt}
use Rattle.pq_core.specs.declared.store.rising.Place.{Place as Seat}
use Rattle.pq_core.specs.aux.Rising.{found}
use Rattle.pq_core.specs.aux.Places.{LaneStands, LanesStand}

-- a number of a client is a given one, or not
pub at_or_not : (k c i n : ℕ) → ((k ≡ c) × (i ≡ n)) ⊎ ((k ≡ c) × (i ≡ n) → ⊥)
at_or_not k c i n = elim (same_or_other k c) [
  | inl w ↦ elim (same_or_other i n) [ inl v ↦ inl (w, v) | inr v ↦ inr (λ z. v z.1) ]
  | inr w ↦ inr (λ z. w z.0)
]

pub get_append_other : {A : Type 0} (xs : List A) (x : A) (j : ℕ) → j ≢ length xs → slice_get (xs ++ x ∷ []) j ≡ slice_get xs j
get_append_other [] x zero ne = absurd (ne refl)
get_append_other [] x (suc j) ne = refl
get_append_other (a ∷ xs) x zero ne = refl
get_append_other (a ∷ xs) x (suc j) ne = get_append_other xs x j (λ e. ne (ap suc e))

vacant_not : {A P : Type 0} (x : A) → Some None ≡ Some (Some x) → P
vacant_not x e = cc

vacant_none : {A P : Type 0} (n i : ℕ) (x : A) → slice_get (replicate n None) i ≡ Some (Some x) → P
vacant_none zero i x h = nothing_there (Some x) h
vacant_none (suc n) zero x h = vacant_not x h
vacant_none (suc n) (suc i) x h = vacant_none n i x h

placed_not : {A P : Type 0} (x : A) → None ≡ Some x → P
placed_not x e = cc

open_not : {P : Type 0} → true ≡ false → P
open_not e = cc

ready_not : {K V M P : Type 0} (place : Place K V M) (reply : ReplyView K V M) → place ≡ Put → place ≡ Ready reply → P
ready_not place reply e f = cc

module _ {K V M O : Type 0} where
  -- `Changes l m c n` is that `m` differs from `l` in one request, `n` of the client `c`
  pub record Changes (l m : Ledger K V M O) (c n : ℕ) : Type 0 where
    pub client : Client K V M O
    pub other : Client K V M O
    pub here : slice_get l.clients c ≡ Some client
    pub set : m.clients ≡ slice_set l.clients c other
    pub on : (i : ℕ) → i ≢ n → slice_get other.entries i ≡ slice_get client.entries i

  pub after_here : (l m : Ledger K V M O) (c n : ℕ) (s : Changes l m c n) → slice_get m.clients c ≡ Some s.other
  after_here l m c n s = ap (λ (xs : List (Client K V M O)). slice_get xs c) s.set ∙ set_same l.clients c s.other (get_within l.clients c s.client s.here)

  pub after_else : (l m : Ledger K V M O) (c : ℕ) (other : Client K V M O) (k : ℕ) → m.clients ≡ slice_set l.clients c other → k ≢ c → slice_get m.clients k ≡ slice_get l.clients k
  after_else l m c other k set ne = ap (λ (xs : List (Client K V M O)). slice_get xs k) set ∙ set_other l.clients c other k ne

  -- replies to other clients
  pub ready_else : (l m : Ledger K V M O) (k i : ℕ) (entry : Entry K V M) (reply : ReplyView K V M) → slice_get m.clients k ≡ slice_get l.clients k
      → IsReadyAt l k i entry reply → IsReadyAt m k i entry reply
  ready_else l m k i entry reply same r = record {
    client = r.client;
    is_entry = record { client_here = same ∙ r.is_entry.client_here; here = r.is_entry.here };
    ready = r.ready;
  }

  -- replies to other requests
  pub ready_on : (l m : Ledger K V M O) (c n k i : ℕ) (entry : Entry K V M) (reply : ReplyView K V M) → Changes l m c n → ((k ≡ c) × (i ≡ n) → ⊥)
      → IsReadyAt l k i entry reply → IsReadyAt m k i entry reply
  ready_on l m c n k i entry reply s ne r = elim (same_or_other k c) [
    | inl w ↦
        let is : r.client ≡ s.client = one_entry l.clients c r.client s.client (ap (slice_get l.clients) (sym w) ∙ r.is_entry.client_here) s.here in
        record {
          client = s.other;
          is_entry = record {
            client_here = ap (slice_get m.clients) w ∙ after_here l m c n s;
            here = s.on i (λ v. ne (w, v)) ∙ (ap (λ (x : Client K V M O). slice_get x.entries i) (sym is) ∙ r.is_entry.here);
          };
          ready = r.ready;
        }
    | inr w ↦ ready_else l m k i entry reply (after_else l m c s.other k s.set w) r
  ]

  pub ready_back : (l m : Ledger K V M O) (c n k i : ℕ) (entry : Entry K V M) (reply : ReplyView K V M) → Changes l m c n → ((k ≡ c) × (i ≡ n) → ⊥)
      → IsReadyAt m k i entry reply → IsReadyAt l k i entry reply
  ready_back l m c n k i entry reply s ne r = elim (same_or_other k c) [
    | inl w ↦
        let is : r.client ≡ s.other = one_entry m.clients c r.client s.other (ap (slice_get m.clients) (sym w) ∙ r.is_entry.client_here) (after_here l m c n s) in
        record {
          client = s.client;
          is_entry = record {
            client_here = ap (slice_get l.clients) w ∙ s.here;
            here = sym (s.on i (λ v. ne (w, v))) ∙ (ap (λ (x : Client K V M O). slice_get x.entries i) (sym is) ∙ r.is_entry.here);
          };
          ready = r.ready;
        }
    | inr w ↦ ready_else m l k i entry reply (sym (after_else l m c s.other k s.set w)) r
  ]

  -- one request of a client
  pub ready_move : (l : Ledger K V M O) (k c i n : ℕ) (entry : Entry K V M) (reply : ReplyView K V M) → k ≡ c → i ≡ n → IsReadyAt l k i entry reply → IsReadyAt l c n entry reply
  ready_move l k c i n entry reply e f r = subst (λ (x : ℕ). IsReadyAt l x n entry reply) e (subst (λ (x : ℕ). IsReadyAt l k x entry reply) f r)

  pub entry_is : (l : Ledger K V M O) (c n : ℕ) (client : Client K V M O) (entry e : Entry K V M) (r : ReplyView K V M) → slice_get l.clients c ≡ Some client → slice_get client.entries n ≡ Some entry
      → IsReadyAt l c n e r → (e ≡ entry) × (entry.place ≡ Ready r)
  entry_is l c n client entry e r here at ready =
      let same : ready.client ≡ client = one_entry l.clients c ready.client client ready.is_entry.client_here here in
      let is : e ≡ entry = one_entry client.entries n e entry (ap (λ (x : Client K V M O). slice_get x.entries n) (sym same) ∙ ready.is_entry.here) at in
      (is, ap (λ (x : Entry K V M). x.place) (sym is) ∙ ready.ready)

  pub none_at : (l : Ledger K V M O) (c n : ℕ) (client : Client K V M O) (entry : Entry K V M) → slice_get l.clients c ≡ Some client → slice_get client.entries n ≡ Some entry
      → ((reply : ReplyView K V M) → entry.place ≡ Ready reply → ⊥) → NoneReadyAt l c n
  none_at l c n client entry here at none e r ready = none r (entry_is l c n client entry e r here at ready).1

  pub none_past : (l : Ledger K V M O) (c n : ℕ) (client : Client K V M O) → slice_get l.clients c ≡ Some client → length client.entries ≤ n → NoneReadyAt l c n
  none_past l c n client here past e r ready =
      let same : ready.client ≡ client = one_entry l.clients c ready.client client ready.is_entry.client_here here in
      let lt : n < length client.entries = get_within client.entries n e (ap (λ (x : Client K V M O). slice_get x.entries n) (sym same) ∙ ready.is_entry.here) in
      absurd (omega arith)

module _ {K V M O : Type 0} (puts : O → List (ReplyView K V M)) where
  -- ---- the lane of one client

  -- another client
  pub stands_else : (l m : Ledger K V M O) (k : ℕ) (client : Client K V M O) (tray : Tray K V M O) → slice_get m.clients k ≡ slice_get l.clients k → LaneStands puts l k client tray → LaneStands puts m k client tray
  stands_else l m k client tray same h = record {
    owner = h.owner;
    outbox = h.outbox;
    refused = h.refused;
    put = h.put;
    room = h.room;
    few = h.few;
    filled = λ i ready get. let w = h.filled i ready get in (w.0, ready_else l m k (tray.put + i) w.0 ready.reply same w.1, w.2);
    vacant = λ i get entry reply r. h.vacant i get entry reply (ready_else m l k (tray.put + i) entry reply (sym same) r);
  }

  -- ---- all lanes

  -- `LanesWritten lanes left c` is that `left` has of other clients than `c` what `lanes` has
  abbrev pub SameElse : List (Seat (Tray K V M O)) → List (Seat (Tray K V M O)) → ℕ → Type 0
  SameElse lanes left c = (k : ℕ) → k ≢ c → found left k ≡ found lanes k

  -- one client and its lane change
  pub lanes_write : (lanes left : List (Seat (Tray K V M O))) (l m : Ledger K V M O) (c : ℕ) (client other : Client K V M O) → LanesStand puts lanes l → slice_get l.clients c ≡ Some client
      → m.clients ≡ slice_set l.clients c other → SameElse lanes left c
      → (other.is_open ≡ true → (tray : Tray K V M O) × (found left c ≡ Some tray) × LaneStands puts m c other tray)
      → (other.is_open ≡ false → found left c ≡ None)
      → LanesStand puts left m
  lanes_write lanes left l m c client other h here set same open_so shut_so = record {
    within = λ k tray get. elim (same_or_other k c) [
      | inl w ↦
          let a : c < length l.clients = get_within l.clients c client here in
          let b : length m.clients ≡ length l.clients = ap (λ (xs : List (Client K V M O)). length xs) set ∙ set_long l.clients c other in
          let e : k ≡ c = w in
          omega arith
      | inr w ↦
          let a : k < length l.clients = h.within k tray (sym (same k w) ∙ get) in
          let b : length m.clients ≡ length l.clients = ap (λ (xs : List (Client K V M O)). length xs) set ∙ set_long l.clients c other in
          omega arith
    ];
    open_yet = λ k x get is_open. elim (get_set l.clients c other k x (ap (λ (xs : List (Client K V M O)). slice_get xs k) (sym set) ∙ get)) [
      | inl w ↦
          let v = open_so (ap (λ (y : Client K V M O). y.is_open) (sym w.1) ∙ is_open) in (
            v.0,
            ap (λ (y : ℕ). found left y) w.0 ∙ v.1,
            subst (λ (y : ℕ). LaneStands puts m y x v.0) (sym w.0) (subst (λ (y : Client K V M O). LaneStands puts m c y v.0) (sym w.1) v.2),
          )
      | inr w ↦
          let v = h.open_yet k x w.1 is_open in
          (v.0, same k w.0 ∙ v.1, stands_else l m k x v.0 (after_else l m c other k set w.0) v.2)
    ];
    shut = λ k x get is_shut. elim (get_set l.clients c other k x (ap (λ (xs : List (Client K V M O)). slice_get xs k) (sym set) ∙ get)) [
      | inl w ↦ ap (λ (y : ℕ). found left y) w.0 ∙ shut_so (ap (λ (y : Client K V M O). y.is_open) (sym w.1) ∙ is_shut)
      | inr w ↦ same k w.0 ∙ h.shut k x w.1 is_shut
    ];
  }

  -- the clients are the same, and so are the lanes
  pub lanes_same : (lanes left : List (Seat (Tray K V M O))) (l m : Ledger K V M O) → m.clients ≡ l.clients → ((k : ℕ) → found left k ≡ found lanes k) → LanesStand puts lanes l → LanesStand puts left m
  lanes_same lanes left l m set same h = record {
    within = λ k tray get.
        let a : k < length l.clients = h.within k tray (sym (same k) ∙ get) in
        let b : length m.clients ≡ length l.clients = ap (λ (xs : List (Client K V M O)). length xs) set in
        omega arith;
    open_yet = λ k x get is_open.
        let v = h.open_yet k x (ap (λ (xs : List (Client K V M O)). slice_get xs k) (sym set) ∙ get) is_open in
        (v.0, same k ∙ v.1, stands_else l m k x v.0 (ap (λ (xs : List (Client K V M O)). slice_get xs k) set) v.2);
    shut = λ k x get is_shut. same k ∙ h.shut k x (ap (λ (xs : List (Client K V M O)). slice_get xs k) (sym set) ∙ get) is_shut;
  }

  -- ---- open and close

  pub stands_opened : (m : Ledger K V M O) (c : ℕ) (outbox : O) → puts outbox ≡ [] → slice_get m.clients c ≡ Some (opened outbox) → LaneStands puts m c (opened outbox) (empty_tray c outbox)
  stands_opened m c outbox none here = record {
    owner = refl;
    outbox = refl;
    refused = refl;
    put = sym (ap length none);
    room = refl;
    few = omega arith;
    filled = λ i ready get. vacant_none window i ready get;
    vacant = λ i get. none_past m c (0 + i) (opened outbox) here (omega arith);
  }

  pub lanes_opened : (lanes left : List (Seat (Tray K V M O))) (l m : Ledger K V M O) (c : ℕ) (outbox : O) → puts outbox ≡ [] → LanesStand puts lanes l → c ≡ length l.clients
      → m.clients ≡ l.clients ++ opened outbox ∷ [] → SameElse lanes left c → found left c ≡ Some (empty_tray c outbox) → LanesStand puts left m
  lanes_opened lanes left l m c outbox none h next set same here = record {
    within = λ k tray get.
        let b : length m.clients ≡ length (l.clients ++ opened outbox ∷ []) = ap (λ (xs : List (Client K V M O)). length xs) set in
        let d = append_long l.clients (opened outbox) in
        elim (same_or_other k c) [
          | inl w ↦ let e : k ≡ c = w in omega arith
          | inr w ↦ let a : k < length l.clients = h.within k tray (sym (same k w) ∙ get) in omega arith
        ];
    open_yet = λ k x get is_open. elim (get_append l.clients (opened outbox) k x (ap (λ (xs : List (Client K V M O)). slice_get xs k) (sym set) ∙ get)) [
      | inl w ↦
          let e : k ≡ c = w.0 ∙ sym next in (
            empty_tray c outbox,
            ap (λ (y : ℕ). found left y) e ∙ here,
            subst (λ (y : ℕ). LaneStands puts m y x (empty_tray c outbox)) (sym e) (subst (λ (y : Client K V M O). LaneStands puts m c y (empty_tray c outbox)) (sym w.1) (stands_opened m c outbox none (ap (slice_get m.clients) (sym e) ∙ (get ∙ ap Some w.1)))),
          )
      | inr w ↦
          let ne = other_client k x w in
          let v = h.open_yet k x w is_open in
          (v.0, same k ne ∙ v.1, stands_else l m k x v.0 (get ∙ sym w) v.2)
    ];
    shut = λ k x get is_shut. elim (get_append l.clients (opened outbox) k x (ap (λ (xs : List (Client K V M O)). slice_get xs k) (sym set) ∙ get)) [
      | inl w ↦ open_not (sym (ap (λ (y : Client K V M O). y.is_open) w.1) ∙ is_shut)
      | inr w ↦ same k (other_client k x w) ∙ h.shut k x w is_shut
    ];
  }
    where
      other_client : (k : ℕ) (x : Client K V M O) → slice_get l.clients k ≡ Some x → k ≢ c
      other_client k x get e =
          let a : k < length l.clients = get_within l.clients k x get in
          let b : c ≡ length l.clients = next in
          let d : k ≡ c = e in
          absurd (omega arith)

  pub lanes_closed : (lanes left : List (Seat (Tray K V M O))) (l m : Ledger K V M O) (c : ℕ) (client : Client K V M O) → LanesStand puts lanes l → slice_get l.clients c ≡ Some client
      → m.clients ≡ slice_set l.clients c (closed client) → SameElse lanes left c → found left c ≡ None → LanesStand puts left m
  lanes_closed lanes left l m c client h here set same gone =
      lanes_write lanes left l m c client (closed client) h here set same (λ o. open_not (sym o)) (λ o. gone)

  -- ---- release and take

  -- the outbox changed, and the replies put have not
  pub stands_outbox : (l m : Ledger K V M O) (c : ℕ) (client : Client K V M O) (tray : Tray K V M O) (o : O) (refused : Bool) → LaneStands puts l c client tray → slice_get l.clients c ≡ Some client
      → m.clients ≡ slice_set l.clients c (with_outbox client o refused) → puts o ≡ puts client.outbox → LaneStands puts m c (with_outbox client o refused) (tray_with tray o refused)
  stands_outbox l m c client tray o refused h here set same =
      let s : Changes l m c (length client.entries) = record { client = client; other = with_outbox client o refused; here = here; set = set; on = λ i ne. refl } in
      record {
        owner = h.owner;
        outbox = refl;
        refused = refl;
        put = h.put ∙ ap length (sym same);
        room = h.room;
        few = h.few;
        filled = λ i ready get.
            let w = h.filled i ready get in
            (w.0, ready_on l m c (length client.entries) c (tray.put + i) w.0 ready.reply s (λ v. none_past l c (length client.entries) client here (omega arith) w.0 ready.reply (ready_move l c c (tray.put + i) (length client.entries) w.0 ready.reply refl v.1 w.1)) w.1, w.2);
        vacant = λ i get entry reply r. elim (at_or_not c c (tray.put + i) (length client.entries)) [
          | inl w ↦ none_past m c (length client.entries) (with_outbox client o refused) (after_here l m c (length client.entries) s) (omega arith) entry reply (ready_move m c c (tray.put + i) (length client.entries) entry reply refl w.1 r)
          | inr w ↦ h.vacant i get entry reply (ready_back l m c (length client.entries) c (tray.put + i) entry reply s w r)
        ];
      }

  -- the first place, and the next reply
  pub next_first : (l : Ledger K V M O) (c : ℕ) (client : Client K V M O) (tray : Tray K V M O) (outbox : O) (ready : ReadyView K V M) → LaneStands puts l c client tray → IsNextIn tray outbox ready
      → (entry : Entry K V M) × IsReadyAt l c (length (puts client.outbox)) entry ready.reply × (outbox ≡ client.outbox)
  next_first l c client tray outbox ready h next =
      let w = h.filled 0 ready next.next in
      let put : tray.put ≡ length (puts client.outbox) = h.put in
      (w.0, ready_move l c c (tray.put + 0) (length (puts client.outbox)) w.0 ready.reply refl (omega arith) w.1, some_one outbox client.outbox (sym next.open_yet ∙ h.outbox))

  pub first_next : (l : Ledger K V M O) (c : ℕ) (client : Client K V M O) (tray : Tray K V M O) (entry : Entry K V M) (reply : ReplyView K V M) → LaneStands puts l c client tray
      → IsReadyAt l c (length (puts client.outbox)) entry reply → (ready : ReadyView K V M) × IsNextIn tray client.outbox ready × (ready.reply ≡ reply)
  first_next l c client tray entry reply h r =
      let long : length tray.places ≡ window = h.room in
      let there = get_there tray.places 0 (omega arith) in
      by_place there.0 there.1
    where
      put_is : tray.put ≡ length (puts client.outbox)
      put_is = h.put

      by_place : (place : Option (ReadyView K V M)) → slice_get tray.places 0 ≡ Some place → (ready : ReadyView K V M) × IsNextIn tray client.outbox ready × (ready.reply ≡ reply)
      by_place None get = absurd (h.vacant 0 get entry reply (ready_move l c c (length (puts client.outbox)) (tray.put + 0) entry reply refl (let e = put_is in omega arith) r))
      by_place (Some ready) get =
          let w = h.filled 0 ready get in
          let v = ready_move l c c (tray.put + 0) (length (puts client.outbox)) w.0 ready.reply refl (let e = put_is in omega arith) w.1 in
          (ready, record { open_yet = h.outbox; next = get }, same_reply w.0 entry ready.reply reply v r)
        where
          same_reply : (e f : Entry K V M) (p q : ReplyView K V M) → IsReadyAt l c (length (puts client.outbox)) e p → IsReadyAt l c (length (puts client.outbox)) f q → p ≡ q
          same_reply e f p q a b =
              let same : a.client ≡ b.client = one_entry l.clients c a.client b.client a.is_entry.client_here b.is_entry.client_here in
              let is : e ≡ f = one_entry b.client.entries (length (puts client.outbox)) e f (ap (λ (x : Client K V M O). slice_get x.entries (length (puts client.outbox))) (sym same) ∙ a.is_entry.here) b.is_entry.here in
              let g : Ready p ≡ Ready q = sym a.ready ∙ (ap (λ (x : Entry K V M). x.place) is ∙ b.ready) in
              cc

  shift_some : (xs : List (Option (ReadyView K V M))) (i : ℕ) (x : ReadyView K V M) → slice_get (after_next xs) i ≡ Some (Some x) → slice_get xs (suc i) ≡ Some (Some x)
  shift_some xs i x h = elim (get_append (drop 1 xs) None i (Some x) h) [
    | inl w ↦ placed_not x (sym w.1)
    | inr w ↦ sym (drop_get xs i) ∙ w
  ]

  shift_none : (xs : List (Option (ReadyView K V M))) (i : ℕ) → slice_get (after_next xs) i ≡ Some None → (i ≡ length (drop 1 xs)) ⊎ (slice_get xs (suc i) ≡ Some None)
  shift_none xs i h = elim (get_append (drop 1 xs) None i None h) [
    | inl w ↦ inl w.0
    | inr w ↦ inr (sym (drop_get xs i) ∙ w)
  ]

  drop_one_long : (xs : List (Option (ReadyView K V M))) → 0 < length xs → length (drop 1 xs) + 1 ≡ length xs
  drop_one_long [] h = absurd (omega arith)
  drop_one_long (x ∷ xs) h = omega arith

  -- the next reply was put
  pub stands_put : (l m : Ledger K V M O) (c : ℕ) (client : Client K V M O) (tray : Tray K V M O) (o : O) (entry : Entry K V M) (reply : ReplyView K V M) → LaneStands puts l c client tray → slice_get l.clients c ≡ Some client
      → m.clients ≡ slice_set l.clients c (with_outbox (with_entry client (length (puts client.outbox)) (moved_to entry Put)) o false)
      → slice_get client.entries (length (puts client.outbox)) ≡ Some entry
      → puts o ≡ puts client.outbox ++ reply ∷ [] → LaneStands puts m c (with_outbox (with_entry client (length (puts client.outbox)) (moved_to entry Put)) o false) (tray_after tray o)
  stands_put l m c client tray o entry reply h here set at more =
      let n = length (puts client.outbox) in
      let other = with_outbox (with_entry client n (moved_to entry Put)) o false in
      let s : Changes l m c n = record { client = client; other = other; here = here; set = set; on = λ i ne. set_other client.entries n (moved_to entry Put) i ne } in
      let put : tray.put ≡ length (puts client.outbox) = h.put in
      let long : length tray.places ≡ window = h.room in
      let one = append_long (puts client.outbox) reply in
      let all : length (puts o) ≡ length (puts client.outbox ++ reply ∷ []) = ap length more in
      let shorter = drop_one_long tray.places (omega arith) in
      let longer = append_long (drop 1 tray.places) None in
      let few : length client.entries ≤ tray.put + window = h.few in
      let kept = set_long client.entries n (moved_to entry Put) in
      record {
        owner = h.owner;
        outbox = refl;
        refused = refl;
        put = omega arith;
        room = omega arith;
        few = omega arith;
        filled = λ i ready get.
            let w = h.filled (suc i) ready (shift_some tray.places i ready get) in (
              w.0,
              ready_on l m c n c (tray.put + 1 + i) w.0 ready.reply s (λ v. (let e : tray.put + 1 + i ≡ n = v.1 in absurd (omega arith)))
                  (ready_move l c c (tray.put + suc i) (tray.put + 1 + i) w.0 ready.reply refl (omega arith) w.1),
              w.2,
            );
        vacant = λ i get e r now. elim (shift_none tray.places i get) [
          | inl w ↦
              let last : i ≡ length (drop 1 tray.places) = w in
              none_past m c (tray.put + 1 + i) other (after_here l m c n s) (omega arith) e r now
          | inr w ↦
              h.vacant (suc i) w e r
              (ready_move l c c (tray.put + 1 + i) (tray.put + suc i) e r refl (omega arith)
              (ready_back l m c n c (tray.put + 1 + i) e r s (λ v. (let f : tray.put + 1 + i ≡ n = v.1 in absurd (omega arith))) now))
        ];
      }
