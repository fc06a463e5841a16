-- Moves of the ledger keep the seats where they are. A middle term: only proofs need it.
use Rattle.std.proofs.Common.{◌≡◌, ◌≢◌, ℕ, zero, suc, ◌+◌, ◌<◌, Bool, true, false, List, [], ◌∷◌, ◌++◌, map, length, slice_get, slice_set, Option, Some, None, refl, sym, ◌∙◌, ap, subst, inl, inr, arith}
use Rattle.std.specs.Prelude.{Ok, Err, Result}
use Rattle.pq_rules.specs.declared.turn.Answer.{Answer}
use Rattle.pq_core.specs.Points.{Point}
use Rattle.pq_core.specs.Replies.{ReplyView}
use Rattle.pq_core.specs.Changes.{ChangeView}
use Rattle.pq_core.specs.Works.{DoneView, WorkView}
use Rattle.pq_core.specs.Outboxes.{Listed, taken_front, HasNoRoom, HasLostEnd}
use Rattle.pq_core.specs.Ledger.{Ledger, Client, Entry, with_entry, with_entries, with_outbox, entry_closed, closed, opened}
use Rattle.pq_core.specs.Moves.{Opens, Accepts, TurnsEntry, Turns, TurnsIf, Edits, is_turn, edited, Starts, LooksFor, Gives, Starves, WithdrawsEntry, Withdraws, Releases, Closes, new_entry, with_new}
use Rattle.pq_core.specs.declared.values.label.Label.{Label}
use Rattle.pq_core.specs.declared.values.request.Request.{Request}
use Rattle.pq_core.specs.declared.values.fault.AcceptRefused.{AcceptRefused}
use Rattle.pq_core.specs.declared.values.fault.EditRefused.{EditRefused}
use Rattle.pq_core.specs.declared.values.fault.WithdrawFault.{WithdrawFault}
use Rattle.pq_core.specs.declared.values.fault.LookFault.{LookFault}
use Rattle.pq_core.specs.declared.values.fault.LookFault.TheVariants.{NoRun, Memory as LookMemory}
use Rattle.pq_core.specs.declared.values.moves.Move.{Move}
use Rattle.pq_core.specs.declared.values.moves.Move.TheVariants.{Carry, Blocked, Stepped as MoveStepped, Answered as MoveAnswered, Stopped as MoveStopped}
use Rattle.pq_core.specs.declared.values.moves.Released.{Released}
use Rattle.pq_core.specs.declared.values.moves.Released.TheVariants.{Put as ReleasedPut, Full as ReleasedFull, Gone as ReleasedGone, Nothing as ReleasedNothing}
use Rattle.pq_core.proofs.Lists.{some_one, get_set, get_append, get_within, get_there, set_long, append_long}
use Rattle.pq_core.proofs.Writes.{set_back}
use Rattle.pq_play.specs.World.{replies_of}
use Rattle.pq_play.specs.Results.{request_of, accepted_of}
use Rattle.pq_play.specs.aux.Seats.{SeatView, free_seat, with_request, with_left, Seated, Aligned}

not_both : (b : Bool) → b ≡ true → b ≡ false → ⊥
not_both b e f = cc

at_set : {A : Type 0} (xs : List A) (i : ℕ) (x : A) (d : ℕ) (y : A) → slice_get (slice_set xs i x) d ≡ Some y → d ≡ i → y ≡ x
at_set xs i x d y h e = elim (get_set xs i x d y h) [ inl u ↦ u.1 | inr u ↦ absurd (u.0 e) ]

off_set : {A : Type 0} (xs : List A) (i : ℕ) (x : A) (d : ℕ) (y : A) → slice_get (slice_set xs i x) d ≡ Some y → d ≢ i → slice_get xs d ≡ Some y
off_set xs i x d y h n = elim (get_set xs i x d y h) [ inl u ↦ absurd (n u.0) | inr u ↦ u.1 ]

pub map_set : {A B : Type 0} (f : A → B) (xs : List A) (i : ℕ) (x y : A) → slice_get xs i ≡ Some x → f y ≡ f x → map f (slice_set xs i y) ≡ map f xs
map_set f [] i x y h e = refl
map_set f (a ∷ xs) zero x y h e = ap (λ (z : _). z ∷ map f xs) (e ∙ ap f (sym (some_one a x h)))
map_set f (a ∷ xs) (suc i) x y h e = ap (λ zs. f a ∷ zs) (map_set f xs i x y h e)

pub map_append : {A B : Type 0} (f : A → B) (xs : List A) (y : A) → map f (xs ++ y ∷ []) ≡ map f xs ++ f y ∷ []
map_append f [] y = refl
map_append f (a ∷ xs) y = ap (λ zs. f a ∷ zs) (map_append f xs y)

pub closed_requests : {K V : Type 0} (xs : List (Entry K V Point)) → map request_of (map entry_closed xs) ≡ map request_of xs
closed_requests [] = refl
closed_requests (a ∷ xs) = ap (λ zs. a.request ∷ zs) (closed_requests xs)

-- each entry has the same request
same_requests : {K V : Type 0} (xs ys : List (Entry K V Point)) → length ys ≡ length xs → ((n : ℕ) (x y : Entry K V Point) → slice_get xs n ≡ Some x → slice_get ys n ≡ Some y → y.request ≡ x.request)
    → map request_of ys ≡ map request_of xs
same_requests [] [] long each = refl
same_requests [] (y ∷ ys) long each = absurd (omega arith)
same_requests (x ∷ xs) [] long each = absurd (omega arith)
same_requests {K} (x ∷ xs) (y ∷ ys) long each =
    ap (λ (z : Request K). z ∷ map request_of ys) (each zero x y refl refl) ∙ ap (λ zs. x.request ∷ zs) (same_requests xs ys (omega arith) (λ n a b h g. each (suc n) a b h g))

-- a turn and a withdrawal leave the request as it is
turned_request : {K V : Type 0} (l : Ledger K V Point (Listed K V Point)) (c n : ℕ) (is_open : Bool) (x y : Entry K V Point) → TurnsEntry l c n is_open x y → y.request ≡ x.request
turned_request {K} {V} l c n is_open x y (inl (run, started, out, is, e)) = ap (λ (z : Entry K V Point). z.request) e
turned_request {K} {V} l c n is_open x y (inr w) = ap (λ (z : Entry K V Point). z.request) w.1

withdrawn_request : {K V : Type 0} (l : Ledger K V Point (Listed K V Point)) (c : ℕ) (label : Label) (n : ℕ) (x y : Entry K V Point) → WithdrawsEntry l c label n x y → y.request ≡ x.request
withdrawn_request {K} {V} l c label n x y (inl w) = ap (λ (z : Entry K V Point). z.request) w.1
withdrawn_request {K} {V} l c label n x y (inr w) = ap (λ (z : Entry K V Point). z.request) w.1

-- the client is open as before, has the same requests, and of its outbox the same was taken; a
-- closed one's is as it was
pub record Alike {K V : Type 0} (client other : Client K V Point (Listed K V Point)) : Type 0 where
  pub accepted_same : accepted_of other ≡ accepted_of client
  pub open_same : other.is_open ≡ client.is_open
  pub taken_same : taken_front other.outbox ≡ taken_front client.outbox
  pub shut_same : client.is_open ≡ false → other.outbox.replies ≡ client.outbox.replies

seated_alike : {K V : Type 0} (client other : Client K V Point (Listed K V Point)) (tk : List (ReplyView K V Point)) (seat : SeatView K V) → Alike client other → Seated client tk seat → Seated other tk seat
seated_alike client other tk seat a s = record {
  accepted_so = s.accepted_so ∙ sym a.accepted_same;
  open_so = λ e. let w = s.open_so (sym a.open_same ∙ e) in (w.0, w.1 ∙ sym a.taken_same);
  shut_so = λ e. let shut = sym a.open_same ∙ e in let w = s.shut_so shut in (w.0, w.1, w.2, w.3 ∙ sym (a.shut_same shut));
}

module _ {K V : Type 0} (clients : List (Client K V Point (Listed K V Point))) (taken : List (List (ReplyView K V Point))) (seats : List (SeatView K V)) (c : ℕ) where
  -- what is there of a client
  pub seated_at : (client : Client K V Point (Listed K V Point)) → Aligned clients taken seats → slice_get clients c ≡ Some client
      → (tk : List (ReplyView K V Point)) × (seat : SeatView K V) × (slice_get taken c ≡ Some tk) × (slice_get seats c ≡ Some seat) × Seated client tk seat
  seated_at client a here =
      let f : c < length clients = get_within clients c client here in
      let b : length taken ≡ length clients = a.counted in
      let p : length seats ≡ length clients = a.places in
      let tk = get_there taken c (omega arith) in
      let seat = get_there seats c (omega arith) in
      (tk.0, seat.0, tk.1, seat.1, a.each c client tk.0 seat.0 here tk.1 seat.1)

  -- a client, what it has taken and its seat are others
  pub aligned_all : (other : Client K V Point (Listed K V Point)) (tk : List (ReplyView K V Point)) (seat : SeatView K V) → Aligned clients taken seats → Seated other tk seat
      → Aligned (slice_set clients c other) (slice_set taken c tk) (slice_set seats c seat)
  aligned_all other tk seat a s = record {
    counted = set_long taken c tk ∙ a.counted ∙ sym (set_long clients c other);
    places = set_long seats c seat ∙ a.places ∙ sym (set_long clients c other);
    each = λ d found t place h i j. elim (get_set clients c other d found h) [
      | inl w ↦
          subst (λ (x : Client K V Point (Listed K V Point)). Seated x t place) (sym w.1)
          (subst (λ (x : List (ReplyView K V Point)). Seated other x place) (sym (at_set taken c tk d t i w.0))
          (subst (λ (x : SeatView K V). Seated other tk x) (sym (at_set seats c seat d place j w.0)) s))
      | inr w ↦ a.each d found t place w.1 (off_set taken c tk d t i w.0) (off_set seats c seat d place j w.0)
    ];
  }

  pub aligned_set : (client other : Client K V Point (Listed K V Point)) → Aligned clients taken seats → slice_get clients c ≡ Some client → Alike client other → Aligned (slice_set clients c other) taken seats
  aligned_set client other a here alike =
      let w = seated_at client a here in
      subst (λ (ts : List (List (ReplyView K V Point))). Aligned (slice_set clients c other) ts seats) (set_back taken c w.0 w.2)
      (subst (λ (xs : List (SeatView K V)). Aligned (slice_set clients c other) (slice_set taken c w.0) xs) (set_back seats c w.1 w.3)
      (aligned_all other w.0 w.1 a (seated_alike client other w.0 w.1 alike w.4)))

-- the client with the same outbox
pub alike_same : {K V : Type 0} (client other : Client K V Point (Listed K V Point)) → accepted_of other ≡ accepted_of client → other.is_open ≡ client.is_open → other.outbox ≡ client.outbox → Alike client other
alike_same {K} {V} client other g e f = record {
  accepted_same = g;
  open_same = e;
  taken_same = ap (λ (o : Listed K V Point). taken_front o) f;
  shut_same = λ _. ap (λ (o : Listed K V Point). o.replies) f;
}

-- a request in another place
alike_entry : {K V : Type 0} (client : Client K V Point (Listed K V Point)) (n : ℕ) (entry other : Entry K V Point) → slice_get client.entries n ≡ Some entry → other.request ≡ entry.request → Alike client (with_entry client n other)
alike_entry client n entry other here e = alike_same client (with_entry client n other) (map_set request_of client.entries n entry other here e) refl refl

module _ {K V : Type 0} (taken : List (List (ReplyView K V Point))) (seats : List (SeatView K V)) where
  -- each client is another that is alike
  aligned_each : (clients others : List (Client K V Point (Listed K V Point))) → length others ≡ length clients
      → ((c : ℕ) (x y : Client K V Point (Listed K V Point)) → slice_get clients c ≡ Some x → slice_get others c ≡ Some y → Alike x y) → Aligned clients taken seats → Aligned others taken seats
  aligned_each clients others long alike a = record {
    counted = a.counted ∙ sym long;
    places = a.places ∙ sym long;
    each = λ c y tk seat h i j.
        let lt : c < length others = get_within others c y h in
        let same : length others ≡ length clients = long in
        let there = get_there clients c (omega arith) in
        seated_alike there.0 y tk seat (alike c there.0 y there.1 h) (a.each c there.0 tk seat there.1 i j);
  }

  aligned_along : (l m : Ledger K V Point (Listed K V Point)) → m ≡ l → Aligned l.clients taken seats → Aligned m.clients taken seats
  aligned_along l m e a = subst (λ (x : Ledger K V Point (Listed K V Point)). Aligned x.clients taken seats) (sym e) a

  -- a request of a client is in another place
  aligned_entry : (l m : Ledger K V Point (Listed K V Point)) (c : ℕ) (client : Client K V Point (Listed K V Point)) (n : ℕ) (entry other : Entry K V Point) → Aligned l.clients taken seats → slice_get l.clients c ≡ Some client
      → slice_get client.entries n ≡ Some entry → other.request ≡ entry.request → m.clients ≡ slice_set l.clients c (with_entry client n other) → Aligned m.clients taken seats
  aligned_entry l m c client n entry other a here at e set =
      subst (λ (xs : List (Client K V Point (Listed K V Point))). Aligned xs taken seats) (sym set)
      (aligned_set l.clients taken seats c client _ a here (alike_entry client n entry other at e))

  clients_of : (l m : Ledger K V Point (Listed K V Point)) → m ≡ l → m.clients ≡ l.clients
  clients_of l m e = ap (λ (x : Ledger K V Point (Listed K V Point)). x.clients) e

  pub aligned_refused : (c : ℕ) (request : Request K) (refused : AcceptRefused K) (l m : Ledger K V Point (Listed K V Point)) → Accepts replies_of c request (Err refused) l m → Aligned l.clients taken seats → Aligned m.clients taken seats
  aligned_refused c request refused l m s a = aligned_along l m s.2 a

  pub aligned_accepts : (c : ℕ) (request : Request K) (n : ℕ) (l m : Ledger K V Point (Listed K V Point)) (seat : SeatView K V) → slice_get seats c ≡ Some seat → Accepts replies_of c request (Ok n) l m → Aligned l.clients taken seats
      → Aligned m.clients taken (slice_set seats c (with_request seat request))
  aligned_accepts c request n l m seat there s a =
      let client = s.0 in
      let w = seated_at l.clients taken seats c client a s.1.here in
      let mine : w.1 ≡ seat = some_one w.1 seat (sym w.3 ∙ there) in
      let before : Seated client w.0 seat = subst (λ (x : SeatView K V). Seated client w.0 x) mine w.4 in
      let new = new_entry c n request l.inputs.revision in
      let other = with_new client new in
      subst (λ (xs : List (Client K V Point (Listed K V Point))). Aligned xs taken (slice_set seats c (with_request seat request))) (sym (clients_of _ m s.4))
      (subst (λ (ts : List (List (ReplyView K V Point))). Aligned (slice_set l.clients c other) ts (slice_set seats c (with_request seat request))) (set_back taken c w.0 w.2)
      (aligned_all l.clients taken seats c other w.0 (with_request seat request) a (record {
        accepted_so = ap (λ (xs : List (Request K)). xs ++ request ∷ []) before.accepted_so ∙ sym (map_append request_of client.entries new);
        open_so = before.open_so;
        shut_so = before.shut_so;
      })))

  -- a turn moves requests alone
  aligned_turns : (l m : Ledger K V Point (Listed K V Point)) → Turns l m → Aligned l.clients taken seats → Aligned m.clients taken seats
  aligned_turns l m t a =
      aligned_each l.clients m.clients t.long
      (λ c x y h g.
      let w = t.each c x y h g in
      alike_same x y (same_requests x.entries y.entries w.long (λ n e f i j. turned_request l c n x.is_open e f (w.each n e f i j))) w.is_open w.outbox)
      a

  aligned_turns_if : (test : Bool) (l m : Ledger K V Point (Listed K V Point)) → TurnsIf test l m → Aligned l.clients taken seats → Aligned m.clients taken seats
  aligned_turns_if true l m t a = aligned_turns l m t a
  aligned_turns_if false l m e a = aligned_along l m e a

  pub aligned_edits : (c : ℕ) (change : ChangeView) (answer : Result ℕ EditRefused) (l m : Ledger K V Point (Listed K V Point)) → Edits c change answer l m → Aligned l.clients taken seats → Aligned m.clients taken seats
  aligned_edits c change (Ok revision) l m s a = aligned_turns_if (is_turn revision) (edited l change) m s.4 a
  aligned_edits c change (Err refused) l m s a = aligned_along l m s.2 a

  pub aligned_starts : (answer : Option ℕ) (l m : Ledger K V Point (Listed K V Point)) → Starts answer l m → Aligned l.clients taken seats → Aligned m.clients taken seats
  aligned_starts (Some run) l m s a = aligned_entry l m s.0 s.1 s.2 s.3 _ a s.4.is_entry.client_here s.4.is_entry.here refl (clients_of _ m s.6)
  aligned_starts None l m s a = aligned_along l m s.1 a

  pub aligned_looks : {R P : Type 0} (means : Point → Point → K → Answer K V → Type 0) (rules : R) (run : ℕ) (answer : Result (Move (WorkView R K P V)) LookFault) (l m : Ledger K V Point (Listed K V Point)) → LooksFor means rules run answer l m → Aligned l.clients taken seats → Aligned m.clients taken seats
  aligned_looks means rules run (Ok (Carry work)) l m s a = let e = s.1.runs.is_entry in aligned_entry l m s.0.c s.0.client s.0.n s.0.entry _ a e.client_here e.here refl (clients_of _ m s.3)
  aligned_looks means rules run (Ok (Blocked other)) l m s a = aligned_along l m s.4 a
  aligned_looks means rules run (Ok MoveStepped) l m s a = aligned_along l m s.2 a
  aligned_looks means rules run (Ok MoveAnswered) l m s a = let e = s.1.runs.is_entry in aligned_entry l m s.0.c s.0.client s.0.n s.0.entry _ a e.client_here e.here refl (clients_of _ m s.2.3)
  aligned_looks means rules run (Ok MoveStopped) l m s a = let e = s.1.is_entry in aligned_entry l m s.0.c s.0.client s.0.n s.0.entry _ a e.client_here e.here refl (clients_of _ m s.3)
  aligned_looks means rules run (Err NoRun) l m s a = aligned_along l m s.1 a
  aligned_looks means rules run (Err LookMemory) l m s a = aligned_along l m s.2 a

  pub aligned_gives : {R P : Type 0} (run : ℕ) (done : DoneView R K P V) (move : Move (WorkView R K P V)) (l m : Ledger K V Point (Listed K V Point)) → Gives run done (Ok move) l m → Aligned l.clients taken seats → Aligned m.clients taken seats
  aligned_gives run done (Carry work) l m s a = absurd s
  aligned_gives run done (Blocked other) l m s a = absurd s
  aligned_gives run done MoveStepped l m s a = let e = s.1.is_entry in aligned_entry l m s.0.c s.0.client s.0.n s.0.entry _ a e.client_here e.here refl (clients_of _ m s.4)
  aligned_gives run done MoveAnswered l m s a = absurd s
  aligned_gives run done MoveStopped l m s a = let e = s.1.is_entry in aligned_entry l m s.0.c s.0.client s.0.n s.0.entry _ a e.client_here e.here refl (clients_of _ m s.4)

  pub aligned_starves : (run : ℕ) (answer : Bool) (l m : Ledger K V Point (Listed K V Point)) → Starves run answer l m → Aligned l.clients taken seats → Aligned m.clients taken seats
  aligned_starves run true l m s a = let e = s.1.is_entry in aligned_entry l m s.0.c s.0.client s.0.n s.0.entry _ a e.client_here e.here refl (clients_of _ m s.2)
  aligned_starves run false l m s a = aligned_along l m s.1 a

  pub aligned_withdraws : (c : ℕ) (label : Label) (answer : Result Bool WithdrawFault) (l m : Ledger K V Point (Listed K V Point)) → Withdraws c label answer l m → Aligned l.clients taken seats → Aligned m.clients taken seats
  aligned_withdraws c label (Ok some) l m s a =
      let client = s.0 in
      let after = s.3.0 in
      aligned_along _ m s.3.2
      (aligned_set l.clients taken seats c client (with_entries client after) a s.1.here
      (alike_same client (with_entries client after) (same_requests client.entries after s.3.1.long (λ n x y h g. withdrawn_request l c label n x y (s.3.1.each n x y h g))) refl refl))
  aligned_withdraws c label (Err fault) l m s a = aligned_along l m s.1 a

  pub aligned_releases : (c : ℕ) (answer : Released) (l m : Ledger K V Point (Listed K V Point)) → Releases replies_of taken_front HasNoRoom HasLostEnd c answer l m → Aligned l.clients taken seats → Aligned m.clients taken seats
  aligned_releases c (ReleasedPut n) l m s a =
      let client = s.0.client in
      let at : slice_get client.entries n ≡ Some s.0.entry = ap (slice_get client.entries) s.2 ∙ s.1.ready.here in
      aligned_along _ m s.3.3
      (aligned_set l.clients taken seats c client _ a s.1.here
      (record {
        accepted_same = map_set request_of client.entries n s.0.entry _ at refl;
        open_same = refl;
        taken_same = s.3.2;
        shut_same = λ e. absurd (not_both client.is_open s.1.ready.open_yet e);
      }))
  aligned_releases c ReleasedFull l m s a =
      aligned_along _ m s.2.3
      (aligned_set l.clients taken seats c s.0.client _ a s.1.here
      (record { accepted_same = refl; open_same = refl; taken_same = s.2.1.takes_same; shut_same = λ _. s.2.1.puts_same }))
  aligned_releases c ReleasedGone l m s a = absurd s.2.2
  aligned_releases c ReleasedNothing l m s a = aligned_along l m s.1 a

  -- a client is closed, and its outbox is kept
  pub aligned_closes : (c : ℕ) (o : Listed K V Point) (l m : Ledger K V Point (Listed K V Point)) (seat : SeatView K V) → slice_get seats c ≡ Some seat → Closes c (Some o) l m → Aligned l.clients taken seats
      → Aligned m.clients taken (slice_set seats c (with_left seat o))
  aligned_closes c o l m seat there s a =
      let client = s.0 in
      let w = seated_at l.clients taken seats c client a s.1.here in
      let mine : w.1 ≡ seat = some_one w.1 seat (sym w.3 ∙ there) in
      let before : Seated client w.0 seat = subst (λ (x : SeatView K V). Seated client w.0 x) mine w.4 in
      subst (λ (xs : List (Client K V Point (Listed K V Point))). Aligned xs taken (slice_set seats c (with_left seat o))) (sym (clients_of _ m s.3))
      (subst (λ (ts : List (List (ReplyView K V Point))). Aligned (slice_set l.clients c (closed client)) ts (slice_set seats c (with_left seat o))) (set_back taken c w.0 w.2)
      (aligned_all l.clients taken seats c (closed client) w.0 (with_left seat o) a (record {
        accepted_so = before.accepted_so ∙ sym (closed_requests client.entries);
        open_so = λ e. absurd (not_both false e refl);
        shut_so = λ _. (o, refl, (before.open_so s.1.open_yet).1 ∙ ap (λ (y : Listed K V Point). taken_front y) (sym s.2), ap (λ (y : Listed K V Point). y.replies) s.2);
      })))

  -- an open client takes the next reply
  pub aligned_takes : (c : ℕ) (next : Listed K V Point) (client : Client K V Point (Listed K V Point)) (clients : List (Client K V Point (Listed K V Point)))
      → slice_get clients c ≡ Some client → client.is_open ≡ true → Aligned clients taken seats
      → Aligned (slice_set clients c (with_outbox client next client.refused)) (slice_set taken c (taken_front next)) seats
  aligned_takes c next client clients here open_yet a =
      let w = seated_at clients taken seats c client a here in
      subst (λ (xs : List (SeatView K V)). Aligned (slice_set clients c (with_outbox client next client.refused)) (slice_set taken c (taken_front next)) xs) (set_back seats c w.1 w.3)
      (aligned_all clients taken seats c _ (taken_front next) w.1 a (record {
        accepted_so = w.4.accepted_so;
        open_so = λ _. ((w.4.open_so open_yet).0, refl);
        shut_so = λ e. absurd (not_both client.is_open open_yet e);
      }))

  -- a closed client takes the next reply from the outbox that it left
  pub aligned_takes_left : (c : ℕ) (next old : Listed K V Point) (seat : SeatView K V) (client : Client K V Point (Listed K V Point)) (clients : List (Client K V Point (Listed K V Point)))
      → slice_get clients c ≡ Some client → client.is_open ≡ false → slice_get seats c ≡ Some seat → seat.left ≡ Some old → next.replies ≡ old.replies → Aligned clients taken seats
      → Aligned clients (slice_set taken c (taken_front next)) (slice_set seats c (with_left seat next))
  aligned_takes_left c next old seat client clients here shut there left_here same a =
      let w = seated_at clients taken seats c client a here in
      let mine : w.1 ≡ seat = some_one w.1 seat (sym w.3 ∙ there) in
      let before : Seated client w.0 seat = subst (λ (x : SeatView K V). Seated client w.0 x) mine w.4 in
      let was = before.shut_so shut in
      let it : old ≡ was.0 = some_one old was.0 (sym left_here ∙ was.1) in
      subst (λ (xs : List (Client K V Point (Listed K V Point))). Aligned xs (slice_set taken c (taken_front next)) (slice_set seats c (with_left seat next))) (set_back clients c client here)
      (aligned_all clients taken seats c client (taken_front next) (with_left seat next) a (record {
        accepted_so = before.accepted_so;
        open_so = λ e. absurd (not_both client.is_open e shut);
        shut_so = λ _. (next, refl, refl, same ∙ ap (λ (y : Listed K V Point). y.replies) it ∙ was.3);
      }))

-- one more client is opened
pub aligned_opens : {K V : Type 0} (outbox : Listed K V Point) (c : ℕ) (taken : List (List (ReplyView K V Point))) (seats : List (SeatView K V)) (l m : Ledger K V Point (Listed K V Point)) → taken_front outbox ≡ []
    → Opens outbox (Ok c) l m → Aligned l.clients taken seats → Aligned m.clients (taken ++ [] ∷ []) (seats ++ free_seat ∷ [])
aligned_opens {K} {V} outbox c taken seats l m none s a =
    subst (λ (x : Ledger K V Point (Listed K V Point)). Aligned x.clients (taken ++ [] ∷ []) (seats ++ free_seat ∷ [])) (sym s.2)
    (record {
      counted = append_long taken [] ∙ ap (λ (i : ℕ). i + 1) a.counted ∙ sym (append_long l.clients (opened outbox));
      places = append_long seats free_seat ∙ ap (λ (i : ℕ). i + 1) a.places ∙ sym (append_long l.clients (opened outbox));
      each = λ d found tk seat h i j. elim (get_append l.clients (opened outbox) d found h) [
        | inl w ↦
            let e : d ≡ length l.clients = w.0 in
            let b : length taken ≡ length l.clients = a.counted in
            let p : length seats ≡ length l.clients = a.places in
            let new : tk ≡ [] = elim (get_append taken [] d tk i) [
              | inl u ↦ u.1
              | inr u ↦ let f : d < length taken = get_within taken d tk u in absurd (omega arith)
            ] in
            let free : seat ≡ free_seat = elim (get_append seats free_seat d seat j) [
              | inl u ↦ u.1
              | inr u ↦ let f : d < length seats = get_within seats d seat u in absurd (omega arith)
            ] in
            subst (λ (x : Client K V Point (Listed K V Point)). Seated x tk seat) (sym w.1)
            (subst (λ (x : SeatView K V). Seated (opened outbox) tk x) (sym free)
            (record { accepted_so = refl; open_so = λ _. (refl, new ∙ sym none); shut_so = λ e. absurd (not_both true refl e) }))
        | inr w ↦
            let b : length taken ≡ length l.clients = a.counted in
            let p : length seats ≡ length l.clients = a.places in
            let f : d < length l.clients = get_within l.clients d found w in
            let t : slice_get taken d ≡ Some tk = elim (get_append taken [] d tk i) [ inl u ↦ let e : d ≡ length taken = u.0 in absurd (omega arith) | inr u ↦ u ] in
            let q : slice_get seats d ≡ Some seat = elim (get_append seats free_seat d seat j) [ inl u ↦ let e : d ≡ length seats = u.0 in absurd (omega arith) | inr u ↦ u ] in
            a.each d found tk seat w t q
      ];
    })
