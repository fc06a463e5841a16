-- All events, the closes at the end, and the lists. A middle term: only proofs need it.
use Rattle.std.proofs.Common.{◌≡◌, ℕ, suc, ◌+◌, ◌<◌, ◌≤◌, false, List, [], ◌∷◌, map, length, drop, get_or, slice_get, Option, Some, None, refl, sym, ◌∙◌, ap, subst, inl, inr, arith, add-one, drop-cons}
use Rattle.std.proofs.lemmas.List.{drop_all}
use Rattle.std.specs.Ordering.{nat_cmp}
use Rattle.std.specs.Map.{lookup}
use Rattle.std.specs.BTreeMap.{BTreeMap, IsEmpty, is_at}
use Rattle.std.specs.declared.cmp.Ordering.{Ordering}
use Rattle.pq_rules.specs.Turns.{Machine}
use Rattle.pq_core.specs.Points.{Point}
use Rattle.pq_core.specs.Replies.{ReplyView}
use Rattle.pq_core.specs.Works.{DoneView}
use Rattle.pq_core.specs.Outboxes.{Listed}
use Rattle.pq_core.specs.Ledger.{Ledger, Client, closed}
use Rattle.pq_core.specs.Moves.{Closes}
use Rattle.pq_core.proofs.Lists.{some_one, get_within, get_there, get_set, map_long, same_or_other}
use Rattle.pq_play.specs.World.{World}
use Rattle.pq_play.specs.Steps.{LeadsTo}
use Rattle.pq_core.specs.declared.values.request.Request.{Request}
use Rattle.pq_play.specs.Results.{PlayedView, accepted_of, played_of}
use Rattle.pq_play.specs.aux.Seats.{SeatView, left_taken, seat_taken, seat_accepted, Seated}
use Rattle.pq_play.specs.aux.Running.{done_of}
use Rattle.pq_play.specs.aux.Playing.{Stood, Carries, Playing, Led, GathersAll, Closing}
use Rattle.pq_play.proofs.Aligning.{map_set, closed_requests, seated_at}
use Rattle.pq_play.proofs.Leading.{true_or_false, playing_on, stood_after, closed_steps}
use Rattle.pq_play.specs.declared.event.Event.{Event}
use Rattle.pq_play.specs.declared.event.Event.TheVariants.{Close}

map_same : {A B C : Type 0} (f : A → C) (g : B → C) (xs : List A) (ys : List B) → length xs ≡ length ys → ((i : ℕ) (x : A) (y : B) → slice_get xs i ≡ Some x → slice_get ys i ≡ Some y → f x ≡ g y) → map f xs ≡ map g ys
map_same f g [] [] e h = refl
map_same f g [] (y ∷ ys) e h = absurd (omega arith)
map_same f g (x ∷ xs) [] e h = absurd (omega arith)
map_same f g (x ∷ xs) (y ∷ ys) e h =
    ap (λ z. z ∷ map f xs) (h 0 x y refl refl) ∙ ap (λ zs. g y ∷ zs) (map_same f g xs ys (omega arith) (λ i a b p q. h (suc i) a b p q))

map_id : {A : Type 0} (xs : List A) → map (λ x. x) xs ≡ xs
map_id [] = refl
map_id (x ∷ xs) = ap (λ zs. x ∷ zs) (map_id xs)

module _ {R K P V : Type 0} (room : ℕ) (order : K → K → Ordering) (machine : Machine K P V) (rules : R) where
  -- one more event of a list
  pub playing_next : (events : List (Event K)) (i : ℕ) (event : Event K) (start : World K V) (own after_own : R) (Stands After : Ledger K V Point (Listed K V Point) → Type 0) (seats after_seats : List (SeatView K V)) (dones after_dones : ℕ → Option (DoneView R K P V))
      → i < length events → event ≡ get_or events i event
      → Playing room order machine rules events (drop i events) start own Stands seats dones → Carries room order machine rules event own Stands seats dones after_own After after_seats after_dones
      → Playing room order machine rules events (drop (i + 1) events) start after_own After after_seats after_dones
  playing_next events i event start own after_own Stands After seats after_seats dones after_dones lt is p f =
      let cut : drop i events ≡ event ∷ drop (i + 1) events =
      drop-cons events i event lt ∙ ap (λ n. get_or events i event ∷ drop n events) (sym (add-one i)) ∙ ap (λ (x : Event K). x ∷ drop (i + 1) events) (sym is) in
      playing_on room order machine rules events event (drop (i + 1) events) start own after_own Stands After seats after_seats dones after_dones
      (subst (λ (xs : List (Event K)). Playing room order machine rules events xs start own Stands seats dones) cut p) f

  -- no event is left
  pub led_all : (events : List (Event K)) (i : ℕ) (start : World K V) (own : R) (Stands : Ledger K V Point (Listed K V Point) → Type 0) (seats : List (SeatView K V)) (dones : ℕ → Option (DoneView R K P V)) → length events ≤ i
      → Playing room order machine rules events (drop i events) start own Stands seats dones → Led room order machine rules events start own Stands seats dones
  led_all events i start own Stands seats dones past p = record {
    v = p.w;
    led = p.goes_on p.w (subst (λ (xs : List (Event K)). LeadsTo room order machine rules xs p.w p.w) (sym (drop_all i events past)) refl);
    stood = p.stood;
  }

  closes_accepted : (c : ℕ) (answer : Option (Listed K V Point)) (l m : Ledger K V Point (Listed K V Point)) → Closes c answer l m → map accepted_of m.clients ≡ map accepted_of l.clients
  closes_accepted c (Some o) l m s =
      ap (λ (x : Ledger K V Point (Listed K V Point)). map accepted_of x.clients) s.3 ∙ map_set accepted_of l.clients c s.0 (closed s.0) s.1.here (closed_requests s.0.entries)
  closes_accepted c None l m s = ap (λ (x : Ledger K V Point (Listed K V Point)). map accepted_of x.clients) s.1

  closes_shut : (c : ℕ) (answer : Option (Listed K V Point)) (l m : Ledger K V Point (Listed K V Point)) (client : Client K V Point (Listed K V Point)) → Closes c answer l m → slice_get m.clients c ≡ Some client → client.is_open ≡ false
  closes_shut c (Some o) l m client s h =
      elim (get_set l.clients c (closed s.0) c client (ap (λ (x : Ledger K V Point (Listed K V Point)). slice_get x.clients c) (sym s.3) ∙ h)) [
        | inl w ↦ ap (λ (x : Client K V Point (Listed K V Point)). x.is_open) w.1
        | inr w ↦ absurd (w.0 refl)
      ]
  closes_shut c None l m client s h =
      elim (true_or_false client.is_open) [
        | inl e ↦ absurd (s.0 client (record { here = ap (λ (x : Ledger K V Point (Listed K V Point)). slice_get x.clients c) (sym s.1) ∙ h; open_yet = e }))
        | inr e ↦ e
      ]

  as_long : (xs ys : List (Client K V Point (Listed K V Point))) → map accepted_of xs ≡ map accepted_of ys → length xs ≡ length ys
  as_long xs ys e = sym (map_long accepted_of xs) ∙ ap length e ∙ map_long accepted_of ys

  pub closing_start : (w : World K V) (own : R) (Stands : Ledger K V Point (Listed K V Point) → Type 0) (seats : List (SeatView K V)) (dones : ℕ → Option (DoneView R K P V)) → Stood order machine rules own Stands w seats dones
      → Closing order machine rules w own Stands seats dones 0
  closing_start w own Stands seats dones s = record {
    v = w;
    stood = s;
    taken_same = refl;
    accepted_same = refl;
    shut = λ c client below h. absurd (omega arith);
  }

  -- one more client is closed
  pub closing_next : (w : World K V) (n id : ℕ) (own after_own : R) (Stands After : Ledger K V Point (Listed K V Point) → Type 0) (seats after_seats : List (SeatView K V)) (dones after_dones : ℕ → Option (DoneView R K P V))
      → id ≡ n → Closing order machine rules w own Stands seats dones n → Carries room order machine rules (Close id) own Stands seats dones after_own After after_seats after_dones
      → Closing order machine rules w after_own After after_seats after_dones (n + 1)
  closing_next w n id own after_own Stands After seats after_seats dones after_dones e p g =
      let f = subst (λ (x : ℕ). Carries room order machine rules (Close x) own Stands seats dones after_own After after_seats after_dones) e g in
      let d = f p.v p.stood in
      let s = d.steps in
      let same : map accepted_of d.v.ledger.clients ≡ map accepted_of p.v.ledger.clients = closes_accepted n s.0 p.v.ledger d.v.ledger s.1 in
      record {
        v = d.v;
        stood = stood_after room order machine rules (Close n) p.v own after_own Stands After seats after_seats dones after_dones p.stood d;
        taken_same = s.2 ∙ p.taken_same;
        accepted_same = same ∙ p.accepted_same;
        shut = λ c client below h. elim (same_or_other c n) [
          | inl e ↦ closes_shut n s.0 p.v.ledger d.v.ledger client s.1 (ap (slice_get d.v.ledger.clients) (sym e) ∙ h)
          | inr ne ↦
              let long : length d.v.ledger.clients ≡ length p.v.ledger.clients = as_long d.v.ledger.clients p.v.ledger.clients same in
              let within : c < length d.v.ledger.clients = get_within d.v.ledger.clients c client h in
              let was = get_there p.v.ledger.clients c (omega arith) in
              let later = (closed_steps room order machine rules (Close n) p.v d.v s c (record { client = was.0; here = was.1; closed = p.shut c was.0 (omega arith) was.1 })).0 in
              ap (λ (x : Client K V Point (Listed K V Point)). x.is_open) (some_one client later.client (sym h ∙ later.here)) ∙ later.closed
        ];
      }

  -- all clients are closed
  pub gathers : (w : World K V) (n : ℕ) (own : R) (Stands : Ledger K V Point (Listed K V Point) → Type 0) (seats : List (SeatView K V)) (dones : ℕ → Option (DoneView R K P V)) → length w.ledger.clients ≤ n
      → Closing order machine rules w own Stands seats dones n → GathersAll w seats
  gathers w n own Stands seats dones past p =
      let clients = p.v.ledger.clients in
      let a = p.stood.fits.aligned in
      let long : length clients ≡ length w.ledger.clients = as_long clients w.ledger.clients p.accepted_same in
      record {
        accepted_same = map_same seat_accepted accepted_of seats clients a.places (λ i seat client h g.
            let u = seated_at clients p.v.taken seats i client a g in
            ap (λ (x : SeatView K V). x.accepted) (some_one seat u.1 (sym h ∙ u.3)) ∙ u.4.accepted_so) ∙ p.accepted_same;
        taken_same =
            map_same seat_taken (λ (x : List (ReplyView K V Point)). x) seats p.v.taken (a.places ∙ sym a.counted) (λ i seat tk h g.
            let b : length p.v.taken ≡ length clients = a.counted in
            let within : i < length p.v.taken = get_within p.v.taken i tk g in
            let client = get_there clients i (omega arith) in
            let seated : Seated client.0 tk seat = a.each i client.0 tk seat client.1 g h in
            let left = seated.shut_so (p.shut i client.0 (omega arith) client.1) in
            ap (λ (x : Option (Listed K V Point)). left_taken x) left.1 ∙ sym left.2) ∙ map_id p.v.taken ∙ p.taken_same;
      }

pub played_as : {K V : Type 0} (w : World K V) (p : PlayedView K V) (seats : List (SeatView K V)) (revision : ℕ) → p ≡ record { accepted = map seat_accepted seats; taken = map seat_taken seats; revision = revision }
    → GathersAll w seats → revision ≡ w.ledger.inputs.revision → p ≡ played_of w
played_as {K} {V} w p seats revision e g same =
    e
    ∙ ap (λ (x : List (List (Request K))). record { accepted = x; taken = map seat_taken seats; revision = revision }) g.accepted_same
    ∙ ap (λ (x : List (List (ReplyView K V Point))). record { accepted = map accepted_of w.ledger.clients; taken = x; revision = revision }) g.taken_same
    ∙ ap (λ (x : ℕ). record { accepted = map accepted_of w.ledger.clients; taken = w.taken; revision = x }) same

pub none_of : {D : Type 0} (m : BTreeMap ℕ D) → IsEmpty m → (r : ℕ) → done_of m r ≡ None
none_of {D} m e r = ap (λ (es : List (ℕ × D)). lookup (is_at (nat_cmp r)) es) e
