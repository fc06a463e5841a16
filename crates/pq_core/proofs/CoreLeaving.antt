-- Replies that leave a core, clients that close, and rest.
use Rattle.std.proofs.Common.{◌≡◌, ◌≢◌, ℕ, zero, suc, ◌+◌, ◌-◌, ◌≤◌, ◌==◌, if◌then◌else◌, Bool, true, false, List, [], ◌∷◌, ◌++◌, length, slice_get, slice_set, Option, Some, None, refl, sym, ◌∙◌, ap, subst, inl, inr, arith, not}
use Rattle.std.specs.Prelude.{Ok, Err, Result}
use Rattle.std.specs.declared.cmp.Ordering.{Ordering}
use Rattle.pq_inputs.specs.Sources.{Table}
use Rattle.pq_rules.specs.Turns.{Machine}
use Rattle.pq_core.proofs.Lists.{some_one, none_some, get_map, get_within, get_there, set_same, set_long, same_or_other}
use Rattle.pq_core.proofs.Writes.{one_entry, set_back}
use Rattle.pq_core.proofs.Changing.{if_at, if_other}
use Rattle.pq_core.proofs.Told.{told_here, told_set, told_open, told_ready, ready_told, none_told, told_put, shuts_told, none_waits_told, told_none_waits, none_runs_told, told_none_runs}
use Rattle.pq_core.proofs.PlaceMoves.{ready_else, after_else, ready_move, lanes_write, lanes_closed, stands_outbox, stands_put, next_first, first_next}
use Rattle.pq_core.proofs.CorePassing.{Lands, none_made, landed}
use Rattle.pq_core.proofs.CoreServing.{unmoved_so}
use Rattle.pq_core.specs.Points.{Point}
use Rattle.pq_core.specs.Replies.{ReplyView}
use Rattle.pq_core.specs.Outboxes.{TakesNext}
use Rattle.pq_core.specs.Ledger.{Place, Waiting, Running, Ready, Put, Dropped, Entry, Client, Ledger, IsOpen, with_client, with_entry, with_outbox, moved_to, closed, entry_closed, place_closed, unused}
use Rattle.pq_core.specs.Moves.{NextReady, IsReady, NoneReady, Releases, Closes, TakesOut, NoneWaits, NoneRuns, IsAtRest}
use Rattle.pq_core.specs.Lanes.{ReadyView, Tray, IsNextIn, HasNext, LetsOutOf, TakesOutOf, ClosesLane, tray_with, tray_after}
use Rattle.pq_core.specs.Told.{Told, told_client, told_ledger, NoneReadyAt, IsReadyAt, TellsOne, Tells, Shuts}
use Rattle.pq_core.specs.Stores.{StoreView, IsMadeIn, NoneMade, Makes, Goes, MayTell, Hears}
use Rattle.pq_core.specs.Stores.{StandsFor as StoreStandsFor}
use Rattle.pq_core.specs.Cores.{core_of, StandsFor}
use Rattle.pq_core.specs.aux.Rising.{Slots, found, IsAbove}
use Rattle.pq_core.specs.aux.Places.{LaneStands, LanesStand}
use Rattle.pq_core.specs.aux.Resting.{HasReadyLane}
use Rattle.pq_core.specs.declared.values.moves.Released.{Released}
use Rattle.pq_core.specs.declared.values.moves.Released.TheVariants.{Put as ReleasedPut, Full as ReleasedFull, Gone as ReleasedGone, Nothing as ReleasedNothing}

not_ready_closed : {K V M : Type 0} (place : Place K V M) (reply : ReplyView K V M) → place_closed place ≡ Ready reply → ⊥
not_ready_closed Waiting reply e = cc
not_ready_closed (Running run started out) reply e = cc
not_ready_closed (Ready other) reply e = cc
not_ready_closed Put reply e = cc
not_ready_closed Dropped reply e = cc

pub not_both : (t : Bool) → t ≡ false → t ≡ true → ⊥
not_both t e f = cc

pub not_true : (t : Bool) → not t ≡ true → t ≡ false
not_true true e = sym e
not_true false e = refl

pub true_not : (t : Bool) → (t ≡ true → ⊥) → not t ≡ true
true_not true f = absurd (f refl)
true_not false f = refl

pub not_full : (n : ℕ) → ReleasedFull ≡ ReleasedPut n → ⊥
not_full n e = cc

pub not_gone : (n : ℕ) → ReleasedGone ≡ ReleasedPut n → ⊥
not_gone n e = cc

pub not_nothing : (n : ℕ) → ReleasedNothing ≡ ReleasedPut n → ⊥
not_nothing n e = cc

true_false : {P : Type 0} → true ≡ false → P
true_false e = cc

module _ {K V M : Type 0} where
  -- what is acknowledged is determined
  pub tells_same : (c : ℕ) (t a b : Ledger K V M (Told K V M)) → TellsOne c t a → TellsOne c t b → a ≡ b
  tells_same c t a b (p, p_ready, a_is) (q, q_ready, b_is) =
      let client : p.client ≡ q.client = one_entry t.clients c p.client q.client p_ready.here q_ready.here in
      let entry : p.entry ≡ q.entry =
      one_entry q.client.entries (length q.client.outbox) p.entry q.entry
      (subst (λ (x : Client K V M (Told K V M)). slice_get x.entries (length x.outbox) ≡ Some p.entry) client p_ready.ready.here) q_ready.ready.here in
      let ready : Ready p.reply ≡ Ready q.reply = sym p_ready.ready.ready ∙ (ap (λ (x : Entry K V M). x.place) entry ∙ q_ready.ready.ready) in
      let reply : p.reply ≡ q.reply = same_reply p.reply q.reply ready in
      a_is ∙ (after client entry reply ∙ sym b_is)
    where
      same_reply : (x y : ReplyView K V M) → Ready x ≡ Ready y → x ≡ y
      same_reply x y e = cc

      put_of : Client K V M (Told K V M) → Entry K V M → ReplyView K V M → Ledger K V M (Told K V M)
      put_of client entry reply = with_client t c (with_outbox (with_entry client (length client.outbox) (moved_to entry Put)) (client.outbox ++ reply ∷ []) false)

      after : p.client ≡ q.client → p.entry ≡ q.entry → p.reply ≡ q.reply → put_of p.client p.entry p.reply ≡ put_of q.client q.entry q.reply
      after d e f = ap (λ x. put_of x p.entry p.reply) d ∙ (ap (λ x. put_of q.client x p.reply) e ∙ ap (λ x. put_of q.client q.entry x) f)

  pub tells_once : (c k : ℕ) (t a b : Ledger K V M (Told K V M)) → k ≡ 1 → TellsOne c t a → Tells c k t b → a ≡ b
  unfolding Tells
  tells_once c zero t a b e one h = absurd (omega arith)
  tells_once c (suc zero) t a b e one (via, first, rest) = tells_same c t a via one first ∙ sym rest
  tells_once c (suc (suc k)) t a b e one h = absurd (omega arith)

module _ {K V M O : Type 0} (puts : O → List (ReplyView K V M)) where
  -- the client of a lane
  pub lane_client : (lanes : Slots (Tray K V M O)) (l : Ledger K V M O) (c : ℕ) (tray : Tray K V M O) → LanesStand puts lanes.items l → found lanes.items c ≡ Some tray
      → (client : Client K V M O) × IsOpen l c client × LaneStands puts l c client tray
  lane_client lanes l c tray h here =
      let there = get_there l.clients c (h.within c tray here) in
      by_flag there.0 there.1 there.0.is_open refl
    where
      by_flag : (client : Client K V M O) → slice_get l.clients c ≡ Some client → (flag : Bool) → client.is_open ≡ flag → (client : Client K V M O) × IsOpen l c client × LaneStands puts l c client tray
      by_flag client at true e =
          let w = h.open_yet c client at e in
          (client, record { here = at; open_yet = e }, subst (λ (x : Tray K V M O). LaneStands puts l c client x) (some_one w.0 tray (sym w.1 ∙ here)) w.2)
      by_flag client at false e = absurd (none_some tray (sym (h.shut c client at e) ∙ here))

  pub none_open : (lanes : Slots (Tray K V M O)) (l : Ledger K V M O) (c : ℕ) → LanesStand puts lanes.items l → found lanes.items c ≡ None → (client : Client K V M O) → IsOpen l c client → ⊥
  none_open lanes l c h gone client o = let w = h.open_yet c client o.here o.open_yet in none_some w.0 (sym gone ∙ w.1)

  pub none_ready : (l : Ledger K V M O) (c : ℕ) (client : Client K V M O) (tray : Tray K V M O) → IsOpen l c client → LaneStands puts l c client tray → (HasNext tray → ⊥) → NoneReady puts l c
  none_ready l c client tray o h none next r =
      let same : next.client ≡ client = one_entry l.clients c next.client client r.here o.here in
      let at : IsReadyAt l c (length (puts client.outbox)) next.entry next.reply = record {
        client = client;
        is_entry = record { client_here = o.here; here = subst (λ (x : Client K V M O). slice_get x.entries (length (puts x.outbox)) ≡ Some next.entry) same r.ready.here };
        ready = r.ready.ready;
      } in
      let w = first_next puts l c client tray next.entry next.reply h at in
      none (client.outbox, w.0, w.1)

  -- the next reply of a lane is the next of its client
  pub next_ready : (l : Ledger K V M O) (c : ℕ) (client : Client K V M O) (tray : Tray K V M O) (outbox : O) (ready : ReadyView K V M) → IsOpen l c client → LaneStands puts l c client tray → IsNextIn tray outbox ready
      → (entry : Entry K V M) × IsReady puts l c (record { client = client; entry = entry; reply = ready.reply }) × IsReadyAt l c (length (puts client.outbox)) entry ready.reply × (outbox ≡ client.outbox)
  next_ready l c client tray outbox ready o h next =
      let w = next_first puts l c client tray outbox ready h next in
      let same : w.1.client ≡ client = one_entry l.clients c w.1.client client w.1.is_entry.client_here o.here in (
        w.0,
        record {
          here = o.here;
          ready = record {
            open_yet = o.open_yet;
            here = ap (λ (x : Client K V M O). slice_get x.entries (length (puts client.outbox))) (sym same) ∙ w.1.is_entry.here;
            ready = w.1.ready;
          };
        },
        w.1,
        w.2,
      )

  -- a store does not see what an outbox holds beside the replies put
  pub told_outbox : (l : Ledger K V M O) (c : ℕ) (client : Client K V M O) (o : O) (refused : Bool) → slice_get l.clients c ≡ Some client → puts o ≡ puts client.outbox
      → told_ledger puts (with_client l c (with_outbox client o refused)) ≡ told_ledger puts l
  told_outbox l c client o refused here same =
      told_set puts l c (with_outbox client o refused)
      ∙ (ap (λ (q : Told K V M). with_client (told_ledger puts l) c (record { entries = client.entries; outbox = q; is_open = client.is_open; refused = false })) same
      ∙ ap (λ (xs : List (Client K V M (Told K V M))). record { inputs = l.inputs; clients = xs; runs = l.runs }) (set_back (told_ledger puts l).clients c (told_client puts client) (told_here puts l c client here)))

  -- the lane of `c` alone is written
  abbrev pub WritesLane : Slots (Tray K V M O) → Slots (Tray K V M O) → ℕ → Option (Tray K V M O) → Type 0
  WritesLane lanes left c value = (k : ℕ) → found left.items k ≡ (if k == c then value else found lanes.items k)

  write_here : (lanes left : Slots (Tray K V M O)) (c : ℕ) (value : Option (Tray K V M O)) → WritesLane lanes left c value → found left.items c ≡ value
  write_here lanes left c value w = w c ∙ if_at c value (found lanes.items c)

  write_else : (lanes left : Slots (Tray K V M O)) (c : ℕ) (value : Option (Tray K V M O)) → WritesLane lanes left c value → (k : ℕ) → k ≢ c → found left.items k ≡ found lanes.items k
  write_else lanes left c value w k ne = w k ∙ if_other k c value (found lanes.items k) ne

  -- the lane is written as it was
  pub same_lanes : (lanes left : Slots (Tray K V M O)) (c : ℕ) (tray : Tray K V M O) → found lanes.items c ≡ Some tray → WritesLane lanes left c (Some tray) → (k : ℕ) → found left.items k ≡ found lanes.items k
  same_lanes lanes left c tray here set k = elim (same_or_other k c) [
    | inl w ↦ ap (λ (x : ℕ). found left.items x) w ∙ (write_here lanes left c (Some tray) set ∙ (sym here ∙ ap (λ (x : ℕ). found lanes.items x) (sym w)))
    | inr w ↦ write_else lanes left c (Some tray) set k w
  ]

  outbox_lanes : (lanes left : Slots (Tray K V M O)) (l : Ledger K V M O) (c : ℕ) (client : Client K V M O) (tray : Tray K V M O) (o : O) (refused : Bool) → LanesStand puts lanes.items l → IsOpen l c client → LaneStands puts l c client tray
      → WritesLane lanes left c (Some (tray_with tray o refused)) → puts o ≡ puts client.outbox → LanesStand puts left.items (with_client l c (with_outbox client o refused))
  outbox_lanes lanes left l c client tray o refused h is_open stands set same =
      lanes_write puts lanes.items left.items l (with_client l c (with_outbox client o refused)) c client (with_outbox client o refused) h is_open.here refl (write_else lanes left c _ set)
      (λ e. (tray_with tray o refused, write_here lanes left c _ set, stands_outbox puts l (with_client l c (with_outbox client o refused)) c client tray o refused stands is_open.here refl same))
      (λ e. true_false (sym is_open.open_yet ∙ e))

  long_with : (l : Ledger K V M O) (c : ℕ) (client : Client K V M O) → length l.clients ≤ length (with_client l c client).clients
  long_with l c client = let e : length (slice_set l.clients c client) ≡ length l.clients = set_long l.clients c client in omega arith

  closed_unready : (l m : Ledger K V M O) (c : ℕ) (client : Client K V M O) → slice_get l.clients c ≡ Some client → m.clients ≡ slice_set l.clients c (closed client) → (k i : ℕ) (entry : Entry K V M) (reply : ReplyView K V M) → IsReadyAt m k i entry reply → NoneReadyAt l k i → ⊥
  closed_unready l m c client here set k i entry reply r w = elim (same_or_other k c) [
    | inl e ↦
        let after : slice_get m.clients c ≡ Some (closed client) = ap (λ (xs : List (Client K V M O)). slice_get xs c) set ∙ set_same l.clients c (closed client) (get_within l.clients c client here) in
        let is : r.client ≡ closed client = one_entry m.clients c r.client (closed client) (ap (slice_get m.clients) (sym e) ∙ r.is_entry.client_here) after in
        let x = get_map entry_closed client.entries i entry (ap (λ (y : Client K V M O). slice_get y.entries i) (sym is) ∙ r.is_entry.here) in
        not_ready_closed x.0.place reply (ap (λ (y : Entry K V M). y.place) (sym x.2) ∙ r.ready)
    | inr ne ↦ w entry reply (ready_else m l k i entry reply (sym (after_else l m c (closed client) k set ne)) r)
  ]

  pub rest_idle : (l : Ledger K V M O) → IsAtRest puts l → NoneWaits (told_ledger puts l) × ((run : ℕ) → NoneRuns (told_ledger puts l) run)
  rest_idle l rest = (told_none_waits puts l rest.waiting, λ run. told_none_runs puts l run (rest.running run))

module _ {R K P V M O : Type 0} (order : K → K → Ordering) (mach : Machine K P V) (point : M → Point) (puts : O → List (ReplyView K V M)) where
  -- the outbox of a client changed, and the replies put have not
  outbox_so : (Move : Ledger K V M O → Ledger K V M O → Type 0) (store : StoreView R K P V M) (lanes left : Slots (Tray K V M O)) (l : Ledger K V M O) (c : ℕ) (client : Client K V M O) (tray : Tray K V M O) (o : O) (refused : Bool)
      → NoneMade store → StandsFor order mach point puts (core_of store lanes) l → IsOpen l c client → LaneStands puts l c client tray → WritesLane puts lanes left c (Some (tray_with tray o refused)) → puts o ≡ puts client.outbox
      → ((b : ℕ) → IsAbove b lanes.items → IsAbove b left.items) → Move l (with_client l c (with_outbox client o refused)) → Lands order mach point puts Move lanes l store left
  outbox_so Move store lanes left l c client tray o refused none s is_open stands set same above move =
      landed order mach point puts Move lanes left l (with_client l c (with_outbox client o refused)) store move
      (subst (λ (t : Ledger K V M (Told K V M)). StoreStandsFor order mach point store t) (sym (told_outbox puts l c client o refused is_open.here same)) s.store)
      (record { none = none; stand = outbox_lanes puts lanes left l c client tray o refused s.lanes is_open stands set same; above = above }) (long_with puts l c (with_outbox client o refused))

  -- ---- release

  pub release_none_so : (takes : O → List (ReplyView K V M)) (was_full was_gone : O → Type 0) (c : ℕ) (store : StoreView R K P V M) (lanes left : Slots (Tray K V M O)) (l : Ledger K V M O) → NoneMade store → StandsFor order mach point puts (core_of store lanes) l
      → found lanes.items c ≡ None → ((k : ℕ) → found left.items k ≡ found lanes.items k) → ((b : ℕ) → IsAbove b lanes.items → IsAbove b left.items)
      → Lands order mach point puts (Releases puts takes was_full was_gone c ReleasedNothing) lanes l store left
  release_none_so takes was_full was_gone c store lanes left l none s gone same above =
      unmoved_so order mach point puts (Releases puts takes was_full was_gone c ReleasedNothing) store lanes left l none s
      (λ next r. none_open puts lanes l c s.lanes gone next.client (record { here = r.here; open_yet = r.ready.open_yet }), refl) same above

  -- nothing was put
  pub release_held_so : (takes : O → List (ReplyView K V M)) (was_full was_gone : O → Type 0) (c : ℕ) (answer : Released) (store : StoreView R K P V M) (lanes left : Slots (Tray K V M O)) (tray new : Tray K V M O) (l : Ledger K V M O) → NoneMade store
      → StandsFor order mach point puts (core_of store lanes) l → found lanes.items c ≡ Some tray → LetsOutOf puts takes was_full was_gone answer tray new → ((n : ℕ) → answer ≡ ReleasedPut n → ⊥)
      → WritesLane puts lanes left c (Some new) → ((b : ℕ) → IsAbove b lanes.items → IsAbove b left.items)
      → Lands order mach point puts (Releases puts takes was_full was_gone c answer) lanes l store left
  release_held_so takes was_full was_gone c (ReleasedPut n) store lanes left tray new l none s here out not set above = absurd (not n refl)
  release_held_so takes was_full was_gone c ReleasedFull store lanes left tray new l none s here (outbox, ready, next, (o, same, taken, full, is)) not set above =
      let w = lane_client puts lanes l c tray s.lanes here in
      let r = next_ready puts l c w.0 tray outbox ready w.1 w.2 next in
      let puts_so : puts o ≡ puts w.0.outbox = same ∙ ap puts r.3 in
      outbox_so (Releases puts takes was_full was_gone c ReleasedFull) store lanes left l c w.0 tray o true none s w.1 w.2 (subst (λ (x : Tray K V M O). WritesLane puts lanes left c (Some x)) is set) puts_so above
      (record { client = w.0; entry = r.0; reply = ready.reply }, r.1, (o, record { puts_same = puts_so; takes_same = taken ∙ ap takes r.3 }, full, refl))
  release_held_so takes was_full was_gone c ReleasedGone store lanes left tray new l none s here (outbox, ready, next, (o, same, taken, full, is)) not set above =
      let w = lane_client puts lanes l c tray s.lanes here in
      let r = next_ready puts l c w.0 tray outbox ready w.1 w.2 next in
      let puts_so : puts o ≡ puts w.0.outbox = same ∙ ap puts r.3 in
      outbox_so (Releases puts takes was_full was_gone c ReleasedGone) store lanes left l c w.0 tray o true none s w.1 w.2 (subst (λ (x : Tray K V M O). WritesLane puts lanes left c (Some x)) is set) puts_so above
      (record { client = w.0; entry = r.0; reply = ready.reply }, r.1, (o, record { puts_same = puts_so; takes_same = taken ∙ ap takes r.3 }, full, refl))
  release_held_so takes was_full was_gone c ReleasedNothing store lanes left tray new l none s here (nothing, is) not set above =
      let w = lane_client puts lanes l c tray s.lanes here in
      unmoved_so order mach point puts (Releases puts takes was_full was_gone c ReleasedNothing) store lanes left l none s
      (none_ready puts l c w.0 tray w.1 w.2 nothing, refl) (same_lanes puts lanes left c tray here (subst (λ (x : Tray K V M O). WritesLane puts lanes left c (Some x)) is set)) above

  -- a reply was put and acknowledged
  pub release_put_so : (takes : O → List (ReplyView K V M)) (was_full was_gone : O → Type 0) (c n : ℕ) (before after : StoreView R K P V M) (lanes left : Slots (Tray K V M O)) (tray new : Tray K V M O) (l : Ledger K V M O) → NoneMade before
      → StandsFor order mach point puts (core_of before lanes) l → found lanes.items c ≡ Some tray → LetsOutOf puts takes was_full was_gone (ReleasedPut n) tray new
      → ((t : Ledger K V M (Told K V M)) → StoreStandsFor order mach point before t → (u : Ledger K V M (Told K V M)) × Hears before c new.put t u × StoreStandsFor order mach point after u)
      → ((k i : ℕ) (ready : ReadyView K V M) → IsMadeIn after k i ready → IsMadeIn before k i ready)
      → WritesLane puts lanes left c (Some new) → ((b : ℕ) → IsAbove b lanes.items → IsAbove b left.items)
      → Lands order mach point puts (Releases puts takes was_full was_gone c (ReleasedPut n)) lanes l after left
  release_put_so takes was_full was_gone c n before after lanes left tray new l none s here (outbox, ready, next, n_is, (o, more, taken, is)) hears back set above =
      landed order mach point puts (Releases puts takes was_full was_gone c (ReleasedPut n)) lanes left l m after move
      (subst (λ (t : Ledger K V M (Told K V M)). StoreStandsFor order mach point after t) (sym told_is) u.2)
      (record {
        none = λ k i x made. none k i x (back k i x made);
        stand = lanes_write puts lanes.items left.items l m c client other s.lanes is_open.here refl (write_else puts lanes left c (Some new) set)
            (λ e. (tray_after tray o, write_here puts lanes left c (Some new) set ∙ ap Some is, stands_put puts l m c client tray o entry ready.reply stands is_open.here refl r.1.ready.here more_so))
            (λ e. true_false (sym is_open.open_yet ∙ e));
        above = above;
      })
      (long_with puts l c other)
    where
      w : (client : Client K V M O) × IsOpen l c client × LaneStands puts l c client tray
      w = lane_client puts lanes l c tray s.lanes here

      client : Client K V M O
      client = w.0

      is_open : IsOpen l c client
      is_open = w.1

      stands : LaneStands puts l c client tray
      stands = w.2

      r : (entry : Entry K V M) × IsReady puts l c (record { client = client; entry = entry; reply = ready.reply }) × IsReadyAt l c (length (puts client.outbox)) entry ready.reply × (outbox ≡ client.outbox)
      r = next_ready puts l c client tray outbox ready is_open stands next

      entry : Entry K V M
      entry = r.0

      count : ℕ
      count = length (puts client.outbox)

      other : Client K V M O
      other = with_outbox (with_entry client count (moved_to entry Put)) o false

      m : Ledger K V M O
      m = with_client l c other

      more_so : puts o ≡ puts client.outbox ++ ready.reply ∷ []
      more_so = more ∙ ap (λ (x : O). puts x ++ ready.reply ∷ []) r.3

      number : n ≡ count
      number = n_is ∙ stands.put

      move : Releases puts takes was_full was_gone c (ReleasedPut n) l m
      move = (
        record { client = client; entry = entry; reply = ready.reply },
        r.1,
        number,
        (o, more_so, taken ∙ ap takes r.3, ap (λ (i : ℕ). with_client l c (with_outbox (with_entry client i (moved_to entry Put)) o false)) (sym number)),
      )

      u : (u : Ledger K V M (Told K V M)) × Hears before c new.put (told_ledger puts l) u × StoreStandsFor order mach point after u
      u = hears (told_ledger puts l) s.store

      new_put : new.put ≡ count + 1
      new_put = let e : new.put ≡ tray.put + 1 = ap (λ (x : Tray K V M O). x.put) is in let f : tray.put ≡ count = stands.put in omega arith

      may : MayTell before (told_ledger puts l) c new.put
      may = record {
        client = told_client puts client;
        open_yet = told_open puts l c client is_open;
        later = (let e = new_put in omega arith);
        collected = λ i past lt. (
          (
            entry,
            ready.reply,
            told_ready puts l c i entry ready.reply (ready_move l c c count i entry ready.reply refl (let e = new_put in omega arith) r.2),
          ),
          λ x made. none c i x made,
        );
      }

      told_is : told_ledger puts m ≡ u.0
      told_is =
          tells_once c (new.put - length (told_client puts client).outbox) (told_ledger puts l) (told_ledger puts m) u.0 (let e = new_put in omega arith)
          (told_put puts takes was_full was_gone c n l m move) (u.1.told may)

  -- ---- take

  pub take_none_so : (A : Type 0) (takes : O → List (ReplyView K V M)) (c : ℕ) (store : StoreView R K P V M) (lanes left : Slots (Tray K V M O)) (l : Ledger K V M O) → NoneMade store → StandsFor order mach point puts (core_of store lanes) l
      → found lanes.items c ≡ None → ((k : ℕ) → found left.items k ≡ found lanes.items k) → ((b : ℕ) → IsAbove b lanes.items → IsAbove b left.items)
      → Lands order mach point puts (TakesOut {A = A} puts takes c (Ok false)) lanes l store left
  take_none_so A takes c store lanes left l none s gone same above =
      unmoved_so order mach point puts (TakesOut {A = A} puts takes c (Ok false)) store lanes left l none s
      (λ client o. absurd (none_open puts lanes l c s.lanes gone client o), refl) same above

  pub take_so : {A : Type 0} (takes : O → List (ReplyView K V M)) (c : ℕ) (answer : Result Bool A) (store : StoreView R K P V M) (lanes left : Slots (Tray K V M O)) (tray new : Tray K V M O) (l : Ledger K V M O) → NoneMade store
      → StandsFor order mach point puts (core_of store lanes) l → found lanes.items c ≡ Some tray → TakesOutOf puts takes answer tray new → WritesLane puts lanes left c (Some new) → ((b : ℕ) → IsAbove b lanes.items → IsAbove b left.items)
      → Lands order mach point puts (TakesOut puts takes c answer) lanes l store left
  take_so {A} takes c (Ok true) store lanes left tray new l none s here (outbox, opened_as, (o, same, next, is)) set above =
      let w = lane_client puts lanes l c tray s.lanes here in
      let out : outbox ≡ w.0.outbox = some_one outbox w.0.outbox (sym opened_as ∙ w.2.outbox) in
      let puts_so : puts o ≡ puts w.0.outbox = same ∙ ap puts out in
      outbox_so (TakesOut {A = A} puts takes c (Ok true)) store lanes left l c w.0 tray o w.0.refused none s w.1 w.2
      (subst (λ (b : Bool). WritesLane puts lanes left c (Some (tray_with tray o b))) w.2.refused (subst (λ (x : Tray K V M O). WritesLane puts lanes left c (Some x)) is set)) puts_so above
      (w.0, w.1, (o, puts_so, subst (λ (x : O). TakesNext (puts x) (takes x) (takes o)) out next, refl))
  take_so {A} takes c (Ok false) store lanes left tray new l none s here (all, is) set above =
      let w = lane_client puts lanes l c tray s.lanes here in
      unmoved_so order mach point puts (TakesOut {A = A} puts takes c (Ok false)) store lanes left l none s (
        λ client o. subst (λ (x : Client K V M O). length (puts x.outbox) ≡ length (takes x.outbox)) (one_entry l.clients c w.0 client w.1.here o.here) (all w.0.outbox w.2.outbox),
        refl,
      )
      (same_lanes puts lanes left c tray here (subst (λ (x : Tray K V M O). WritesLane puts lanes left c (Some x)) is set)) above
  take_so {A} takes c (Err failure) store lanes left tray new l none s here is set above =
      unmoved_so order mach point puts (TakesOut {A = A} puts takes c (Err failure)) store lanes left l none s refl
      (same_lanes puts lanes left c tray here (subst (λ (x : Tray K V M O). WritesLane puts lanes left c (Some x)) is set)) above

  -- ---- close

  pub close_none_so : (c : ℕ) (store : StoreView R K P V M) (lanes left : Slots (Tray K V M O)) (l : Ledger K V M O) → NoneMade store → StandsFor order mach point puts (core_of store lanes) l
      → found lanes.items c ≡ None → ((k : ℕ) → found left.items k ≡ found lanes.items k) → ((b : ℕ) → IsAbove b lanes.items → IsAbove b left.items)
      → Lands order mach point puts (Closes c None) lanes l store left
  close_none_so c store lanes left l none s gone same above =
      unmoved_so order mach point puts (Closes c None) store lanes left l none s (λ client o. none_open puts lanes l c s.lanes gone client o, refl) same above

  pub close_so : (c : ℕ) (answer : Option O) (was_open : Bool) (before made : StoreView R K P V M) (lanes left : Slots (Tray K V M O)) (tray new : Tray K V M O) (l : Ledger K V M O) → NoneMade before → StandsFor order mach point puts (core_of before lanes) l
      → found lanes.items c ≡ Some tray → Goes order mach point before made (Shuts c was_open) → ClosesLane answer tray new → WritesLane puts lanes left c None → ((b : ℕ) → IsAbove b lanes.items → IsAbove b left.items)
      → Lands order mach point puts (Closes c answer) lanes l made left
  close_so c None was_open before made lanes left tray new l none s here goes (gone, is) set above =
      let w = lane_client puts lanes l c tray s.lanes here in
      absurd (none_some w.0.outbox (sym gone ∙ w.2.outbox))
  close_so c (Some outbox) false before made lanes left tray new l none s here goes (was, is) set above =
      let w = lane_client puts lanes l c tray s.lanes here in
      let g = goes (told_ledger puts l) s.store in
      absurd (g.1.0 (told_client puts w.0) (told_open puts l c w.0 w.1))
  close_so c (Some outbox) true before made lanes left tray new l none s here goes (was, is) set above =
      let w = lane_client puts lanes l c tray s.lanes here in
      let g = goes (told_ledger puts l) s.store in
      let m = shuts_told puts c true l g.0 g.1 in
      let stands = subst (λ (t : Ledger K V M (Told K V M)). StoreStandsFor order mach point made t) (sym m.2) g.2 in
      let makes = subst (λ (t : Ledger K V M (Told K V M)). Makes before made (told_ledger puts l) t) (sym m.2) g.3 in
      let clients : m.0.clients ≡ slice_set l.clients c (closed m.1.0) = ap (λ (x : Ledger K V M O). x.clients) m.1.2 in
      let out : outbox ≡ m.1.0.outbox = some_one outbox w.0.outbox (sym was ∙ w.2.outbox) ∙ ap (λ (x : Client K V M O). x.outbox) (one_entry l.clients c w.0 m.1.0 w.1.here m.1.1.here) in
      landed order mach point puts (Closes c (Some outbox)) lanes left l m.0 made (m.1.0, m.1.1, out, m.1.2) stands
      (record {
        none = none_made order mach point before made (told_ledger puts l) (told_ledger puts m.0) none stands makes
            (λ k i entry reply r v. closed_unready puts l m.0 c m.1.0 m.1.1.here clients k i entry reply (ready_told puts m.0 k i entry reply r) (none_told puts l k i v));
        stand = lanes_closed puts lanes.items left.items l m.0 c m.1.0 s.lanes m.1.1.here clients (write_else puts lanes left c None set) (write_here puts lanes left c None set);
        above = above;
      })
      (subst (λ (xs : List (Client K V M O)). length l.clients ≤ length xs) (sym clients) (long_with puts l c (closed m.1.0)))

  -- ---- rest

  pub rests : (store : StoreView R K P V M) (lanes : Slots (Tray K V M O)) (l : Ledger K V M O) → StandsFor order mach point puts (core_of store lanes) l → NoneWaits (told_ledger puts l) → ((run : ℕ) → NoneRuns (told_ledger puts l) run)
      → (HasReadyLane lanes → ⊥) → IsAtRest puts l
  rests store lanes l s waits runs idle = record {
    waiting = none_waits_told puts l waits;
    running = λ run. none_runs_told puts l run (runs run);
    refused = λ c next r. by_flag c next r next.client.refused refl;
  }
    where
      by_flag : (c : ℕ) (next : NextReady K V M O) → IsReady puts l c next → (flag : Bool) → next.client.refused ≡ flag → next.client.refused ≡ true
      by_flag c next r true e = e
      by_flag c next r false e =
          let v = s.lanes.open_yet c next.client r.here r.ready.open_yet in
          let w = first_next puts l c next.client v.0 next.entry next.reply v.2
          (record { client = next.client; is_entry = record { client_here = r.here; here = r.ready.here }; ready = r.ready.ready }) in
          absurd (idle (record { client = c; tray = v.0; here = v.1; next = (next.client.outbox, w.0, w.1); not_refused = v.2.refused ∙ e }))

  pub rest_none : (store : StoreView R K P V M) (lanes : Slots (Tray K V M O)) (l : Ledger K V M O) → StandsFor order mach point puts (core_of store lanes) l → IsAtRest puts l → HasReadyLane lanes → ⊥
  rest_none store lanes l s rest h =
      let w = lane_client puts lanes l h.client h.tray s.lanes h.here in
      let r = next_ready puts l h.client w.0 h.tray h.next.0 h.next.1 w.1 w.2 h.next.2 in
      true_false (sym (rest.refused h.client _ r.1) ∙ (sym w.2.refused ∙ h.not_refused))

-- ---- a new core

pub new_lanes : {K V M O : Type 0} (puts : O → List (ReplyView K V M)) (lanes : Slots (Tray K V M O)) (inputs : Table) → ((c : ℕ) → found lanes.items c ≡ None) → LanesStand puts lanes.items (unused inputs)
new_lanes puts lanes inputs none = record {
  within = λ c tray h. absurd (none_some tray (sym (none c) ∙ h));
  open_yet = λ c client h o. absurd (none_some client h);
  shut = λ c client h o. absurd (none_some client h);
}
