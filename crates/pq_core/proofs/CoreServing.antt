-- The calls of a core that end with its store.
use Rattle.std.proofs.Common.{◌≡◌, ℕ, ◌+◌, ◌<◌, ◌≤◌, ◌==◌, if◌then◌else◌, Bool, true, false, List, [], ◌∷◌, ◌++◌, length, slice_get, slice_set, Option, Some, None, refl, sym, ◌∙◌, ap, subst, inl, inr, arith}
use Rattle.std.specs.Prelude.{Ok, Err, Result}
use Rattle.std.specs.declared.cmp.Ordering.{Ordering}
use Rattle.pq_rules.specs.declared.turn.Answer.{Answer}
use Rattle.pq_rules.specs.Turns.{Machine}
use Rattle.pq_core.proofs.Lists.{some_one, none_some, get_set, get_append, get_within, get_there, set_same, set_other, set_long, append_long, same_or_other}
use Rattle.pq_core.proofs.Changing.{if_at, if_other}
use Rattle.pq_core.proofs.Slots.{above_more}
use Rattle.pq_core.proofs.Told.{told_long, ready_told, none_told, opens_told, refusal_told}
use Rattle.pq_core.proofs.PlaceMoves.{get_append_other, none_past, lanes_opened, lanes_same}
use Rattle.pq_core.proofs.CorePassing.{Lands, KeepsClient, KeepsReady, keeps_same, keeps_one, keeps_entry, none_made, landed}
use Rattle.pq_core.specs.Points.{Point}
use Rattle.pq_core.specs.Replies.{ReplyView}
use Rattle.pq_core.specs.Changes.{ChangeView}
use Rattle.pq_core.specs.Works.{DoneView, WorkView}
use Rattle.pq_core.specs.Ledger.{Out, Place, Waiting, Running, Ready, Put, Dropped, Entry, Client, Ledger, with_client, with_entry, with_entries, moved_to, opened, WasStarved}
use Rattle.pq_core.specs.Moves.{window, OpenRefusal, Opens, Accepts, TurnsEntry, Turns, TurnsIf, is_turn, Edits, edited, Starts, RunAt, Runs, ended_entry, LooksFor, Gives, Starves, IsOwed, WithdrawsEntry, WithdrawsEach, Withdraws, new_entry, with_new, out_of}
use Rattle.pq_core.specs.Lanes.{Tray, empty_tray}
use Rattle.pq_core.specs.Told.{Told, told_ledger, NoneReadyAt, IsReadyAt, OpensNext, IsNextClient}
use Rattle.pq_core.specs.Stores.{StoreView, NoneMade, Makes, Goes}
use Rattle.pq_core.specs.Stores.{StandsFor as StoreStandsFor}
use Rattle.pq_core.specs.Cores.{core_of, StandsFor}
use Rattle.pq_core.specs.aux.Rising.{Slots, found, IsAbove, SameFound}
use Rattle.pq_core.specs.declared.values.label.Label.{Label}
use Rattle.pq_core.specs.declared.values.request.Request.{Request}
use Rattle.pq_core.specs.declared.values.outcome.Outcome.TheVariants.{Answered, Cancelled, Starved}
use Rattle.pq_core.specs.declared.values.moves.Move.{Move}
use Rattle.pq_core.specs.declared.values.moves.Move.TheVariants.{Carry, Blocked, Stepped, Answered as MoveAnswered, Stopped}
use Rattle.pq_core.specs.declared.values.fault.OpenFault.{OpenFault}
use Rattle.pq_core.specs.declared.values.fault.OpenFault.TheVariants.{TooManyClients, Memory as OpenMemory}
use Rattle.pq_core.specs.declared.values.fault.OpenRefused.{OpenRefused}
use Rattle.pq_core.specs.declared.values.fault.AcceptRefused.{AcceptRefused}
use Rattle.pq_core.specs.declared.values.fault.EditRefused.{EditRefused}
use Rattle.pq_core.specs.declared.values.fault.LookFault.{LookFault}
use Rattle.pq_core.specs.declared.values.fault.LookFault.TheVariants.{NoRun, Memory as LookMemory}
use Rattle.pq_core.specs.declared.values.fault.GiveRefused.{GiveRefused}
use Rattle.pq_core.specs.declared.values.fault.WithdrawFault.{WithdrawFault}

not_ready_waiting : {K V M : Type 0} (place : Place K V M) (reply : ReplyView K V M) → place ≡ Waiting → place ≡ Ready reply → ⊥
not_ready_waiting place reply e f = cc

not_ready_running : {K V M : Type 0} (place : Place K V M) (run started : ℕ) (out : Option (Out K)) (reply : ReplyView K V M) → place ≡ Running run started out → place ≡ Ready reply → ⊥
not_ready_running place run started out reply e f = cc

module _ {K V M O : Type 0} (puts : O → List (ReplyView K V M)) where
  -- ---- each call keeps the replies that are ready

  pub accept_keeps : (c : ℕ) (request : Request K) (answer : Result ℕ (AcceptRefused K)) (l m : Ledger K V M O) → Accepts puts c request answer l m → KeepsReady puts l m
  accept_keeps c request (Ok n) l m (client, is_open, n_is, few, e) =
      let entry = new_entry c n request l.inputs.revision in
      let more : length (client.entries ++ entry ∷ []) ≡ length client.entries + 1 = append_long client.entries entry in
      keeps_one puts l m c n
      (record {
        client = client;
        other = with_new client entry;
        here = is_open.here;
        set = ap (λ (x : Ledger K V M O). x.clients) e;
        on = λ i ne. get_append_other client.entries entry i (λ v. ne (v ∙ sym n_is));
      })
      refl refl refl (λ h. omega arith) (none_past l c n client is_open.here (omega arith))
  accept_keeps c request (Err refused) l m w = keeps_same puts l m (ap (λ (x : Ledger K V M O). x.clients) w.2)

  -- `StaysReady before after` is that each of the requests `before` whose reply is ready is in `after`
  abbrev pub StaysReady : List (Entry K V M) → List (Entry K V M) → Type 0
  StaysReady before after = (n : ℕ) (entry : Entry K V M) (reply : ReplyView K V M) → slice_get before n ≡ Some entry → entry.place ≡ Ready reply → slice_get after n ≡ Some entry

  few_as : (before after : List (Entry K V M)) (put : ℕ) → length after ≡ length before → length before ≤ put + window → length after ≤ put + window
  few_as before after put long h = omega arith

  -- ---- a turn

  turned_ready : (l : Ledger K V M O) (c n : ℕ) (is_open : Bool) (entry y : Entry K V M) (reply : ReplyView K V M) → entry.place ≡ Ready reply → TurnsEntry l c n is_open entry y → y ≡ entry
  turned_ready l c n is_open entry y reply ready (inl (run, started, out, is, e)) = absurd (not_ready_running entry.place run started out reply is ready)
  turned_ready l c n is_open entry y reply ready (inr w) = w.1

  turn_stays : (l : Ledger K V M O) (c : ℕ) (is_open : Bool) (before after : List (Entry K V M)) → length after ≡ length before
      → ((n : ℕ) (x y : Entry K V M) → slice_get before n ≡ Some x → slice_get after n ≡ Some y → TurnsEntry l c n is_open x y) → StaysReady before after
  turn_stays l c is_open before after long each n entry reply here ready =
      let lt : n < length before = get_within before n entry here in
      let there = get_there after n (omega arith) in
      there.1 ∙ ap Some (turned_ready l c n is_open entry there.0 reply ready (each n entry there.0 here there.1))

  turns_keep : (l m : Ledger K V M O) → Turns l m → KeepsReady puts l m
  turns_keep l m t = record {
    more = let e : length m.clients ≡ length l.clients = t.long in omega arith;
    each = λ c other get.
        let lt : c < length m.clients = get_within m.clients c other get in
        let e : length m.clients ≡ length l.clients = t.long in
        let there = get_there l.clients c (omega arith) in
        let w = t.each c there.0 other there.1 get in
        record {
          client = there.0;
          here = there.1;
          outbox = w.outbox;
          refused = w.refused;
          is_open = w.is_open;
          few = few_as there.0.entries other.entries (length (puts there.0.outbox)) w.long;
        };
    ready = λ c n entry reply r.
        let lt : c < length l.clients = get_within l.clients c r.client r.is_entry.client_here in
        let e : length m.clients ≡ length l.clients = t.long in
        let there = get_there m.clients c (omega arith) in
        let w = t.each c r.client there.0 r.is_entry.client_here there.1 in
        record {
          client = there.0;
          is_entry = record { client_here = there.1; here = turn_stays l c r.client.is_open r.client.entries there.0.entries w.long w.each n entry reply r.is_entry.here r.ready };
          ready = r.ready;
        };
  }

  -- an edit changes no client before the turn
  keeps_edited : (l m : Ledger K V M O) (change : ChangeView) → KeepsReady puts (edited l change) m → KeepsReady puts l m
  keeps_edited l m change k = record {
    more = k.more;
    each = λ c other get.
        let w = k.each c other get in
        record { client = w.client; here = w.here; outbox = w.outbox; refused = w.refused; is_open = w.is_open; few = w.few };
    ready = λ c n entry reply r.
        k.ready c n entry reply
        (record { client = r.client; is_entry = record { client_here = r.is_entry.client_here; here = r.is_entry.here }; ready = r.ready });
  }

  turns_if_keep : (test : Bool) (l m : Ledger K V M O) → TurnsIf test l m → KeepsReady puts l m
  turns_if_keep true l m t = turns_keep l m t
  turns_if_keep false l m e = keeps_same puts l m (ap (λ (x : Ledger K V M O). x.clients) e)

  pub edit_keeps : (c : ℕ) (change : ChangeView) (answer : Result ℕ EditRefused) (l m : Ledger K V M O) → Edits c change answer l m → KeepsReady puts l m
  edit_keeps c change (Ok revision) l m w = keeps_edited l m change (turns_if_keep (is_turn revision) (edited l change) m w.4)
  edit_keeps c change (Err refused) l m w = keeps_same puts l m (ap (λ (x : Ledger K V M O). x.clients) w.2)

  -- ---- a withdrawal

  -- the requests of one client change, and none that is ready
  keeps_entries : (l m : Ledger K V M O) (c : ℕ) (client : Client K V M O) (after : List (Entry K V M)) → slice_get l.clients c ≡ Some client → m.clients ≡ slice_set l.clients c (with_entries client after)
      → length after ≡ length client.entries → StaysReady client.entries after → KeepsReady puts l m
  keeps_entries l m c client after here set long stays =
      let same : length m.clients ≡ length l.clients = ap (λ (xs : List (Client K V M O)). length xs) set ∙ set_long l.clients c (with_entries client after) in
      record {
        more = omega arith;
        each = λ k x get. elim (get_set l.clients c (with_entries client after) k x (ap (λ (xs : List (Client K V M O)). slice_get xs k) (sym set) ∙ get)) [
          | inl w ↦
              subst (λ (y : ℕ). KeepsClient puts l y x) (sym w.0)
              (subst (λ (y : Client K V M O). KeepsClient puts l c y) (sym w.1)
              (record { client = client; here = here; outbox = refl; refused = refl; is_open = refl; few = few_as client.entries after (length (puts client.outbox)) long }))
          | inr w ↦ record { client = x; here = w.1; outbox = refl; refused = refl; is_open = refl; few = λ h. h }
        ];
        ready = λ k n entry reply r. elim (same_or_other k c) [
          | inl e ↦
              let is : r.client ≡ client = some_one r.client client (sym r.is_entry.client_here ∙ (ap (slice_get l.clients) e ∙ here)) in
              record {
                client = with_entries client after;
                is_entry = record {
                  client_here = ap (λ (xs : List (Client K V M O)). slice_get xs k) set ∙ (ap (slice_get (slice_set l.clients c (with_entries client after))) e ∙ set_same l.clients c (with_entries client after) (get_within l.clients c client here));
                  here = stays n entry reply (ap (λ (x : Client K V M O). slice_get x.entries n) (sym is) ∙ r.is_entry.here) r.ready;
                };
                ready = r.ready;
              }
          | inr apart ↦ record {
            client = r.client;
            is_entry = record {
              client_here = ap (λ (xs : List (Client K V M O)). slice_get xs k) set ∙ (set_other l.clients c (with_entries client after) k apart ∙ r.is_entry.client_here);
              here = r.is_entry.here;
            };
            ready = r.ready;
          }
        ];
      }

  owed_not_ready : (place : Place K V M) (reply : ReplyView K V M) → IsOwed place → place ≡ Ready reply → ⊥
  owed_not_ready Waiting reply o e = not_ready_waiting {K = K} {V = V} {M = M} Waiting reply refl e
  owed_not_ready (Running run started out) reply o e = not_ready_running {K = K} {V = V} {M = M} (Running run started out) run started out reply refl e
  owed_not_ready (Ready other) reply o e = o
  owed_not_ready Put reply o e = o
  owed_not_ready Dropped reply o e = o

  withdrawn_ready : (l : Ledger K V M O) (c : ℕ) (label : Label) (n : ℕ) (entry y : Entry K V M) (reply : ReplyView K V M) → entry.place ≡ Ready reply → WithdrawsEntry l c label n entry y → y ≡ entry
  withdrawn_ready l c label n entry y reply ready (inl w) = absurd (owed_not_ready entry.place reply w.0.owed ready)
  withdrawn_ready l c label n entry y reply ready (inr w) = w.1

  withdraw_stays : (l : Ledger K V M O) (c : ℕ) (label : Label) (before after : List (Entry K V M)) → WithdrawsEach l c label before after → StaysReady before after
  withdraw_stays l c label before after w n entry reply here ready =
      let lt : n < length before = get_within before n entry here in
      let long : length after ≡ length before = w.long in
      let there = get_there after n (omega arith) in
      there.1 ∙ ap Some (withdrawn_ready l c label n entry there.0 reply ready (w.each n entry there.0 here there.1))

  pub withdraw_keeps : (c : ℕ) (label : Label) (answer : Result Bool WithdrawFault) (l m : Ledger K V M O) → Withdraws c label answer l m → KeepsReady puts l m
  withdraw_keeps c label (Ok some) l m (client, is_open, tells, (after, each, e)) =
      keeps_entries l m c client after is_open.here (ap (λ (x : Ledger K V M O). x.clients) e) each.long (withdraw_stays l c label client.entries after each)
  withdraw_keeps c label (Err fault) l m w = keeps_same puts l m (ap (λ (x : Ledger K V M O). x.clients) w.1)

  pub start_keeps : (answer : Option ℕ) (l m : Ledger K V M O) → Starts answer l m → KeepsReady puts l m
  start_keeps (Some run) l m (c, client, n, entry, waits, run_is, e) =
      keeps_entry puts l m c n client entry (moved_to entry (Running run l.inputs.revision None)) waits.is_entry.client_here waits.is_entry.here (λ reply x. not_ready_waiting entry.place reply waits.waits x)
      (ap (λ (x : Ledger K V M O). x.clients) e)
  start_keeps None l m (why, e) = keeps_same puts l m (ap (λ (x : Ledger K V M O). x.clients) e)

  -- the request of a run changes
  run_keeps : (l m : Ledger K V M O) (run : ℕ) (at : RunAt K V M O) (next : Entry K V M) → Runs l run at → m ≡ with_client l at.c (with_entry at.client at.n next) → KeepsReady puts l m
  run_keeps l m run at next r e =
      keeps_entry puts l m at.c at.n at.client at.entry next r.is_entry.client_here r.is_entry.here (λ reply x. not_ready_running at.entry.place run at.started at.out reply r.runs x)
      (ap (λ (x : Ledger K V M O). x.clients) e)

  pub look_keeps : {R P : Type 0} (means : M → Point → K → Answer K V → Type 0) (rules : R) (run : ℕ) (answer : Result (Move (WorkView R K P V)) LookFault) (l m : Ledger K V M O)
      → LooksFor means rules run answer l m → KeepsReady puts l m
  look_keeps means rules run (Ok (Carry work)) l m (at, goes, is_work, e) = run_keeps l m run at (moved_to at.entry (Running run at.started (Some (out_of work.done)))) goes.runs e
  look_keeps means rules run (Ok (Blocked other)) l m w = keeps_same puts l m (ap (λ (x : Ledger K V M O). x.clients) w.4)
  look_keeps means rules run (Ok Stepped) l m w = keeps_same puts l m (ap (λ (x : Ledger K V M O). x.clients) w.2)
  look_keeps means rules run (Ok MoveAnswered) l m (at, goes, (answer, stamp, so, e)) = run_keeps l m run at (ended_entry l at at.entry.fate (Answered answer stamp)) goes.runs e
  look_keeps means rules run (Ok Stopped) l m (at, runs, over, e) = run_keeps l m run at (ended_entry l at at.entry.fate (Cancelled at.started l.inputs.revision)) runs e
  look_keeps means rules run (Err NoRun) l m w = keeps_same puts l m (ap (λ (x : Ledger K V M O). x.clients) w.1)
  look_keeps means rules run (Err LookMemory) l m w = keeps_same puts l m (ap (λ (x : Ledger K V M O). x.clients) w.2)

  pub give_keeps : {R P : Type 0} (run : ℕ) (done : DoneView R K P V) (answer : Result (Move (WorkView R K P V)) (GiveRefused (DoneView R K P V))) (l m : Ledger K V M O)
      → Gives run done answer l m → KeepsReady puts l m
  give_keeps run done (Ok (Carry work)) l m w = absurd w
  give_keeps run done (Ok (Blocked other)) l m w = absurd w
  give_keeps run done (Ok Stepped) l m (at, runs, its, current, e) = run_keeps l m run at (moved_to at.entry (Running run at.started None)) runs e
  give_keeps run done (Ok MoveAnswered) l m w = absurd w
  give_keeps run done (Ok Stopped) l m (at, runs, its, over, e) = run_keeps l m run at (ended_entry l at at.entry.fate (Cancelled at.started l.inputs.revision)) runs e
  give_keeps run done (Err refused) l m w = keeps_same puts l m (ap (λ (x : Ledger K V M O). x.clients) w.2)

  pub starve_keeps : (run : ℕ) (answer : Bool) (l m : Ledger K V M O) → Starves run answer l m → KeepsReady puts l m
  starve_keeps run true l m (at, runs, e) = run_keeps l m run at (ended_entry l at WasStarved Starved) runs e
  starve_keeps run false l m w = keeps_same puts l m (ap (λ (x : Ledger K V M O). x.clients) w.1)

module _ {R K P V M O : Type 0} (order : K → K → Ordering) (mach : Machine K P V) (point : M → Point) (puts : O → List (ReplyView K V M)) where
  -- a call that changes nothing
  pub unmoved_so : (Move : Ledger K V M O → Ledger K V M O → Type 0) (store : StoreView R K P V M) (lanes left : Slots (Tray K V M O)) (l : Ledger K V M O) → NoneMade store → StandsFor order mach point puts (core_of store lanes) l
      → Move l l → ((k : ℕ) → found left.items k ≡ found lanes.items k) → ((b : ℕ) → IsAbove b lanes.items → IsAbove b left.items) → Lands order mach point puts Move lanes l store left
  unmoved_so Move store lanes left l none s move same above =
      landed order mach point puts Move lanes left l l store move s.store
      (record { none = none; stand = lanes_same puts lanes.items left.items l l refl same s.lanes; above = above }) (omega arith)

  -- ---- open

  pub open_none_so : (refused : OpenRefused O) (outbox : O) (store : StoreView R K P V M) (lanes : Slots (Tray K V M O)) (l : Ledger K V M O) → NoneMade store → StandsFor order mach point puts (core_of store lanes) l
      → refused.outbox ≡ outbox → refused.fault ≡ TooManyClients → IsNextClient (told_ledger puts l) None → Lands order mach point puts (Opens outbox (Err refused)) lanes l store lanes
  open_none_so refused outbox store lanes l none s back fault why =
      unmoved_so (Opens outbox (Err refused)) store lanes lanes l none s (back, subst (λ (f : OpenFault). OpenRefusal l f) (sym fault) (refusal_told puts l TooManyClients why), refl) (λ k. refl) (λ b a. a)

  pub open_memory_so : (refused : OpenRefused O) (outbox : O) (c : ℕ) (store : StoreView R K P V M) (lanes left : Slots (Tray K V M O)) (l : Ledger K V M O) → NoneMade store → StandsFor order mach point puts (core_of store lanes) l
      → refused.outbox ≡ outbox → refused.fault ≡ OpenMemory → IsNextClient (told_ledger puts l) (Some c) → SameFound lanes.items left.items
      → Lands order mach point puts (Opens outbox (Err refused)) lanes l store left
  open_memory_so refused outbox c store lanes left l none s back fault next same =
      unmoved_so (Opens outbox (Err refused)) store lanes left l none s (back, subst (λ (f : OpenFault). OpenRefusal l f) (sym fault) (refusal_told puts l OpenMemory next.1), refl) same.same same.above

  -- the store refuses
  pub open_refused_so : (refused : OpenRefused O) (outbox : O) (c : ℕ) (why : OpenFault) (before made : StoreView R K P V M) (lanes left : Slots (Tray K V M O)) (l : Ledger K V M O) → NoneMade before → StandsFor order mach point puts (core_of before lanes) l
      → refused.outbox ≡ outbox → refused.fault ≡ OpenMemory → IsNextClient (told_ledger puts l) (Some c) → Goes order mach point before made (OpensNext (Err why)) → SameFound lanes.items left.items
      → Lands order mach point puts (Opens outbox (Err refused)) lanes l made left
  open_refused_so refused outbox c why before made lanes left l none s back fault next goes same =
      let g = goes (told_ledger puts l) s.store in
      let stands = subst (λ (t : Ledger K V M (Told K V M)). StoreStandsFor order mach point made t) g.1.1 g.2 in
      let makes = subst (λ (t : Ledger K V M (Told K V M)). Makes before made (told_ledger puts l) t) g.1.1 g.3 in
      let still = none_made order mach point before made (told_ledger puts l) (told_ledger puts l) none stands makes (λ k i entry reply r w. w entry reply r) in
      unmoved_so (Opens outbox (Err refused)) made lanes left l still (record { inputs = stands.inputs; store = stands; lanes = s.lanes })
      (back, subst (λ (f : OpenFault). OpenRefusal l f) (sym fault) (refusal_told puts l OpenMemory next.1), refl) same.same same.above

  -- the next number is above those of the lanes
  pub next_above : (c : ℕ) (store : StoreView R K P V M) (lanes : Slots (Tray K V M O)) (l : Ledger K V M O) → StandsFor order mach point puts (core_of store lanes) l → IsNextClient (told_ledger puts l) (Some c)
      → IsAbove store.clients lanes.items → IsAbove c lanes.items
  next_above c store lanes l s next above = subst (λ (n : ℕ). IsAbove n lanes.items) (sym (next.0 ∙ s.store.clients)) above

  pub open_so : (c opened_as : ℕ) (outbox : O) (before made : StoreView R K P V M) (lanes room left : Slots (Tray K V M O)) (l : Ledger K V M O) → puts outbox ≡ [] → NoneMade before → StandsFor order mach point puts (core_of before lanes) l
      → IsNextClient (told_ledger puts l) (Some c) → Goes order mach point before made (OpensNext (Ok opened_as)) → SameFound lanes.items room.items
      → ((k : ℕ) → found left.items k ≡ (if k == c then Some (empty_tray c outbox) else found room.items k))
      → ((b : ℕ) → c < b → IsAbove b room.items → IsAbove b left.items)
      → Lands order mach point puts (Opens outbox (Ok c)) lanes l made left
  open_so c opened_as outbox before made lanes room left l empty none s next goes same pushed above =
      let g = goes (told_ledger puts l) s.store in
      let m = opens_told puts outbox opened_as l g.0 empty g.1 in
      let stands = subst (λ (t : Ledger K V M (Told K V M)). StoreStandsFor order mach point made t) (sym m.2) g.2 in
      let makes = subst (λ (t : Ledger K V M (Told K V M)). Makes before made (told_ledger puts l) t) (sym m.2) g.3 in
      let set : m.0.clients ≡ l.clients ++ opened outbox ∷ [] = ap (λ (x : Ledger K V M O). x.clients) m.1.2 in
      let c_is : c ≡ length l.clients = next.0 ∙ told_long puts l in
      let longer : length m.0.clients ≡ length l.clients + 1 = ap (λ (xs : List (Client K V M O)). length xs) set ∙ append_long l.clients (opened outbox) in
      record {
        ledger = m.0;
        moves = (c_is, m.1.1, m.1.2);
        stands = record {
          inputs = stands.inputs;
          store = stands;
          lanes = lanes_opened puts lanes.items left.items l m.0 c outbox empty s.lanes c_is set
              (λ k ne. pushed k ∙ (if_other k c (Some (empty_tray c outbox)) (found room.items k) ne ∙ same.same k))
              (pushed c ∙ if_at c (Some (empty_tray c outbox)) (found room.items c));
        };
        none = none_made order mach point before made (told_ledger puts l) (told_ledger puts m.0) none stands makes (λ k i entry reply r w. nothing_new m.0 set k i entry reply (ready_told puts m.0 k i entry reply r) (none_told puts l k i w));
        more = omega arith;
        above = λ b a lt le. above (length m.0.clients) (omega arith) (same.above (length m.0.clients) (above_more b (length m.0.clients) lanes.items le a));
      }
    where
      nothing_new : (m : Ledger K V M O) → m.clients ≡ l.clients ++ opened outbox ∷ [] → (k i : ℕ) (entry : Entry K V M) (reply : ReplyView K V M) → IsReadyAt m k i entry reply → NoneReadyAt l k i → ⊥
      nothing_new m set k i entry reply r w = elim (get_append l.clients (opened outbox) k r.client (ap (λ (xs : List (Client K V M O)). slice_get xs k) (sym set) ∙ r.is_entry.client_here)) [
        | inl v ↦ none_some entry (ap (λ (x : Client K V M O). slice_get x.entries i) (sym v.1) ∙ r.is_entry.here)
        | inr v ↦ w entry reply (record { client = r.client; is_entry = record { client_here = v; here = r.is_entry.here }; ready = r.ready })
      ]
