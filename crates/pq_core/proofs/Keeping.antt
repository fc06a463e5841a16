-- Each move keeps what holds of every ledger that is reached. A middle term: only proofs need it.
use Rattle.std.proofs.Common.{◌≡◌, ◌≢◌, ℕ, ◌+◌, ◌<◌, ◌≤◌, Bool, true, false, List, [], ◌∷◌, ◌++◌, map, length, slice_get, slice_set, Option, Some, None, refl, sym, ◌∙◌, ap, subst, inl, inr, arith}
use Rattle.std.specs.Prelude.{Ok, Err, Result}
use Rattle.pq_inputs.specs.Sources.{Sources, Table}
use Rattle.pq_rules.specs.declared.turn.Answer.{Answer}
use Rattle.pq_core.specs.Points.{Point}
use Rattle.pq_core.specs.Replies.{ReplyView}
use Rattle.pq_rules.proofs.ListLemmas.{get_last}
use Rattle.pq_core.proofs.Lists.{get_set, get_append, get_longer, get_within, get_map, set_long, append_long, map_long, get_there}
use Rattle.pq_core.specs.Ledger.{Out, Place, Waiting, Running, Ready, Put, Dropped, Entry, Client, Ledger, with_client, with_entry, moved_to, opened, with_outbox, place_closed, entry_closed, Fate, Unharmed, WasStarved, WasWithdrawn}
use Rattle.pq_core.specs.RightReply.{IsTrueOutcome, IsRightFor}
use Rattle.pq_core.specs.Moves.{Opens, Accepts, Edits, Starts, LooksFor, Gives, Starves, Withdraws, Releases, Closes, TakesOut, RunAt, Runs, IsOvertaken, new_entry, first_place, changed, edited, reply_at, ended, with_out, out_of, place_ended, is_turn, turned, TurnsEntry, TurnsClient, Turns, TurnsIf, IsOwed, WithdrawsEntry, WithdrawsEach}
use Rattle.pq_core.specs.Kept.{IsDemand, PlaceKept, EntryKept, ClientKept, Kept}
use Rattle.pq_core.specs.declared.values.label.Label.{Label}
use Rattle.pq_core.specs.declared.values.request.Request.{Request}
use Rattle.pq_core.specs.Changes.{ChangeView}
use Rattle.pq_core.specs.Works.{DoneView, WorkView}
use Rattle.pq_core.specs.declared.values.request.Want.{Want}
use Rattle.pq_core.specs.declared.values.request.Want.TheVariants.{Demand, Fixed}
use Rattle.pq_core.specs.declared.values.outcome.Outcome.{Outcome}
use Rattle.pq_core.specs.declared.values.outcome.Outcome.TheVariants.{Answered, Plain, Cancelled, Starved, Withdrawn}
use Rattle.pq_core.specs.declared.values.moves.Move.{Move}
use Rattle.pq_core.specs.declared.values.moves.Move.TheVariants.{Carry, Blocked, Stepped as MoveStepped, Answered as MoveAnswered, Stopped as MoveStopped}
use Rattle.pq_core.specs.declared.values.moves.Released.{Released}
use Rattle.pq_core.specs.declared.values.moves.Released.TheVariants.{Put as ReleasedPut, Full as ReleasedFull, Gone as ReleasedGone, Nothing as ReleasedNothing}
use Rattle.pq_core.specs.declared.values.fault.LookFault.{LookFault}
use Rattle.pq_core.specs.declared.values.fault.LookFault.TheVariants.{NoRun, Memory as LookMemory}
use Rattle.pq_core.specs.declared.values.fault.GiveRefused.{GiveRefused}
use Rattle.pq_core.specs.declared.values.fault.OpenRefused.{OpenRefused}
use Rattle.pq_core.specs.declared.values.fault.AcceptRefused.{AcceptRefused}
use Rattle.pq_core.specs.declared.values.fault.EditRefused.{EditRefused}
use Rattle.pq_core.specs.declared.values.fault.WithdrawFault.{WithdrawFault}

module _ {K V M O : Type 0} (means : M → Point → K → Answer K V → Type 0) (puts : O → List (ReplyView K V M)) where
  -- another client of an id
  pub kept_client : (l : Ledger K V M O) (c : ℕ) (client : Client K V M O) → Kept means puts l
      → ClientKept means l.inputs (puts client.outbox) c client.entries → Kept means puts (with_client l c client)
  kept_client l c client k ck = record {
    inputs = k.inputs;
    clients = λ d other h. elim (get_set l.clients c client d other h) [
      | inl w ↦
          subst (λ (x : ℕ). ClientKept means l.inputs (puts other.outbox) x other.entries) (sym w.0)
          (subst (λ (y : Client K V M O). ClientKept means l.inputs (puts y.outbox) c y.entries) (sym w.1) ck)
      | inr w ↦ k.clients d other w.1
    ];
  }

module _ {K V M : Type 0} (means : M → Point → K → Answer K V → Type 0) where
  -- another request of a number
  pub kept_entry : (inputs : Table) (qs : List (ReplyView K V M)) (c : ℕ) (entries : List (Entry K V M)) (n : ℕ) (entry : Entry K V M)
      → ClientKept means inputs qs c entries → EntryKept means inputs qs c n entry → ClientKept means inputs qs c (slice_set entries n entry)
  kept_entry inputs qs c entries n entry k e = record {
    few = let a : length qs ≤ length entries = k.few in let b : length (slice_set entries n entry) ≡ length entries = set_long entries n entry in omega arith;
    each = λ i other h. elim (get_set entries n entry i other h) [
      | inl w ↦
          subst (λ (x : ℕ). EntryKept means inputs qs c x other) (sym w.0)
          (subst (λ (y : Entry K V M). EntryKept means inputs qs c n y) (sym w.1) e)
      | inr w ↦ k.each i other w.1
    ];
  }

  -- one more request
  pub kept_new : (inputs : Table) (qs : List (ReplyView K V M)) (c : ℕ) (entries : List (Entry K V M)) (entry : Entry K V M)
      → ClientKept means inputs qs c entries → EntryKept means inputs qs c (length entries) entry → ClientKept means inputs qs c (entries ++ entry ∷ [])
  kept_new inputs qs c entries entry k e = record {
    few = let a : length qs ≤ length entries = k.few in let b : length (entries ++ entry ∷ []) ≡ length entries + 1 = append_long entries entry in omega arith;
    each = λ i other h. elim (get_append entries entry i other h) [
      | inl w ↦
          subst (λ (x : ℕ). EntryKept means inputs qs c x other) (sym w.0)
          (subst (λ (y : Entry K V M). EntryKept means inputs qs c (length entries) y) (sym w.1) e)
      | inr w ↦ k.each i other w
    ];
  }

  new_placed : (inputs : Table) (qs : List (ReplyView K V M)) (c n : ℕ) (request : Request K) (want : Want K) → request.want ≡ want → length qs ≤ n
      → PlaceKept means inputs qs c n (record { request = request; accepted = inputs.revision; place = first_place c n request inputs.revision want; fate = Unharmed }) (first_place c n request inputs.revision want)
  new_placed inputs qs c n request (Demand key) e h = (h, subst IsDemand (sym e) tt)
  new_placed inputs qs c n request (Fixed text) e h = (
    h,
    record {
      client = refl;
      number = refl;
      request = refl;
      outcome = subst (λ (w : Want K). IsTrueOutcome means inputs inputs.revision Unharmed w inputs.revision Plain) (sym e) refl;
    },
  )

  pub new_kept : (inputs : Table) (qs : List (ReplyView K V M)) (c n : ℕ) (request : Request K) → length qs ≤ n
      → EntryKept means inputs qs c n (new_entry c n request inputs.revision)
  new_kept inputs qs c n request h = record { past = omega arith; placed = new_placed inputs qs c n request request.want refl h }

  -- later inputs
  pub true_later : (t u : Table) (a : ℕ) (s : Fate) (want : Want K) (r : ℕ) (outcome : Outcome K V M) → t.revision ≤ u.revision
      → ((j : ℕ) (files : Sources) → slice_get t.history j ≡ Some files → slice_get u.history j ≡ Some files)
      → IsTrueOutcome means t a s want r outcome → IsTrueOutcome means u a s want r outcome
  true_later t u a s (Demand key) r (Answered answer stamp) h f x =
      let b : r ≤ t.revision = x.1 in
      (x.0, omega arith, record { files = x.2.files; there = f r x.2.files x.2.there; means_so = x.2.means_so })
  true_later t u a s (Demand key) r Plain h f x = x
  true_later t u a s (Demand key) r (Cancelled started seen) h f x = let b : seen ≤ t.revision = x.2 in (x.0, x.1, omega arith, x.3)
  true_later t u a s (Demand key) r Starved h f x = let b : r ≤ t.revision = x.2 in (x.0, x.1, omega arith)
  true_later t u a s (Demand key) r Withdrawn h f x = let b : r ≤ t.revision = x.2 in (x.0, x.1, omega arith)
  true_later t u a s (Fixed text) r (Answered answer stamp) h f x = x
  true_later t u a s (Fixed text) r Plain h f x = x
  true_later t u a s (Fixed text) r (Cancelled started seen) h f x = x
  true_later t u a s (Fixed text) r Starved h f x = x
  true_later t u a s (Fixed text) r Withdrawn h f x = x

  right_later : (t u : Table) (c n : ℕ) (entry : Entry K V M) (reply : ReplyView K V M) → t.revision ≤ u.revision
      → ((j : ℕ) (files : Sources) → slice_get t.history j ≡ Some files → slice_get u.history j ≡ Some files)
      → IsRightFor means t c n entry reply → IsRightFor means u c n entry reply
  right_later t u c n entry reply h f x = record {
    client = x.client;
    number = x.number;
    request = x.request;
    outcome = true_later t u entry.accepted entry.fate entry.request.want reply.revision reply.outcome h f x.outcome;
  }

  placed_later : (t u : Table) (qs : List (ReplyView K V M)) (c n : ℕ) (entry : Entry K V M) (place : Place K V M) → t.revision ≤ u.revision
      → ((j : ℕ) (files : Sources) → slice_get t.history j ≡ Some files → slice_get u.history j ≡ Some files)
      → PlaceKept means t qs c n entry place → PlaceKept means u qs c n entry place
  placed_later t u qs c n entry Waiting h f x = x
  placed_later t u qs c n entry (Running run started out) h f x = let b : started ≤ t.revision = x.3 in (x.0, x.1, x.2, omega arith)
  placed_later t u qs c n entry (Ready reply) h f x = (x.0, right_later t u c n entry reply h f x.1)
  placed_later t u qs c n entry Put h f x = (x.0, x.1, right_later t u c n entry x.0 h f x.2)
  placed_later t u qs c n entry Dropped h f x = x

  pub entry_later : (t u : Table) (qs : List (ReplyView K V M)) (c n : ℕ) (entry : Entry K V M) → t.revision ≤ u.revision
      → ((j : ℕ) (files : Sources) → slice_get t.history j ≡ Some files → slice_get u.history j ≡ Some files)
      → EntryKept means t qs c n entry → EntryKept means u qs c n entry
  entry_later t u qs c n entry h f x = record {
    past = let b : entry.accepted ≤ t.revision = x.past in omega arith;
    placed = placed_later t u qs c n entry entry.place h f x.placed;
  }

  -- one more reply is put, and the request is another
  placed_put : (inputs : Table) (qs : List (ReplyView K V M)) (reply : ReplyView K V M) (c n : ℕ) (entry : Entry K V M) (place : Place K V M) → n ≢ length qs
      → PlaceKept means inputs qs c n entry place → PlaceKept means inputs (qs ++ reply ∷ []) c n entry place
  placed_put inputs qs reply c n entry Waiting ne x = let a : length qs ≤ n = x.0 in let b : length (qs ++ reply ∷ []) ≡ length qs + 1 = append_long qs reply in (omega arith, x.1)
  placed_put inputs qs reply c n entry (Running run started out) ne x = let a : length qs ≤ n = x.0 in let b : length (qs ++ reply ∷ []) ≡ length qs + 1 = append_long qs reply in (omega arith, x.1, x.2, x.3)
  placed_put inputs qs reply c n entry (Ready other) ne x = let a : length qs ≤ n = x.0 in let b : length (qs ++ reply ∷ []) ≡ length qs + 1 = append_long qs reply in (omega arith, x.1)
  placed_put inputs qs reply c n entry Put ne x = (x.0, get_longer qs (reply ∷ []) n x.0 x.1, x.2)
  placed_put inputs qs reply c n entry Dropped ne x = let a : length qs ≤ n = x in let b : length (qs ++ reply ∷ []) ≡ length qs + 1 = append_long qs reply in omega arith

  -- the reply that is ready at its turn is put
  pub kept_put : (inputs : Table) (qs : List (ReplyView K V M)) (c : ℕ) (entries : List (Entry K V M)) (entry : Entry K V M) (reply : ReplyView K V M)
      → ClientKept means inputs qs c entries → slice_get entries (length qs) ≡ Some entry → entry.place ≡ Ready reply
      → ClientKept means inputs (qs ++ reply ∷ []) c (slice_set entries (length qs) (moved_to entry Put))
  kept_put inputs qs c entries entry reply k here ready =
      let kept : EntryKept means inputs qs c (length qs) entry = k.each (length qs) entry here in
      let placed : PlaceKept means inputs qs c (length qs) entry (Ready reply) = subst (PlaceKept means inputs qs c (length qs) entry) ready kept.placed in
      let moved : EntryKept means inputs (qs ++ reply ∷ []) c (length qs) (moved_to entry Put) = record {
        past = kept.past;
        placed = (
          reply,
          get_last qs reply,
          record { client = placed.1.client; number = placed.1.number; request = placed.1.request; outcome = placed.1.outcome },
        );
      } in
      record {
        few =
            let a : length qs < length entries = get_within entries (length qs) entry here in
            let b : length (qs ++ reply ∷ []) ≡ length qs + 1 = append_long qs reply in
            let d : length (slice_set entries (length qs) (moved_to entry Put)) ≡ length entries = set_long entries (length qs) (moved_to entry Put) in
            omega arith;
        each = λ i other h. elim (get_set entries (length qs) (moved_to entry Put) i other h) [
          | inl w ↦
              subst (λ (x : ℕ). EntryKept means inputs (qs ++ reply ∷ []) c x other) (sym w.0)
              (subst (λ (y : Entry K V M). EntryKept means inputs (qs ++ reply ∷ []) c (length qs) y) (sym w.1) moved)
          | inr w ↦
              let before : EntryKept means inputs qs c i other = k.each i other w.1 in
              record { past = before.past; placed = placed_put inputs qs reply c i other other.place w.0 before.placed }
        ];
      }

  -- a close
  placed_closed : (inputs : Table) (qs : List (ReplyView K V M)) (c n : ℕ) (entry : Entry K V M) (place : Place K V M)
      → PlaceKept means inputs qs c n entry place → PlaceKept means inputs qs c n (moved_to entry (place_closed place)) (place_closed place)
  placed_closed inputs qs c n entry Waiting x = x.0
  placed_closed inputs qs c n entry (Running run started out) x = x
  placed_closed inputs qs c n entry (Ready reply) x = x.0
  placed_closed inputs qs c n entry Put x = (x.0, x.1, record { client = x.2.client; number = x.2.number; request = x.2.request; outcome = x.2.outcome })
  placed_closed inputs qs c n entry Dropped x = x

  pub kept_close : (inputs : Table) (qs : List (ReplyView K V M)) (c : ℕ) (entries : List (Entry K V M))
      → ClientKept means inputs qs c entries → ClientKept means inputs qs c (map entry_closed entries)
  kept_close inputs qs c entries k = record {
    few = let a : length qs ≤ length entries = k.few in let b : length (map entry_closed entries) ≡ length entries = map_long entry_closed entries in omega arith;
    each = λ i other h.
        let w = get_map entry_closed entries i other h in
        let before : EntryKept means inputs qs c i w.0 = k.each i w.0 w.1 in
        subst (λ (y : Entry K V M). EntryKept means inputs qs c i y) (sym w.2)
        (record { past = before.past; placed = placed_closed inputs qs c i w.0 w.0.place before.placed });
  }

  -- a run ends, in a place that is right
  pub ended_placed : (inputs : Table) (qs : List (ReplyView K V M)) (c n : ℕ) (entry : Entry K V M) (fate : Fate) (is_open : Bool) (reply : ReplyView K V M)
      → length qs ≤ n → IsRightFor means inputs c n (record { request = entry.request; accepted = entry.accepted; place = place_ended is_open reply; fate = fate }) reply
      → PlaceKept means inputs qs c n (record { request = entry.request; accepted = entry.accepted; place = place_ended is_open reply; fate = fate }) (place_ended is_open reply)
  ended_placed inputs qs c n entry fate true reply h x = (h, x)
  ended_placed inputs qs c n entry fate false reply h x = h

module _ {K V M O : Type 0} (means : M → Point → K → Answer K V → Type 0) (puts : O → List (ReplyView K V M)) where
  -- what is known of a request that runs
  pub runs_placed : (l : Ledger K V M O) (run : ℕ) (at : RunAt K V M O) → Kept means puts l → Runs l run at
      → PlaceKept means l.inputs (puts at.client.outbox) at.c at.n at.entry (Running run at.started at.out)
  runs_placed l run at k r =
      subst (PlaceKept means l.inputs (puts at.client.outbox) at.c at.n at.entry) r.runs
      ((k.clients at.c at.client r.is_entry.client_here).each at.n at.entry r.is_entry.here).placed

  -- a run ends with a true outcome
  pub kept_end : (l : Ledger K V M O) (run : ℕ) (at : RunAt K V M O) (fate : Fate) (outcome : Outcome K V M)
      → Kept means puts l → Runs l run at
      → IsTrueOutcome means l.inputs at.entry.accepted fate at.entry.request.want l.inputs.revision outcome
      → Kept means puts (ended l at fate outcome)
  kept_end l run at fate outcome k r true_so =
      let ck = k.clients at.c at.client r.is_entry.client_here in
      let placed = runs_placed l run at k r in
      kept_client means puts l at.c _ k
      (kept_entry means l.inputs (puts at.client.outbox) at.c at.client.entries at.n _ ck
      (record {
        past = (ck.each at.n at.entry r.is_entry.here).past;
        placed = ended_placed means l.inputs (puts at.client.outbox) at.c at.n at.entry fate at.client.is_open _ placed.0
            (record { client = refl; number = refl; request = refl; outcome = true_so });
      }))

  -- the run of a closed client ends without a reply
  kept_dropped : (l : Ledger K V M O) (run : ℕ) (at : RunAt K V M O) (fate : Fate) (outcome : Outcome K V M)
      → Kept means puts l → Runs l run at → at.client.is_open ≡ false → Kept means puts (ended l at fate outcome)
  kept_dropped l run at fate outcome k r shut =
      let ck = k.clients at.c at.client r.is_entry.client_here in
      let placed = runs_placed l run at k r in
      kept_client means puts l at.c _ k
      (kept_entry means l.inputs (puts at.client.outbox) at.c at.client.entries at.n _ ck
      (subst (λ (b : Bool). EntryKept means l.inputs (puts at.client.outbox) at.c at.n (record { request = at.entry.request; accepted = at.entry.accepted; place = place_ended b (reply_at l at outcome); fate = fate })) (sym shut)
      (record { past = (ck.each at.n at.entry r.is_entry.here).past; placed = placed.0 })))

  -- the work of a run that is out is other work, or none
  pub kept_out : (l : Ledger K V M O) (run : ℕ) (at : RunAt K V M O) (out : Option (Out K)) → Kept means puts l → Runs l run at
      → Kept means puts (with_out l run at out)
  kept_out l run at out k r =
      let ck = k.clients at.c at.client r.is_entry.client_here in
      let placed = runs_placed l run at k r in
      kept_client means puts l at.c _ k
      (kept_entry means l.inputs (puts at.client.outbox) at.c at.client.entries at.n _ ck
      (record { past = (ck.each at.n at.entry r.is_entry.here).past; placed = (placed.0, placed.1, placed.2, placed.3) }))

  pub kept_opens : (outbox : O) (answer : Result ℕ (OpenRefused O)) (l m : Ledger K V M O) → puts outbox ≡ [] → Kept means puts l → Opens outbox answer l m → Kept means puts m
  kept_opens outbox (Ok c) l m e k s =
      subst (Kept means puts) (sym s.2)
      (record {
        inputs = k.inputs;
        clients = λ d other h. elim (get_append l.clients (opened outbox) d other h) [
          | inl w ↦
              subst (λ (y : Client K V M O). ClientKept means l.inputs (puts y.outbox) d y.entries) (sym w.1)
              (subst (λ (qs : List (ReplyView K V M)). ClientKept means l.inputs qs d []) (sym e)
              (record { few = omega arith; each = λ i entry g. absurd (none_there i entry g) }))
          | inr w ↦ k.clients d other w
        ];
      })
    where
      none_there : (i : ℕ) (entry : Entry K V M) → None ≡ Some entry → ⊥
      none_there i entry g = cc
  kept_opens outbox (Err refused) l m e k s = subst (Kept means puts) (sym s.2) k

  pub kept_accepts : (c : ℕ) (request : Request K) (answer : Result ℕ (AcceptRefused K)) (l m : Ledger K V M O) → Kept means puts l → Accepts puts c request answer l m → Kept means puts m
  kept_accepts c request (Ok n) l m k s =
      let client = s.0 in
      let ck = k.clients c client s.1.here in
      subst (Kept means puts) (sym s.4)
      (kept_client means puts l c _ k
      (kept_new means l.inputs (puts client.outbox) c client.entries _ ck
      (subst (λ (i : ℕ). EntryKept means l.inputs (puts client.outbox) c (length client.entries) (new_entry c i request l.inputs.revision)) (sym s.2)
      (new_kept means l.inputs (puts client.outbox) c (length client.entries) request ck.few))))
  kept_accepts c request (Err refused) l m k s = subst (Kept means puts) (sym s.2) k

  -- an edit, before any run ends
  pub kept_edited : (l : Ledger K V M O) (change : ChangeView) → Kept means puts l → Kept means puts (edited l change)
  kept_edited l change k =
      let files = (changed l.inputs change).files in
      record {
        inputs = record {
          counted = append_long l.inputs.history files ∙ ap (λ (i : ℕ). i + 1) k.inputs.counted;
          latest = subst (λ (i : ℕ). slice_get (l.inputs.history ++ files ∷ []) i ≡ Some files) k.inputs.counted (get_last l.inputs.history files);
        };
        clients = λ d other h.
            let ck = k.clients d other h in
            record {
              few = ck.few;
              each = λ i entry g.
                  entry_later means l.inputs (changed l.inputs change) (puts other.outbox) d i entry (omega arith)
                  (λ j fs e. get_longer l.inputs.history (files ∷ []) j fs e) (ck.each i entry g);
            };
      }

  pub kept_starts : (answer : Option ℕ) (l m : Ledger K V M O) → Kept means puts l → Starts answer l m → Kept means puts m
  kept_starts (Some run) l m k s =
      let c = s.0 in
      let client = s.1 in
      let n = s.2 in
      let entry = s.3 in
      let ck = k.clients c client s.4.is_entry.client_here in
      let ek = ck.each n entry s.4.is_entry.here in
      let placed : PlaceKept means l.inputs (puts client.outbox) c n entry Waiting = subst (PlaceKept means l.inputs (puts client.outbox) c n entry) s.4.waits ek.placed in
      let kept : Kept means puts (with_client l c (with_entry client n (moved_to entry (Running run l.inputs.revision None)))) =
      kept_client means puts l c _ k
      (kept_entry means l.inputs (puts client.outbox) c client.entries n _ ck
      (record { past = ek.past; placed = (placed.0, placed.1, ek.past, omega arith) })) in
      subst (Kept means puts) (sym s.6) (record { inputs = kept.inputs; clients = kept.clients })
  kept_starts None l m k s = subst (Kept means puts) (sym s.1) k

  -- the outcomes of ends are true
  stopped_true : (inputs : Table) (a started : ℕ) (fate : Fate) (want : Want K) → IsDemand want → a ≤ started → started < inputs.revision
      → IsTrueOutcome means inputs a fate want inputs.revision (Cancelled started inputs.revision)
  stopped_true inputs a started fate (Demand key) d h i = (h, i, omega arith, refl)
  stopped_true inputs a started fate (Fixed text) d h i = absurd d

  starved_true : (inputs : Table) (a : ℕ) (want : Want K) → IsDemand want → a ≤ inputs.revision → IsTrueOutcome means inputs a WasStarved want inputs.revision Starved
  starved_true inputs a (Demand key) d h = (refl, h, omega arith)
  starved_true inputs a (Fixed text) d h = absurd d

  -- a run that was overtaken stops
  kept_stops : (l m : Ledger K V M O) (run : ℕ) (at : RunAt K V M O) → Kept means puts l → Runs l run at → IsOvertaken l at
      → m ≡ ended l at at.entry.fate (Cancelled at.started l.inputs.revision) → Kept means puts m
  kept_stops l m run at k r overtaken e =
      let placed = runs_placed l run at k r in
      subst (Kept means puts) (sym e)
      (elim overtaken [
        | inl late ↦ kept_end l run at at.entry.fate _ k r (stopped_true l.inputs at.entry.accepted at.started at.entry.fate at.entry.request.want placed.1 placed.2 late)
        | inr shut ↦ kept_dropped l run at at.entry.fate _ k r shut
      ])

  pub kept_looks : {R P : Type 0} (rules : R) (run : ℕ) (answer : Result (Move (WorkView R K P V)) LookFault) (l m : Ledger K V M O) → Kept means puts l → LooksFor means rules run answer l m → Kept means puts m
  kept_looks rules run (Ok (Carry work)) l m k s = subst (Kept means puts) (sym s.3) (kept_out l run s.0 (Some (out_of work.done)) k s.1.runs)
  kept_looks rules run (Ok (Blocked other)) l m k s = subst (Kept means puts) (sym s.4) k
  kept_looks rules run (Ok MoveStepped) l m k s = subst (Kept means puts) (sym s.2) k
  kept_looks rules run (Ok MoveAnswered) l m k s =
      let at = s.0 in
      let runs = s.1.runs in
      let placed = runs_placed l run at k runs in
      let a : at.entry.accepted ≤ at.started = placed.2 in
      let b : at.started ≤ l.inputs.revision = placed.3 in
      let w = s.2.2 in
      subst (Kept means puts) (sym s.2.3)
      (kept_end l run at at.entry.fate (Answered s.2.0 s.2.1) k runs
      (subst (λ (x : Want K). IsTrueOutcome means l.inputs at.entry.accepted at.entry.fate x l.inputs.revision (Answered s.2.0 s.2.1)) (sym w.demanded)
      (omega arith, omega arith, w.is_value)))
  kept_looks rules run (Ok MoveStopped) l m k s = kept_stops l m run s.0 k s.1 s.2 s.3
  kept_looks rules run (Err NoRun) l m k s = subst (Kept means puts) (sym s.1) k
  kept_looks rules run (Err LookMemory) l m k s = subst (Kept means puts) (sym s.2) k

  pub kept_gives : {R P : Type 0} (run : ℕ) (done : DoneView R K P V) (answer : Result (Move (WorkView R K P V)) (GiveRefused (DoneView R K P V))) (l m : Ledger K V M O) → Kept means puts l → Gives run done answer l m → Kept means puts m
  kept_gives run done (Ok (Carry work)) l m k s = absurd s
  kept_gives run done (Ok (Blocked other)) l m k s = absurd s
  kept_gives run done (Ok MoveStepped) l m k s = subst (Kept means puts) (sym s.4) (kept_out l run s.0 None k s.1)
  kept_gives run done (Ok MoveAnswered) l m k s = absurd s
  kept_gives run done (Ok MoveStopped) l m k s = kept_stops l m run s.0 k s.1 s.3 s.4
  kept_gives run done (Err refused) l m k s = subst (Kept means puts) (sym s.2) k

  pub kept_starves : (run : ℕ) (answer : Bool) (l m : Ledger K V M O) → Kept means puts l → Starves run answer l m → Kept means puts m
  kept_starves run true l m k s =
      let at = s.0 in
      let placed = runs_placed l run at k s.1 in
      let a : at.entry.accepted ≤ at.started = placed.2 in
      let b : at.started ≤ l.inputs.revision = placed.3 in
      subst (Kept means puts) (sym s.2)
      (kept_end l run at WasStarved Starved k s.1 (starved_true l.inputs at.entry.accepted at.entry.request.want placed.1 (omega arith)))
  kept_starves run false l m k s = subst (Kept means puts) (sym s.1) k

  -- ---- turns

  -- a run that is over at a turn
  placed_turned : (l : Ledger K V M O) (qs : List (ReplyView K V M)) (c n : ℕ) (entry : Entry K V M) (run started : ℕ) (out : Option (Out K)) (is_open : Bool)
      → started < l.inputs.revision → PlaceKept means l.inputs qs c n entry (Running run started out)
      → PlaceKept means l.inputs qs c n (turned l c n is_open started entry) (turned l c n is_open started entry).place
  placed_turned l qs c n entry run started out is_open late x =
      ended_placed means l.inputs qs c n entry entry.fate is_open _ x.0
      (record { client = refl; number = refl; request = refl; outcome = stopped_true l.inputs entry.accepted started entry.fate entry.request.want x.1 x.2 late })

  -- `AllLate l` is that each run was started before the revision now
  abbrev pub AllLate : Ledger K V M O → Type 0
  AllLate l = (c n : ℕ) (client : Client K V M O) (entry : Entry K V M) (run started : ℕ) (out : Option (Out K)) → slice_get l.clients c ≡ Some client → slice_get client.entries n ≡ Some entry
      → entry.place ≡ Running run started out → started < l.inputs.revision

  kept_turned : (l : Ledger K V M O) (qs : List (ReplyView K V M)) (c n : ℕ) (is_open : Bool) (x y : Entry K V M) → EntryKept means l.inputs qs c n x
      → ((run started : ℕ) (out : Option (Out K)) → x.place ≡ Running run started out → started < l.inputs.revision)
      → TurnsEntry l c n is_open x y → EntryKept means l.inputs qs c n y
  kept_turned l qs c n is_open x y k late (inl (run, started, out, is, e)) =
      subst (λ (z : Entry K V M). EntryKept means l.inputs qs c n z) (sym e)
      (record {
        past = k.past;
        placed = placed_turned l qs c n x run started out is_open (late run started out is) (subst (λ (p : Place K V M). PlaceKept means l.inputs qs c n x p) is k.placed);
      })
  kept_turned l qs c n is_open x y k late (inr w) = subst (λ (z : Entry K V M). EntryKept means l.inputs qs c n z) (sym w.1) k

  turned_client : (l : Ledger K V M O) (c : ℕ) (x y : Client K V M O) → slice_get l.clients c ≡ Some x → ClientKept means l.inputs (puts x.outbox) c x.entries → AllLate l
      → TurnsClient l c x y → ClientKept means l.inputs (puts y.outbox) c y.entries
  turned_client l c x y here k late t =
      subst (λ (o : O). ClientKept means l.inputs (puts o) c y.entries) (sym t.outbox)
      (record {
        few = let a : length (puts x.outbox) ≤ length x.entries = k.few in let b : length y.entries ≡ length x.entries = t.long in omega arith;
        each = λ n e h.
            let lt : n < length y.entries = get_within y.entries n e h in
            let same : length y.entries ≡ length x.entries = t.long in
            let there = get_there x.entries n (omega arith) in
            kept_turned l (puts x.outbox) c n x.is_open there.0 e (k.each n there.0 there.1) (λ run started out is. late c n x there.0 run started out here there.1 is) (t.each n there.0 e there.1 h);
      })

  pub kept_turns : (l m : Ledger K V M O) → Kept means puts l → AllLate l → Turns l m → Kept means puts m
  kept_turns l m k late t =
      subst (λ (i : Table). Kept means puts (record { inputs = i; clients = m.clients; runs = m.runs })) (sym t.inputs)
      (record {
        inputs = k.inputs;
        clients = λ c y h.
            let lt : c < length m.clients = get_within m.clients c y h in
            let same : length m.clients ≡ length l.clients = t.long in
            let there = get_there l.clients c (omega arith) in
            turned_client l c there.0 y there.1 (k.clients c there.0 there.1) late (t.each c there.0 y there.1 h);
      })

  -- an edit makes the revision later than each run's start
  pub late_edited : (l : Ledger K V M O) (change : ChangeView) → Kept means puts l → AllLate (edited l change)
  late_edited l change k c n client entry run started out here at is =
      let p = subst (λ (x : Place K V M). PlaceKept means l.inputs (puts client.outbox) c n entry x) is ((k.clients c client here).each n entry at).placed in
      let past : started ≤ l.inputs.revision = p.3 in
      omega arith

  kept_turns_if : (test : Bool) (l m : Ledger K V M O) → Kept means puts l → AllLate l → TurnsIf test l m → Kept means puts m
  kept_turns_if true l m k late t = kept_turns l m k late t
  kept_turns_if false l m k late e = subst (Kept means puts) (sym e) k

  pub kept_edits : (c : ℕ) (change : ChangeView) (answer : Result ℕ EditRefused) (l m : Ledger K V M O) → Kept means puts l → Edits c change answer l m → Kept means puts m
  kept_edits c change (Ok revision) l m k s = kept_turns_if (is_turn revision) (edited l change) m (kept_edited l change k) (late_edited l change k) s.4
  kept_edits c change (Err refused) l m k s = subst (Kept means puts) (sym s.2) k

  -- ---- withdraw

  withdrawn_true : (inputs : Table) (a : ℕ) (want : Want K) → IsDemand want → a ≤ inputs.revision → IsTrueOutcome means inputs a WasWithdrawn want inputs.revision Withdrawn
  withdrawn_true inputs a (Demand key) d h = (refl, h, omega arith)
  withdrawn_true inputs a (Fixed text) d h = absurd d

  -- a request that is owed is one for an answer, past those put
  owed_demand : (inputs : Table) (qs : List (ReplyView K V M)) (c n : ℕ) (entry : Entry K V M) (place : Place K V M) → IsOwed place → PlaceKept means inputs qs c n entry place
      → (length qs ≤ n) × IsDemand entry.request.want
  owed_demand inputs qs c n entry Waiting o x = x
  owed_demand inputs qs c n entry (Running run started out) o x = (x.0, x.1)
  owed_demand inputs qs c n entry (Ready reply) o x = absurd o
  owed_demand inputs qs c n entry Put o x = absurd o
  owed_demand inputs qs c n entry Dropped o x = absurd o

  kept_withdrawn : (l : Ledger K V M O) (qs : List (ReplyView K V M)) (c n : ℕ) (label : Label) (x y : Entry K V M) → EntryKept means l.inputs qs c n x
      → WithdrawsEntry l c label n x y → EntryKept means l.inputs qs c n y
  kept_withdrawn l qs c n label x y k (inl w) =
      let o = owed_demand l.inputs qs c n x x.place w.0.owed k.placed in
      subst (λ (e : Entry K V M). EntryKept means l.inputs qs c n e) (sym w.1)
      (record {
        past = k.past;
        placed = (o.0, record { client = refl; number = refl; request = refl; outcome = withdrawn_true l.inputs x.accepted x.request.want o.1 k.past });
      })
  kept_withdrawn l qs c n label x y k (inr w) = subst (λ (e : Entry K V M). EntryKept means l.inputs qs c n e) (sym w.1) k

  kept_each : (l : Ledger K V M O) (qs : List (ReplyView K V M)) (c : ℕ) (label : Label) (before after : List (Entry K V M)) → ClientKept means l.inputs qs c before
      → WithdrawsEach l c label before after → ClientKept means l.inputs qs c after
  kept_each l qs c label before after k w = record {
    few = let a : length qs ≤ length before = k.few in let b : length after ≡ length before = w.long in omega arith;
    each = λ n y h.
        let lt : n < length after = get_within after n y h in
        let same : length after ≡ length before = w.long in
        let there = get_there before n (omega arith) in
        kept_withdrawn l qs c n label there.0 y (k.each n there.0 there.1) (w.each n there.0 y there.1 h);
  }

  pub kept_withdraws : (c : ℕ) (label : Label) (answer : Result Bool WithdrawFault) (l m : Ledger K V M O) → Kept means puts l → Withdraws c label answer l m → Kept means puts m
  kept_withdraws c label (Ok answer) l m k s =
      subst (Kept means puts) (sym s.3.2)
      (kept_client means puts l c _ k (kept_each l (puts s.0.outbox) c label s.0.entries s.3.0 (k.clients c s.0 s.1.here) s.3.1))
  kept_withdraws c label (Err fault) l m k s = subst (Kept means puts) (sym s.1) k

  -- another outbox with the same replies put
  kept_outbox : (l : Ledger K V M O) (c : ℕ) (client : Client K V M O) (o : O) (refused : Bool) → slice_get l.clients c ≡ Some client → puts o ≡ puts client.outbox
      → Kept means puts l → Kept means puts (with_client l c (with_outbox client o refused))
  kept_outbox l c client o refused here e k =
      kept_client means puts l c _ k
      (subst (λ (qs : List (ReplyView K V M)). ClientKept means l.inputs qs c client.entries) (sym e) (k.clients c client here))

  pub kept_releases : (takes : O → List (ReplyView K V M)) (was_full was_gone : O → Type 0) (c : ℕ) (answer : Released) (l m : Ledger K V M O) → Kept means puts l → Releases puts takes was_full was_gone c answer l m → Kept means puts m
  kept_releases takes was_full was_gone c (ReleasedPut n) l m k s =
      let next = s.0 in
      let client = next.client in
      let ready = s.1.ready in
      let ck = k.clients c client s.1.here in
      subst (Kept means puts) (sym s.3.3)
      (kept_client means puts l c _ k
      (subst (λ (qs : List (ReplyView K V M)). ClientKept means l.inputs qs c (slice_set client.entries n (moved_to next.entry Put))) (sym s.3.1)
      (subst (λ (i : ℕ). ClientKept means l.inputs (puts client.outbox ++ next.reply ∷ []) c (slice_set client.entries i (moved_to next.entry Put))) (sym s.2)
      (kept_put means l.inputs (puts client.outbox) c client.entries next.entry next.reply ck ready.here ready.ready))))
  kept_releases takes was_full was_gone c ReleasedFull l m k s =
      subst (Kept means puts) (sym s.2.3) (kept_outbox l c s.0.client s.2.0 true s.1.here s.2.1.puts_same k)
  kept_releases takes was_full was_gone c ReleasedGone l m k s =
      subst (Kept means puts) (sym s.2.3) (kept_outbox l c s.0.client s.2.0 true s.1.here s.2.1.puts_same k)
  kept_releases takes was_full was_gone c ReleasedNothing l m k s = subst (Kept means puts) (sym s.1) k

  pub kept_closes : (c : ℕ) (answer : Option O) (l m : Ledger K V M O) → Kept means puts l → Closes c answer l m → Kept means puts m
  kept_closes c (Some o) l m k s =
      subst (Kept means puts) (sym s.3)
      (kept_client means puts l c _ k (kept_close means l.inputs (puts s.0.outbox) c s.0.entries (k.clients c s.0 s.1.here)))
  kept_closes c None l m k s = subst (Kept means puts) (sym s.1) k

  pub kept_takes : {A : Type 0} (takes : O → List (ReplyView K V M)) (c : ℕ) (answer : Result Bool A) (l m : Ledger K V M O) → Kept means puts l → TakesOut puts takes c answer l m → Kept means puts m
  kept_takes takes c (Ok true) l m k s =
      subst (Kept means puts) (sym s.2.3) (kept_outbox l c s.0 s.2.0 s.0.refused s.1.here s.2.1 k)
  kept_takes takes c (Ok false) l m k s = subst (Kept means puts) (sym s.1) k
  kept_takes takes c (Err failure) l m k s = subst (Kept means puts) (sym s) k
