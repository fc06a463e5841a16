-- Each move of the ledger of a store is the move of the ledger of its core.
use Rattle.std.proofs.Common.{◌≡◌, ℕ, ◌+◌, ◌<◌, ◌≤◌, ◌^◌, ◌⊎◌, Bool, true, false, zero, suc, List, [], ◌∷◌, ◌++◌, map, length, slice_get, slice_set, Option, Some, None, refl, sym, ◌∙◌, ap, subst, inl, inr, arith}
use Rattle.std.specs.Prelude.{Ok, Err, Result}
use Rattle.pq_inputs.specs.Sources.{Table}
use Rattle.pq_rules.specs.declared.turn.Answer.{Answer}
use Rattle.pq_core.proofs.Lists.{get_map, get_within, get_there, map_long}
use Rattle.pq_core.specs.Points.{Point}
use Rattle.pq_core.specs.Replies.{ReplyView}
use Rattle.pq_core.specs.Changes.{ChangeView}
use Rattle.pq_core.specs.Works.{DoneView, WorkView, IsWorkOf}
use Rattle.pq_core.specs.Ledger.{Out, Running, Put, Entry, Client, Ledger, IsOpen, IsClosed, IsEntry, with_client, with_entry, with_entries, moved_to, with_outbox, opened, closed, Fate, WasStarved}
use Rattle.pq_core.specs.Moves.{one_if, open_count, window, owed, OpenRefusal, Opens, AcceptRefusal, Accepts, new_entry, with_new, TurnsClient, Turns, TurnsIf, is_turn, EditRefusal, Edits, edited, Waits, NoneWaits, Starts, started_at, RunAt, Runs, NoneRuns, IsRequestOf, ended, with_out, out_of, IsOvertaken, IsCurrent, GoesOn, IsBlocked, LooksFor, IsOf, Gives, Starves, TellsSome, WithdrawsEach, WithdrawRefusal, Withdraws, NextReady, IsReady, Releases}
use Rattle.pq_core.specs.Kept.{Kept}
use Rattle.pq_core.specs.Told.{Told, told_puts, told_client, told_ledger, IsReadyAt, NoneReadyAt, OpensNext, Shuts, TellsOne}
use Rattle.pq_core.specs.declared.values.label.Label.{Label}
use Rattle.pq_core.specs.declared.values.request.Request.{Request}
use Rattle.pq_core.specs.declared.values.outcome.Outcome.{Outcome}
use Rattle.pq_core.specs.declared.values.outcome.Outcome.TheVariants.{Answered, Cancelled, Starved}
use Rattle.pq_core.specs.declared.values.moves.Move.{Move}
use Rattle.pq_core.specs.declared.values.moves.Move.TheVariants.{Carry, Blocked, Stepped, Answered as MoveAnswered, Stopped}
use Rattle.pq_core.specs.declared.values.moves.Released.TheVariants.{Put as ReleasedPut}
use Rattle.pq_core.specs.declared.values.fault.OpenFault.{OpenFault}
use Rattle.pq_core.specs.declared.values.fault.OpenFault.TheVariants.{TooManyClients, Memory as OpenMemory}
use Rattle.pq_core.specs.declared.values.fault.AcceptFault.{AcceptFault}
use Rattle.pq_core.specs.declared.values.fault.AcceptFault.TheVariants.{NoClient as AcceptNoClient, Closed as AcceptClosed, WindowFull, Memory as AcceptMemory}
use Rattle.pq_core.specs.declared.values.fault.AcceptRefused.{AcceptRefused}
use Rattle.pq_core.specs.declared.values.fault.EditFault.{EditFault}
use Rattle.pq_core.specs.declared.values.fault.EditFault.TheVariants.{NoClient as EditNoClient, Closed as EditClosed, BadRange, Input}
use Rattle.pq_core.specs.declared.values.fault.EditRefused.{EditRefused}
use Rattle.pq_core.specs.declared.values.fault.LookFault.{LookFault}
use Rattle.pq_core.specs.declared.values.fault.LookFault.TheVariants.{NoRun, Memory as LookMemory}
use Rattle.pq_core.specs.declared.values.fault.GiveFault.{GiveFault}
use Rattle.pq_core.specs.declared.values.fault.GiveFault.TheVariants.{NotThisRun, Memory as GiveMemory}
use Rattle.pq_core.specs.declared.values.fault.GiveRefused.{GiveRefused}
use Rattle.pq_core.specs.declared.values.fault.WithdrawFault.{WithdrawFault}
use Rattle.pq_core.specs.declared.values.fault.WithdrawFault.TheVariants.{NoClient as WithdrawNoClient, Closed as WithdrawClosed}

-- ---- lists

none_is : {A P : Type 0} (y : A) → None ≡ Some y → P
none_is y e = cc

some_is : {A : Type 0} (x y : A) → Some x ≡ Some y → x ≡ y
some_is x y e = cc

pub map_get : {A B : Type 0} (f : A → B) (xs : List A) (j : ℕ) (x : A) → slice_get xs j ≡ Some x → slice_get (map f xs) j ≡ Some (f x)
map_get f [] j x h = none_is x h
map_get f (a ∷ xs) zero x h = ap (λ y. Some (f y)) (some_is a x h)
map_get f (a ∷ xs) (suc j) x h = map_get f xs j x h

pub map_set : {A B : Type 0} (f : A → B) (xs : List A) (i : ℕ) (x : A) → map f (slice_set xs i x) ≡ slice_set (map f xs) i (f x)
map_set f [] i x = refl
map_set f (a ∷ xs) zero x = refl
map_set f (a ∷ xs) (suc i) x = ap (λ ys. f a ∷ ys) (map_set f xs i x)

pub map_more : {A B : Type 0} (f : A → B) (xs : List A) (x : A) → map f (xs ++ x ∷ []) ≡ map f xs ++ f x ∷ []
map_more f [] x = refl
map_more f (a ∷ xs) x = ap (λ ys. f a ∷ ys) (map_more f xs x)

module _ {K V M O : Type 0} (puts : O → List (ReplyView K V M)) where
  pub told_count : (clients : List (Client K V M O)) → open_count (map (told_client puts) clients) ≡ open_count clients
  unfolding open_count
  told_count [] = refl
  told_count (x ∷ xs) = ap (λ (n : ℕ). one_if x.is_open + n) (told_count xs)

  pub told_long : (l : Ledger K V M O) → length (told_ledger puts l).clients ≡ length l.clients
  told_long l = map_long (told_client puts) l.clients

  -- ---- clients

  -- `ClientOf l c x` is the client `c` of `l`, which a store knows as `x`
  pub record ClientOf (l : Ledger K V M O) (c : ℕ) (x : Client K V M (Told K V M)) : Type 0 where
    pub client : Client K V M O
    pub here : slice_get l.clients c ≡ Some client
    pub is : x ≡ told_client puts client

  pub client_of : (l : Ledger K V M O) (c : ℕ) (x : Client K V M (Told K V M)) → slice_get (told_ledger puts l).clients c ≡ Some x → ClientOf l c x
  client_of l c x h =
      let w = get_map (told_client puts) l.clients c x h in
      record { client = w.0; here = w.1; is = w.2 }

  pub told_here : (l : Ledger K V M O) (c : ℕ) (client : Client K V M O) → slice_get l.clients c ≡ Some client
      → slice_get (told_ledger puts l).clients c ≡ Some (told_client puts client)
  told_here l c client h = map_get (told_client puts) l.clients c client h

  pub told_set : (l : Ledger K V M O) (c : ℕ) (client : Client K V M O) → told_ledger puts (with_client l c client) ≡ with_client (told_ledger puts l) c (told_client puts client)
  told_set l c client =
      ap (λ (xs : List (Client K V M (Told K V M))). record { inputs = l.inputs; clients = xs; runs = l.runs }) (map_set (told_client puts) l.clients c client)

  -- a client that is written
  pub told_with : (l : Ledger K V M O) (c : ℕ) (client : Client K V M O) (other : Client K V M (Told K V M)) (n : Ledger K V M (Told K V M))
      → n ≡ with_client (told_ledger puts l) c other → other ≡ told_client puts client → told_ledger puts (with_client l c client) ≡ n
  told_with l c client other n e is =
      told_set l c client ∙ (ap (λ (y : Client K V M (Told K V M)). with_client (told_ledger puts l) c y) (sym is) ∙ sym e)

  pub told_open : (l : Ledger K V M O) (c : ℕ) (client : Client K V M O) → IsOpen l c client → IsOpen (told_ledger puts l) c (told_client puts client)
  told_open l c client o = record { here = told_here l c client o.here; open_yet = o.open_yet }

  pub open_told : (l : Ledger K V M O) (c : ℕ) (x : Client K V M (Told K V M)) → IsOpen (told_ledger puts l) c x
      → (client : Client K V M O) × IsOpen l c client × (x ≡ told_client puts client)
  open_told l c x o =
      let w = client_of l c x o.here in
      (w.client, record { here = w.here; open_yet = ap (λ (y : Client K V M (Told K V M)). y.is_open) (sym w.is) ∙ o.open_yet }, w.is)

  pub closed_told : (l : Ledger K V M O) (c : ℕ) → IsClosed (told_ledger puts l) c → IsClosed l c
  closed_told l c o =
      let w = client_of l c o.client o.here in
      record { client = w.client; here = w.here; closed = ap (λ (y : Client K V M (Told K V M)). y.is_open) (sym w.is) ∙ o.closed }

  -- ---- requests

  pub told_entry : (l : Ledger K V M O) (c : ℕ) (client : Client K V M O) (n : ℕ) (entry : Entry K V M) → IsEntry l c client n entry
      → IsEntry (told_ledger puts l) c (told_client puts client) n entry
  told_entry l c client n entry e = record { client_here = told_here l c client e.client_here; here = e.here }

  pub entry_told : (l : Ledger K V M O) (c : ℕ) (x : Client K V M (Told K V M)) (n : ℕ) (entry : Entry K V M) → IsEntry (told_ledger puts l) c x n entry
      → (client : Client K V M O) × IsEntry l c client n entry × (x ≡ told_client puts client)
  entry_told l c x n entry e =
      let w = client_of l c x e.client_here in
      (w.client, record { client_here = w.here; here = ap (λ (y : Client K V M (Told K V M)). slice_get y.entries n) (sym w.is) ∙ e.here }, w.is)

  pub told_ready : (l : Ledger K V M O) (c n : ℕ) (entry : Entry K V M) (reply : ReplyView K V M) → IsReadyAt l c n entry reply → IsReadyAt (told_ledger puts l) c n entry reply
  told_ready l c n entry reply r = record { client = told_client puts r.client; is_entry = told_entry l c r.client n entry r.is_entry; ready = r.ready }

  pub ready_told : (l : Ledger K V M O) (c n : ℕ) (entry : Entry K V M) (reply : ReplyView K V M) → IsReadyAt (told_ledger puts l) c n entry reply → IsReadyAt l c n entry reply
  ready_told l c n entry reply r =
      let w = entry_told l c r.client n entry r.is_entry in
      record { client = w.0; is_entry = w.1; ready = r.ready }

  pub told_none : (l : Ledger K V M O) (c n : ℕ) → NoneReadyAt l c n → NoneReadyAt (told_ledger puts l) c n
  told_none l c n none entry reply r = none entry reply (ready_told l c n entry reply r)

  pub none_told : (l : Ledger K V M O) (c n : ℕ) → NoneReadyAt (told_ledger puts l) c n → NoneReadyAt l c n
  none_told l c n none entry reply r = none entry reply (told_ready l c n entry reply r)

  pub told_waits : (l : Ledger K V M O) (c : ℕ) (client : Client K V M O) (n : ℕ) (entry : Entry K V M) → Waits l c client n entry
      → Waits (told_ledger puts l) c (told_client puts client) n entry
  told_waits l c client n entry w = record { is_entry = told_entry l c client n entry w.is_entry; waits = w.waits }

  pub none_waits_told : (l : Ledger K V M O) → NoneWaits (told_ledger puts l) → NoneWaits l
  none_waits_told l none c client n entry w = none c (told_client puts client) n entry (told_waits l c client n entry w)

  pub told_none_waits : (l : Ledger K V M O) → NoneWaits l → NoneWaits (told_ledger puts l)
  told_none_waits l none c x n entry w =
      let a = entry_told l c x n entry w.is_entry in
      none c a.0 n entry (record { is_entry = a.1; waits = w.waits })

  -- ---- runs

  -- `told_at at` is the run `at` as a store knows it
  abbrev pub told_at : RunAt K V M O → RunAt K V M (Told K V M)
  told_at at = record { c = at.c; client = told_client puts at.client; n = at.n; entry = at.entry; started = at.started; out = at.out }

  -- `RunOf l run x` is the run `run` of `l`, which a store knows as `x`
  pub record RunOf (l : Ledger K V M O) (run : ℕ) (x : RunAt K V M (Told K V M)) : Type 0 where
    pub at : RunAt K V M O
    pub runs : Runs l run at
    pub is : x ≡ told_at at

  pub run_of : (l : Ledger K V M O) (run : ℕ) (x : RunAt K V M (Told K V M)) → Runs (told_ledger puts l) run x → RunOf l run x
  run_of l run x r =
      let w = entry_told l x.c x.client x.n x.entry r.is_entry in
      record {
        at = record { c = x.c; client = w.0; n = x.n; entry = x.entry; started = x.started; out = x.out };
        runs = record { is_entry = w.1; runs = r.runs };
        is = ap (λ (y : Client K V M (Told K V M)). record { c = x.c; client = y; n = x.n; entry = x.entry; started = x.started; out = x.out }) w.2;
      }

  pub told_runs : (l : Ledger K V M O) (run : ℕ) (at : RunAt K V M O) → Runs l run at → Runs (told_ledger puts l) run (told_at at)
  told_runs l run at r = record { is_entry = told_entry l at.c at.client at.n at.entry r.is_entry; runs = r.runs }

  pub none_runs_told : (l : Ledger K V M O) (run : ℕ) → NoneRuns (told_ledger puts l) run → NoneRuns l run
  none_runs_told l run none at r = none (told_at at) (told_runs l run at r)

  pub told_none_runs : (l : Ledger K V M O) (run : ℕ) → NoneRuns l run → NoneRuns (told_ledger puts l) run
  told_none_runs l run none x r = let w = run_of l run x r in none w.at w.runs

  pub request_told : (l : Ledger K V M O) (run : ℕ) (answer : Option (ℕ × ℕ)) → IsRequestOf (told_ledger puts l) run answer → IsRequestOf l run answer
  request_told l run (Some named) w =
      let a = run_of l run w.0 w.1 in (
        a.at,
        a.runs,
        w.2 ∙ ap (λ (x : RunAt K V M (Told K V M)). x.c) a.is,
        w.3 ∙ ap (λ (x : RunAt K V M (Told K V M)). x.n) a.is,
      )
  request_told l run None w = none_runs_told l run w

  told_ended : (l : Ledger K V M O) (at : RunAt K V M O) (fate : Fate) (outcome : Outcome K V M)
      → told_ledger puts (ended l at fate outcome) ≡ ended (told_ledger puts l) (told_at at) fate outcome
  told_ended l at fate outcome = told_set l at.c (with_entry at.client at.n _)

  told_out : (l : Ledger K V M O) (run : ℕ) (at : RunAt K V M O) (out : Option (Out K)) → told_ledger puts (with_out l run at out) ≡ with_out (told_ledger puts l) run (told_at at) out
  told_out l run at out = told_set l at.c (with_entry at.client at.n _)

  -- ---- clients with other requests

  -- a client as a store knows it, from its fields
  told_as : (x : Client K V M O) (y : Client K V M (Told K V M)) → y.outbox ≡ puts x.outbox → y.is_open ≡ x.is_open → y.refused ≡ false → y ≡ told_client puts (with_entries x y.entries)
  told_as x y o b f =
      ap (λ (t : Told K V M). record { entries = y.entries; outbox = t; is_open = y.is_open; refused = y.refused }) o
      ∙ (ap (λ (t : Bool). record { entries = y.entries; outbox = puts x.outbox; is_open = t; refused = y.refused }) b
      ∙ ap (λ (t : Bool). record { entries = y.entries; outbox = puts x.outbox; is_open = x.is_open; refused = t }) f)

  -- `relist xs ys` is the clients `xs`, each with the requests of that of `ys` in its place
  abbrev pub relist : List (Client K V M O) → List (Client K V M (Told K V M)) → List (Client K V M O)
  relist [] ys = []
  relist (x ∷ xs) [] = x ∷ xs
  relist (x ∷ xs) (y ∷ ys) = with_entries x y.entries ∷ relist xs ys

  relist_long : (xs : List (Client K V M O)) (ys : List (Client K V M (Told K V M))) → length (relist xs ys) ≡ length xs
  relist_long [] ys = refl
  relist_long (x ∷ xs) [] = refl
  relist_long (x ∷ xs) (y ∷ ys) = ap suc (relist_long xs ys)

  relist_get : (xs : List (Client K V M O)) (ys : List (Client K V M (Told K V M))) (c : ℕ) (x : Client K V M O) (y : Client K V M (Told K V M)) (z : Client K V M O)
      → slice_get xs c ≡ Some x → slice_get ys c ≡ Some y → slice_get (relist xs ys) c ≡ Some z → z ≡ with_entries x y.entries
  relist_get [] ys c x y z h g f = none_is x h
  relist_get (a ∷ xs) [] c x y z h g f = none_is y g
  relist_get (a ∷ xs) (b ∷ ys) zero x y z h g f =
      sym (some_is (with_entries a b.entries) z f)
      ∙ (ap (λ (v : Client K V M O). with_entries v b.entries) (some_is a x h)
      ∙ ap (λ (v : Client K V M (Told K V M)). with_entries x v.entries) (some_is b y g))
  relist_get (a ∷ xs) (b ∷ ys) (suc c) x y z h g f = relist_get xs ys c x y z h g f

  relist_told : (xs : List (Client K V M O)) (ys : List (Client K V M (Told K V M))) → length ys ≡ length xs
      → ((c : ℕ) (x : Client K V M O) (y : Client K V M (Told K V M)) → slice_get xs c ≡ Some x → slice_get ys c ≡ Some y → y ≡ told_client puts (with_entries x y.entries))
      → map (told_client puts) (relist xs ys) ≡ ys
  relist_told [] [] long each = refl
  relist_told [] (y ∷ ys) long each = absurd (omega arith)
  relist_told (x ∷ xs) [] long each = absurd (omega arith)
  relist_told (x ∷ xs) (y ∷ ys) long each =
      ap (λ (v : Client K V M (Told K V M)). v ∷ map (told_client puts) (relist xs ys)) (sym (each zero x y refl refl))
      ∙ ap (λ (vs : List (Client K V M (Told K V M))). y ∷ vs) (relist_told xs ys (omega arith) (λ c a b h g. each (suc c) a b h g))

  -- ---- the moves

  -- `Lifts Move l n` is that `Move` leads from `l` to a ledger that a store knows as `n`
  abbrev pub Lifts : (Ledger K V M O → Ledger K V M O → Type 0) → Ledger K V M O → Ledger K V M (Told K V M) → Type 0
  Lifts Move l n = (m : Ledger K V M O) × Move l m × (told_ledger puts m ≡ n)

  pub refusal_told : (l : Ledger K V M O) (fault : OpenFault) → OpenRefusal (told_ledger puts l) fault → OpenRefusal l fault
  refusal_told l TooManyClients h =
      let a = told_count l.clients in
      let b = told_long l in
      elim h [ inl w ↦ inl (omega arith) | inr w ↦ inr (omega arith) ]
  refusal_told l OpenMemory h = let a = told_count l.clients in omega arith

  pub opens_told : (outbox : O) (c : ℕ) (l : Ledger K V M O) (n : Ledger K V M (Told K V M)) → puts outbox ≡ [] → OpensNext (Ok c) (told_ledger puts l) n → Lifts (Opens outbox (Ok c)) l n
  opens_told outbox c l n none (c_is, few, e) = (
    record { inputs = l.inputs; clients = l.clients ++ opened outbox ∷ []; runs = l.runs },
    (c_is ∙ told_long l, (let a = told_count l.clients in omega arith), refl),
    ap (λ (xs : List (Client K V M (Told K V M))). record { inputs = l.inputs; clients = xs; runs = l.runs }) (map_more (told_client puts) l.clients (opened outbox))
        ∙ (ap (λ (o : Told K V M). record { inputs = l.inputs; clients = map (told_client puts) l.clients ++ opened o ∷ []; runs = l.runs }) none ∙ sym e),
  )

  pub accept_refusal_told : (l : Ledger K V M O) (c : ℕ) (fault : AcceptFault) → AcceptRefusal told_puts (told_ledger puts l) c fault → AcceptRefusal puts l c fault
  accept_refusal_told l c AcceptNoClient h = let a = told_long l in omega arith
  accept_refusal_told l c AcceptClosed h = closed_told l c h
  accept_refusal_told l c WindowFull (x, is_open, full) =
      let w = open_told l c x is_open in
      (w.0, w.1, subst (λ (y : Client K V M (Told K V M)). (window ≤ owed told_puts y) ⊎ (2 ^ 64 ≤ length y.entries + 1)) w.2 full)
  accept_refusal_told l c AcceptMemory (x, is_open, few) =
      let w = open_told l c x is_open in
      (w.0, w.1, subst (λ (y : Client K V M (Told K V M)). owed told_puts y < window) w.2 few)

  pub accepts_told : (c : ℕ) (request : Request K) (answer : Result ℕ (AcceptRefused K)) (l : Ledger K V M O) (n : Ledger K V M (Told K V M))
      → Accepts told_puts c request answer (told_ledger puts l) n → Lifts (Accepts puts c request answer) l n
  accepts_told c request (Ok k) l n (x, is_open, k_is, few, e) =
      let w = open_told l c x is_open in (
        with_client l c (with_new w.0 (new_entry c k request l.inputs.revision)),
        (
          w.0,
          w.1,
          k_is ∙ ap (λ (y : Client K V M (Told K V M)). length y.entries) w.2,
          subst (λ (y : Client K V M (Told K V M)). owed told_puts y < window) w.2 few,
          refl,
        ),
        told_with l c (with_new w.0 (new_entry c k request l.inputs.revision)) (with_new x (new_entry c k request l.inputs.revision)) n e
            (ap (λ (y : Client K V M (Told K V M)). with_new y (new_entry c k request l.inputs.revision)) w.2),
      )
  accepts_told c request (Err refused) l n (same, why, e) = (l, (same, accept_refusal_told l c refused.fault why, refl), sym e)

  pub edit_refusal_told : (l : Ledger K V M O) (c : ℕ) (change : ChangeView) (fault : EditFault) → EditRefusal (told_ledger puts l) c change fault → EditRefusal l c change fault
  edit_refusal_told l c change EditNoClient h = let a = told_long l in omega arith
  edit_refusal_told l c change EditClosed h = closed_told l c h
  edit_refusal_told l c change BadRange (x, is_open, why) = let w = open_told l c x is_open in (w.0, w.1, why)
  edit_refusal_told l c change (Input fault) (x, is_open, why) = let w = open_told l c x is_open in (w.0, w.1, why)

  turn_told : (l : Ledger K V M O) (c : ℕ) (x : Client K V M O) (y : Client K V M (Told K V M)) → TurnsClient (told_ledger puts l) c (told_client puts x) y
      → TurnsClient l c x (with_entries x y.entries)
  turn_told l c x y t = record { outbox = refl; is_open = refl; refused = refl; long = t.long; each = t.each }

  -- a turn, at which no outbox changes
  pub turns_told : (l : Ledger K V M O) (n : Ledger K V M (Told K V M)) → Turns (told_ledger puts l) n → Lifts Turns l n
  turns_told l n t =
      let long : length n.clients ≡ length l.clients = t.long ∙ told_long l in (
        record { inputs = l.inputs; clients = relist l.clients n.clients; runs = l.runs },
        record {
          inputs = refl;
          runs = refl;
          long = relist_long l.clients n.clients;
          each = λ c x z here there.
              let lt : c < length l.clients = get_within l.clients c x here in
              let y = get_there n.clients c (omega arith) in
              subst (λ (v : Client K V M O). TurnsClient l c x v) (sym (relist_get l.clients n.clients c x y.0 z here y.1 there))
              (turn_told l c x y.0 (t.each c (told_client puts x) y.0 (told_here l c x here) y.1));
        },
        ap (λ (xs : List (Client K V M (Told K V M))). record { inputs = l.inputs; clients = xs; runs = l.runs })
            (relist_told l.clients n.clients long (λ c x y here there. let w = t.each c (told_client puts x) y (told_here l c x here) there in told_as x y w.outbox w.is_open w.refused))
            ∙ (ap (λ (i : Table). record { inputs = i; clients = n.clients; runs = l.runs }) (sym t.inputs)
            ∙ ap (λ (k : ℕ). record { inputs = n.inputs; clients = n.clients; runs = k }) (sym t.runs)),
      )

  pub turns_if_told : (test : Bool) (l : Ledger K V M O) (n : Ledger K V M (Told K V M)) → TurnsIf test (told_ledger puts l) n → Lifts (TurnsIf test) l n
  turns_if_told true l n t = turns_told l n t
  turns_if_told false l n e = (l, refl, sym e)

  pub edits_told : (c : ℕ) (change : ChangeView) (answer : Result ℕ EditRefused) (l : Ledger K V M O) (n : Ledger K V M (Told K V M))
      → Edits c change answer (told_ledger puts l) n → Lifts (Edits c change answer) l n
  edits_told c change (Ok revision) l n (x, is_open, allowed, r_is, t) =
      let w = open_told l c x is_open in
      let m = turns_if_told (is_turn revision) (edited l change) n t in
      (m.0, (w.0, w.1, allowed, r_is, m.1), m.2)
  edits_told c change (Err refused) l n (same, why, e) = (l, (same, edit_refusal_told l c change refused.fault why, refl), sym e)

  pub starts_told : (answer : Option ℕ) (l : Ledger K V M O) (n : Ledger K V M (Told K V M)) → Starts answer (told_ledger puts l) n → Lifts (Starts answer) l n
  starts_told (Some run) l n (c, x, i, entry, waits, run_is, e) =
      let w = entry_told l c x i entry waits.is_entry in
      let after = with_entry w.0 i (moved_to entry (Running run l.inputs.revision None)) in (
        started_at l run c w.0 i entry,
        (c, w.0, i, entry, record { is_entry = w.1; waits = waits.waits }, run_is, refl),
        ap (λ (xs : List (Client K V M (Told K V M))). record { inputs = l.inputs; clients = xs; runs = l.runs + 1 }) (map_set (told_client puts) l.clients c after)
            ∙ (ap (λ (y : Client K V M (Told K V M)). started_at (told_ledger puts l) run c y i entry) (sym w.2) ∙ sym e),
      )
  starts_told None l n (why, e) = (l, (elim why [ inl w ↦ inl (none_waits_told l w) | inr w ↦ inr w ], refl), sym e)

  -- ---- runs that go on and end

  overtaken_told : (l : Ledger K V M O) (x : RunAt K V M (Told K V M)) (at : RunAt K V M O) → x ≡ told_at at → IsOvertaken (told_ledger puts l) x → IsOvertaken l at
  overtaken_told l x at is h = subst (λ (y : RunAt K V M (Told K V M)). IsOvertaken (told_ledger puts l) y) is h

  current_told : (l : Ledger K V M O) (x : RunAt K V M (Told K V M)) (at : RunAt K V M O) → x ≡ told_at at → IsCurrent (told_ledger puts l) x → IsCurrent l at
  current_told l x at is h =
      let y = subst (λ (y : RunAt K V M (Told K V M)). IsCurrent (told_ledger puts l) y) is h in
      record { now = y.now; open_yet = y.open_yet }

  goes_told : (l : Ledger K V M O) (run : ℕ) (x : RunAt K V M (Told K V M)) (w : RunOf l run x) → GoesOn (told_ledger puts l) run x → GoesOn l run w.at
  goes_told l run x w h = record {
    runs = w.runs;
    current = current_told l x w.at w.is h.current;
    idle = ap (λ (y : RunAt K V M (Told K V M)). y.out) (sym w.is) ∙ h.idle;
  }

  stops_told : (run : ℕ) (l : Ledger K V M O) (n : Ledger K V M (Told K V M)) (x : RunAt K V M (Told K V M)) (w : RunOf l run x)
      → n ≡ ended (told_ledger puts l) x x.entry.fate (Cancelled x.started l.inputs.revision)
      → told_ledger puts (ended l w.at w.at.entry.fate (Cancelled w.at.started l.inputs.revision)) ≡ n
  stops_told run l n x w e =
      told_ended l w.at w.at.entry.fate (Cancelled w.at.started l.inputs.revision)
      ∙ (ap (λ (y : RunAt K V M (Told K V M)). ended (told_ledger puts l) y y.entry.fate (Cancelled y.started l.inputs.revision)) (sym w.is) ∙ sym e)

  out_told : (run : ℕ) (out : Option (Out K)) (l : Ledger K V M O) (n : Ledger K V M (Told K V M)) (x : RunAt K V M (Told K V M)) (w : RunOf l run x)
      → n ≡ with_out (told_ledger puts l) run x out → told_ledger puts (with_out l run w.at out) ≡ n
  out_told run out l n x w e = told_out l run w.at out ∙ (ap (λ (y : RunAt K V M (Told K V M)). with_out (told_ledger puts l) run y out) (sym w.is) ∙ sym e)

  blocked_told : (l : Ledger K V M O) (run other : ℕ) (x : RunAt K V M (Told K V M)) (w : RunOf l run x) → IsBlocked (told_ledger puts l) run x other → IsBlocked l run w.at other
  blocked_told l run other x w h = elim h [
    | inl a ↦ inl ((a.0.0, ap (λ (y : RunAt K V M (Told K V M)). y.out) (sym w.is) ∙ a.0.1), a.1)
    | inr a ↦
        let b = run_of l other a.2.0 a.2.1 in
        let s : b.at.started ≡ a.2.0.started = ap (λ (y : RunAt K V M (Told K V M)). y.started) (sym b.is) in
        let t : w.at.started ≡ x.started = ap (λ (y : RunAt K V M (Told K V M)). y.started) (sym w.is) in
        let u : a.2.0.started ≤ x.started = a.2.2 in
        inr (ap (λ (y : RunAt K V M (Told K V M)). y.out) (sym w.is) ∙ a.0, a.1, (b.at, b.runs, omega arith))
  ]

  pub looks_told : {R P : Type 0} (means : M → Point → K → Answer K V → Type 0) (rules : R) (run : ℕ) (answer : Result (Move (WorkView R K P V)) LookFault) (l : Ledger K V M O) (n : Ledger K V M (Told K V M))
      → LooksFor means rules run answer (told_ledger puts l) n → Lifts (LooksFor means rules run answer) l n
  looks_told means rules run (Ok (Carry work)) l n (x, goes, is_work, e) =
      let w = run_of l run x goes.runs in (
        with_out l run w.at (Some (out_of work.done)),
        (
          w.at,
          goes_told l run x w goes,
          subst (λ (y : RunAt K V M (Told K V M)). IsWorkOf rules run y.started l.inputs.files work) w.is is_work,
          refl,
        ),
        out_told run (Some (out_of work.done)) l n x w e,
      )
  looks_told means rules run (Ok (Blocked other)) l n (x, runs, current, blocked, e) =
      let w = run_of l run x runs in
      (l, (w.at, w.runs, current_told l x w.at w.is current, blocked_told l run other x w blocked, refl), sym e)
  looks_told means rules run (Ok Stepped) l n (x, goes, e) =
      let w = run_of l run x goes.runs in
      (l, (w.at, goes_told l run x w goes, refl), sym e)
  looks_told means rules run (Ok MoveAnswered) l n (x, goes, (answer, stamp, so, e)) =
      let w = run_of l run x goes.runs in (
        ended l w.at w.at.entry.fate (Answered answer stamp),
        (
          w.at,
          goes_told l run x w goes,
          (
            answer,
            stamp,
            record {
              key = so.key;
              demanded = ap (λ (y : RunAt K V M (Told K V M)). y.entry.request.want) (sym w.is) ∙ so.demanded;
              is_value = so.is_value;
            },
            refl,
          ),
        ),
        told_ended l w.at w.at.entry.fate (Answered answer stamp)
            ∙ (ap (λ (y : RunAt K V M (Told K V M)). ended (told_ledger puts l) y y.entry.fate (Answered answer stamp)) (sym w.is) ∙ sym e),
      )
  looks_told means rules run (Ok Stopped) l n (x, runs, over, e) =
      let w = run_of l run x runs in (
        ended l w.at w.at.entry.fate (Cancelled w.at.started l.inputs.revision),
        (w.at, w.runs, overtaken_told l x w.at w.is over, refl),
        stops_told run l n x w e,
      )
  looks_told means rules run (Err NoRun) l n (none, e) = (l, (none_runs_told l run none, refl), sym e)
  looks_told means rules run (Err LookMemory) l n (x, goes, e) =
      let w = run_of l run x goes.runs in
      (l, (w.at, goes_told l run x w goes, refl), sym e)

  of_told : {R P : Type 0} (run : ℕ) (done : DoneView R K P V) (l : Ledger K V M O) (x : RunAt K V M (Told K V M)) (w : RunOf l run x) → IsOf run x done → IsOf run w.at done
  of_told run done l x w h = record {
    run_same = h.run_same;
    started = h.started ∙ ap (λ (y : RunAt K V M (Told K V M)). y.started) w.is;
    out = ap (λ (y : RunAt K V M (Told K V M)). y.out) (sym w.is) ∙ h.out;
  }

  give_refused_told : {R P : Type 0} (run : ℕ) (done given : DoneView R K P V) (fault : GiveFault) (l : Ledger K V M O) (n : Ledger K V M (Told K V M))
      → Gives run done (Err (record { fault = fault; done = given })) (told_ledger puts l) n → Lifts (Gives run done (Err (record { fault = fault; done = given }))) l n
  give_refused_told run done given NotThisRun l n (same, why, e) =
      (l, (same, λ at r its. why (told_at at) (told_runs l run at r) (record { run_same = its.run_same; started = its.started; out = its.out }), refl), sym e)
  give_refused_told run done given GiveMemory l n (same, (x, runs, its, current), e) =
      let w = run_of l run x runs in
      (l, (same, (w.at, w.runs, of_told run done l x w its, current_told l x w.at w.is current), refl), sym e)

  pub gives_told : {R P : Type 0} (run : ℕ) (done : DoneView R K P V) (answer : Result (Move (WorkView R K P V)) (GiveRefused (DoneView R K P V))) (l : Ledger K V M O) (n : Ledger K V M (Told K V M))
      → Gives run done answer (told_ledger puts l) n → Lifts (Gives run done answer) l n
  gives_told run done (Ok (Carry work)) l n h = absurd h
  gives_told run done (Ok (Blocked other)) l n h = absurd h
  gives_told run done (Ok Stepped) l n (x, runs, its, current, e) =
      let w = run_of l run x runs in
      (with_out l run w.at None, (w.at, w.runs, of_told run done l x w its, current_told l x w.at w.is current, refl), out_told run None l n x w e)
  gives_told run done (Ok MoveAnswered) l n h = absurd h
  gives_told run done (Ok Stopped) l n (x, runs, its, over, e) =
      let w = run_of l run x runs in (
        ended l w.at w.at.entry.fate (Cancelled w.at.started l.inputs.revision),
        (w.at, w.runs, of_told run done l x w its, overtaken_told l x w.at w.is over, refl),
        stops_told run l n x w e,
      )
  gives_told run done (Err refused) l n h = give_refused_told run done refused.done refused.fault l n h

  pub starves_told : (run : ℕ) (answer : Bool) (l : Ledger K V M O) (n : Ledger K V M (Told K V M)) → Starves run answer (told_ledger puts l) n → Lifts (Starves run answer) l n
  starves_told run true l n (x, runs, e) =
      let w = run_of l run x runs in (
        ended l w.at WasStarved Starved,
        (w.at, w.runs, refl),
        told_ended l w.at WasStarved Starved ∙ (ap (λ (y : RunAt K V M (Told K V M)). ended (told_ledger puts l) y WasStarved Starved) (sym w.is) ∙ sym e),
      )
  starves_told run false l n (none, e) = (l, (none_runs_told l run none, refl), sym e)

  -- ---- withdraw

  withdraw_refusal_told : (l : Ledger K V M O) (c : ℕ) (fault : WithdrawFault) → WithdrawRefusal (told_ledger puts l) c fault → WithdrawRefusal l c fault
  withdraw_refusal_told l c WithdrawNoClient h = let a = told_long l in omega arith
  withdraw_refusal_told l c WithdrawClosed h = closed_told l c h

  pub withdraws_told : (c : ℕ) (label : Label) (answer : Result Bool WithdrawFault) (l : Ledger K V M O) (n : Ledger K V M (Told K V M))
      → Withdraws c label answer (told_ledger puts l) n → Lifts (Withdraws c label answer) l n
  withdraws_told c label (Ok some) l n (x, is_open, tells, (after, each, e)) =
      let w = open_told l c x is_open in (
        with_client l c (with_entries w.0 after),
        (
          w.0,
          w.1,
          subst (λ (y : Client K V M (Told K V M)). TellsSome some label y.entries) w.2 tells,
          (after, each_told w.0 x w.2 after each, refl),
        ),
        told_with l c (with_entries w.0 after) (with_entries x after) n e (ap (λ (y : Client K V M (Told K V M)). with_entries y after) w.2),
      )
    where
      each_told : (client : Client K V M O) (x : Client K V M (Told K V M)) → x ≡ told_client puts client → (after : List (Entry K V M)) → WithdrawsEach (told_ledger puts l) c label x.entries after
          → WithdrawsEach l c label client.entries after
      each_told client x is after each =
          let w = subst (λ (y : Client K V M (Told K V M)). WithdrawsEach (told_ledger puts l) c label y.entries after) is each in
          record { long = w.long; each = w.each }
  withdraws_told c label (Err fault) l n (why, e) = (l, (withdraw_refusal_told l c fault why, refl), sym e)

  -- ---- close

  pub shuts_told : (c : ℕ) (answer : Bool) (l : Ledger K V M O) (n : Ledger K V M (Told K V M)) → Shuts c answer (told_ledger puts l) n → Lifts (Shuts c answer) l n
  shuts_told c true l n (x, is_open, e) =
      let w = open_told l c x is_open in (
        with_client l c (closed w.0),
        (w.0, w.1, refl),
        told_with l c (closed w.0) (closed x) n e (ap (λ (y : Client K V M (Told K V M)). closed y) w.2),
      )
  shuts_told c false l n (none, e) = (l, (λ client o. none (told_client puts client) (told_open l c client o), refl), sym e)

  -- ---- release

  pub told_next : (l : Ledger K V M O) (c : ℕ) (next : NextReady K V M O) → IsReady puts l c next
      → IsReady told_puts (told_ledger puts l) c (record { client = told_client puts next.client; entry = next.entry; reply = next.reply })
  told_next l c next r = record {
    here = told_here l c next.client r.here;
    ready = record { open_yet = r.ready.open_yet; here = r.ready.here; ready = r.ready.ready };
  }

  -- a store to which what was put is acknowledged
  pub told_put : (takes : O → List (ReplyView K V M)) (was_full was_gone : O → Type 0) (c k : ℕ) (l m : Ledger K V M O)
      → Releases puts takes was_full was_gone c (ReleasedPut k) l m → TellsOne c (told_ledger puts l) (told_ledger puts m)
  told_put takes was_full was_gone c k l m (next, r, k_is, (o, more, same, e)) = (
    record { client = told_client puts next.client; entry = next.entry; reply = next.reply },
    told_next l c next r,
    ap (told_ledger puts) e
        ∙ (told_set l c (with_outbox (with_entry next.client k (moved_to next.entry Put)) o false)
        ∙ (ap (λ (q : Told K V M). with_client (told_ledger puts l) c (with_outbox (with_entry (told_client puts next.client) k (moved_to next.entry Put)) q false)) more
        ∙ ap (λ (i : ℕ). with_client (told_ledger puts l) c (with_outbox (with_entry (told_client puts next.client) i (moved_to next.entry Put)) (puts next.client.outbox ++ next.reply ∷ []) false)) k_is)),
  )

  -- ---- what holds of each ledger

  pub kept_told : (means : M → Point → K → Answer K V → Type 0) (l : Ledger K V M O) → Kept means told_puts (told_ledger puts l) → Kept means puts l
  kept_told means l k = record {
    inputs = k.inputs;
    clients = λ c client h. k.clients c (told_client puts client) (told_here l c client h);
  }
