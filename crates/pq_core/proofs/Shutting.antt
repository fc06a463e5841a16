-- Each move leaves a closed client closed, with the same outbox. A middle term: only proofs need it.
use Rattle.std.proofs.Common.{◌≡◌, ℕ, ◌<◌, Bool, true, false, List, [], ◌∷◌, length, slice_get, slice_set, Option, Some, None, refl, sym, ◌∙◌, ap, subst, inl, inr, arith}
use Rattle.std.specs.Prelude.{Ok, Err, Result}
use Rattle.pq_rules.specs.declared.turn.Answer.{Answer}
use Rattle.pq_core.specs.Points.{Point}
use Rattle.pq_core.specs.Replies.{ReplyView}
use Rattle.pq_core.proofs.Lists.{get_longer, get_within, get_there, set_same, set_other, same_or_other}
use Rattle.pq_core.specs.Ledger.{Client, Ledger, IsClosed, opened}
use Rattle.pq_core.specs.Moves.{Opens, Accepts, Edits, Starts, LooksFor, Gives, Starves, Withdraws, Releases, Closes, TakesOut, Turns, TurnsIf, edited, is_turn}
use Rattle.pq_core.specs.Changes.{ChangeView}
use Rattle.pq_core.specs.Works.{DoneView, WorkView}
use Rattle.pq_core.specs.declared.values.label.Label.{Label}
use Rattle.pq_core.specs.declared.values.request.Request.{Request}
use Rattle.pq_core.specs.declared.values.moves.Move.{Move}
use Rattle.pq_core.specs.declared.values.moves.Move.TheVariants.{Carry, Blocked, Stepped as MoveStepped, Answered as MoveAnswered, Stopped as MoveStopped}
use Rattle.pq_core.specs.declared.values.moves.Released.{Released}
use Rattle.pq_core.specs.declared.values.moves.Released.TheVariants.{Put as ReleasedPut, Full as ReleasedFull, Gone as ReleasedGone, Nothing as ReleasedNothing}
use Rattle.pq_core.specs.declared.values.fault.LookFault.{LookFault}
use Rattle.pq_core.specs.declared.values.fault.LookFault.TheVariants.{NoRun, Memory as LookMemory}
use Rattle.pq_core.specs.declared.values.fault.GiveRefused.{GiveRefused}
use Rattle.pq_core.specs.declared.values.fault.OpenRefused.{OpenRefused}
use Rattle.pq_core.specs.declared.values.fault.AcceptRefused.{AcceptRefused}
use Rattle.pq_core.specs.declared.values.fault.EditRefused.{EditRefused}
use Rattle.pq_core.specs.declared.values.fault.WithdrawFault.{WithdrawFault}

not_both : (b : Bool) → b ≡ true → b ≡ false → ⊥
not_both b e f = cc

module _ {K V M O : Type 0} where
  -- the closed client `c` of `l` is one of `m` too, with the same outbox
  abbrev pub Stays : (l : Ledger K V M O) (c : ℕ) → IsClosed l c → Ledger K V M O → Type 0
  Stays l c shut m = (after : IsClosed m c) × (after.client.outbox ≡ shut.client.outbox)

  some_one : (x y : Client K V M O) → Some x ≡ Some y → x ≡ y
  some_one x y e = cc

  stays_as : (l m : Ledger K V M O) (c : ℕ) (shut : IsClosed l c) → m ≡ l → Stays l c shut m
  stays_as l m c shut e = subst (Stays l c shut) (sym e) (shut, refl)

  -- the client `d` is another, which is closed with the same outbox if it was closed
  stays_set : (l m : Ledger K V M O) (c : ℕ) (shut : IsClosed l c) (d : ℕ) (found other : Client K V M O) → slice_get l.clients d ≡ Some found
      → (found.is_open ≡ false → (other.is_open ≡ false) × (other.outbox ≡ found.outbox))
      → m.clients ≡ slice_set l.clients d other → Stays l c shut m
  stays_set l m c shut d found other here alike e =
      let w : (client : Client K V M O) × (slice_get (slice_set l.clients d other) c ≡ Some client) × (client.is_open ≡ false) × (client.outbox ≡ shut.client.outbox) =
      elim (same_or_other c d) [
        | inl same ↦
            let is : shut.client ≡ found = some_one shut.client found (sym shut.here ∙ ap (slice_get l.clients) same ∙ here) in
            let a = alike (sym (ap (λ (x : Client K V M O). x.is_open) is) ∙ shut.closed) in
            (other, ap (slice_get (slice_set l.clients d other)) same ∙ set_same l.clients d other (get_within l.clients d found here), a.0, a.1 ∙ sym (ap (λ (x : Client K V M O). x.outbox) is))
        | inr apart ↦ (shut.client, set_other l.clients d other c apart ∙ shut.here, shut.closed, refl)
      ] in
      (record { client = w.0; here = ap (λ (xs : List (Client K V M O)). slice_get xs c) e ∙ w.1; closed = w.2 }, w.3)

  -- a client that has the same outbox and is as open
  stays_alike : (l m : Ledger K V M O) (c : ℕ) (shut : IsClosed l c) (d : ℕ) (found other : Client K V M O) → slice_get l.clients d ≡ Some found
      → other.is_open ≡ found.is_open → other.outbox ≡ found.outbox → m.clients ≡ slice_set l.clients d other → Stays l c shut m
  stays_alike l m c shut d found other here e f set = stays_set l m c shut d found other here (λ g. (e ∙ g, f)) set

  -- a client that is open
  stays_open : (l m : Ledger K V M O) (c : ℕ) (shut : IsClosed l c) (d : ℕ) (found other : Client K V M O) → slice_get l.clients d ≡ Some found
      → found.is_open ≡ true → m.clients ≡ slice_set l.clients d other → Stays l c shut m
  stays_open l m c shut d found other here e set = stays_set l m c shut d found other here (λ g. absurd (not_both found.is_open e g)) set

  clients_of : (l m : Ledger K V M O) → m ≡ l → m.clients ≡ l.clients
  clients_of l m e = ap (λ (x : Ledger K V M O). x.clients) e

  pub shut_opens : (c : ℕ) (outbox : O) (answer : Result ℕ (OpenRefused O)) (l m : Ledger K V M O) (shut : IsClosed l c) → Opens outbox answer l m → Stays l c shut m
  shut_opens c outbox (Ok n) l m shut s =
      subst (Stays l c shut) (sym s.2)
      (record { client = shut.client; here = get_longer l.clients (opened outbox ∷ []) c shut.client shut.here; closed = shut.closed }, refl)
  shut_opens c outbox (Err refused) l m shut s = stays_as l m c shut s.2

  pub shut_accepts : (puts : O → List (ReplyView K V M)) (c d : ℕ) (request : Request K) (answer : Result ℕ (AcceptRefused K)) (l m : Ledger K V M O) (shut : IsClosed l c) → Accepts puts d request answer l m → Stays l c shut m
  shut_accepts puts c d request (Ok n) l m shut s = stays_open l m c shut d s.0 _ s.1.here s.1.open_yet (clients_of _ m s.4)
  shut_accepts puts c d request (Err refused) l m shut s = stays_as l m c shut s.2

  -- a turn ends runs, and leaves each client as open as it was
  shut_turns : (l m : Ledger K V M O) (c : ℕ) (shut : IsClosed l c) → Turns l m → Stays l c shut m
  shut_turns l m c shut t =
      let lt : c < length l.clients = get_within l.clients c shut.client shut.here in
      let same : length m.clients ≡ length l.clients = t.long in
      let there = get_there m.clients c (omega arith) in
      let w = t.each c shut.client there.0 shut.here there.1 in
      (record { client = there.0; here = there.1; closed = w.is_open ∙ shut.closed }, w.outbox)

  shut_turns_if : (test : Bool) (l m : Ledger K V M O) (c : ℕ) (shut : IsClosed l c) → TurnsIf test l m → Stays l c shut m
  shut_turns_if true l m c shut t = shut_turns l m c shut t
  shut_turns_if false l m c shut e = stays_as l m c shut e

  pub shut_edits : (c d : ℕ) (change : ChangeView) (answer : Result ℕ EditRefused) (l m : Ledger K V M O) (shut : IsClosed l c) → Edits d change answer l m → Stays l c shut m
  shut_edits c d change (Ok revision) l m shut s =
      let w = shut_turns_if (is_turn revision) (edited l change) m c (record { client = shut.client; here = shut.here; closed = shut.closed }) s.4 in
      (w.0, w.1)
  shut_edits c d change (Err refused) l m shut s = stays_as l m c shut s.2

  pub shut_starts : (c : ℕ) (answer : Option ℕ) (l m : Ledger K V M O) (shut : IsClosed l c) → Starts answer l m → Stays l c shut m
  shut_starts c (Some run) l m shut s = stays_alike l m c shut s.0 s.1 _ s.4.is_entry.client_here refl refl (clients_of _ m s.6)
  shut_starts c None l m shut s = stays_as l m c shut s.1

  pub shut_looks : {R P : Type 0} (means : M → Point → K → Answer K V → Type 0) (rules : R) (c run : ℕ) (answer : Result (Move (WorkView R K P V)) LookFault) (l m : Ledger K V M O) (shut : IsClosed l c) → LooksFor means rules run answer l m → Stays l c shut m
  shut_looks means rules c run (Ok (Carry work)) l m shut s = stays_alike l m c shut s.0.c s.0.client _ s.1.runs.is_entry.client_here refl refl (clients_of _ m s.3)
  shut_looks means rules c run (Ok (Blocked other)) l m shut s = stays_as l m c shut s.4
  shut_looks means rules c run (Ok MoveStepped) l m shut s = stays_as l m c shut s.2
  shut_looks means rules c run (Ok MoveAnswered) l m shut s = stays_alike l m c shut s.0.c s.0.client _ s.1.runs.is_entry.client_here refl refl (clients_of _ m s.2.3)
  shut_looks means rules c run (Ok MoveStopped) l m shut s = stays_alike l m c shut s.0.c s.0.client _ s.1.is_entry.client_here refl refl (clients_of _ m s.3)
  shut_looks means rules c run (Err NoRun) l m shut s = stays_as l m c shut s.1
  shut_looks means rules c run (Err LookMemory) l m shut s = stays_as l m c shut s.2

  pub shut_gives : {R P : Type 0} (c run : ℕ) (done : DoneView R K P V) (answer : Result (Move (WorkView R K P V)) (GiveRefused (DoneView R K P V))) (l m : Ledger K V M O) (shut : IsClosed l c) → Gives run done answer l m → Stays l c shut m
  shut_gives c run done (Ok (Carry work)) l m shut s = absurd s
  shut_gives c run done (Ok (Blocked other)) l m shut s = absurd s
  shut_gives c run done (Ok MoveStepped) l m shut s = stays_alike l m c shut s.0.c s.0.client _ s.1.is_entry.client_here refl refl (clients_of _ m s.4)
  shut_gives c run done (Ok MoveAnswered) l m shut s = absurd s
  shut_gives c run done (Ok MoveStopped) l m shut s = stays_alike l m c shut s.0.c s.0.client _ s.1.is_entry.client_here refl refl (clients_of _ m s.4)
  shut_gives c run done (Err refused) l m shut s = stays_as l m c shut s.2

  pub shut_starves : (c run : ℕ) (answer : Bool) (l m : Ledger K V M O) (shut : IsClosed l c) → Starves run answer l m → Stays l c shut m
  shut_starves c run true l m shut s = stays_alike l m c shut s.0.c s.0.client _ s.1.is_entry.client_here refl refl (clients_of _ m s.2)
  shut_starves c run false l m shut s = stays_as l m c shut s.1

  pub shut_withdraws : (c d : ℕ) (label : Label) (answer : Result Bool WithdrawFault) (l m : Ledger K V M O) (shut : IsClosed l c) → Withdraws d label answer l m → Stays l c shut m
  shut_withdraws c d label (Ok some) l m shut s = stays_alike l m c shut d s.0 _ s.1.here refl refl (clients_of _ m s.3.2)
  shut_withdraws c d label (Err fault) l m shut s = stays_as l m c shut s.1

  pub shut_releases : (puts takes : O → List (ReplyView K V M)) (was_full was_gone : O → Type 0) (c d : ℕ) (answer : Released) (l m : Ledger K V M O) (shut : IsClosed l c) → Releases puts takes was_full was_gone d answer l m → Stays l c shut m
  shut_releases puts takes was_full was_gone c d (ReleasedPut n) l m shut s = stays_open l m c shut d s.0.client _ s.1.here s.1.ready.open_yet (clients_of _ m s.3.3)
  shut_releases puts takes was_full was_gone c d ReleasedFull l m shut s = stays_open l m c shut d s.0.client _ s.1.here s.1.ready.open_yet (clients_of _ m s.2.3)
  shut_releases puts takes was_full was_gone c d ReleasedGone l m shut s = stays_open l m c shut d s.0.client _ s.1.here s.1.ready.open_yet (clients_of _ m s.2.3)
  shut_releases puts takes was_full was_gone c d ReleasedNothing l m shut s = stays_as l m c shut s.1

  pub shut_closes : (c d : ℕ) (answer : Option O) (l m : Ledger K V M O) (shut : IsClosed l c) → Closes d answer l m → Stays l c shut m
  shut_closes c d (Some o) l m shut s = stays_open l m c shut d s.0 _ s.1.here s.1.open_yet (clients_of _ m s.3)
  shut_closes c d None l m shut s = stays_as l m c shut s.1

  pub shut_takes : {A : Type 0} (puts takes : O → List (ReplyView K V M)) (c d : ℕ) (answer : Result Bool A) (l m : Ledger K V M O) (shut : IsClosed l c) → TakesOut puts takes d answer l m → Stays l c shut m
  shut_takes puts takes c d (Ok true) l m shut s = stays_open l m c shut d s.0 _ s.1.here s.1.open_yet (clients_of _ m s.2.3)
  shut_takes puts takes c d (Ok false) l m shut s = stays_as l m c shut s.1
  shut_takes puts takes c d (Err failure) l m shut s = stays_as l m c shut s
