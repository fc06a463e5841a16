-- One step of a run in its store, which takes the run out, lets it step and puts it back: what stays, what
-- the step comes to, and how the ledger goes on.
use Rattle.std.proofs.Common.{◌≡◌, ℕ, List, Option, Some, None, refl, sym, ◌∙◌, ap, subst}
use Rattle.std.specs.Prelude.{false, Ok, Err, Result, IfErr, IfOk, OnErr, OnOk}
use Rattle.std.specs.Option.{option_map}
use Rattle.std.specs.declared.cmp.Ordering.{Ordering}
use Rattle.pq_inputs.specs.Sources.{Table}
use Rattle.pq_rules.specs.Turns.{Machine}
use Rattle.pq_rules.proofs.Weight.{Exact}
use Rattle.pq_rules.specs.Relations.{In}
use Rattle.pq_memo.specs.Sound.{Memo}
use Rattle.pq_memo.specs.Steps.{IsWhy}
use Rattle.pq_memo.specs.Cause.{IsCause}
use Rattle.pq_memo.specs.Table.{View, memo_at, HasIn}
use Rattle.pq_memo.specs.declared.table.look.Why.{Why}
use Rattle.pq_claims.specs.Claims.{AreSound, Hold, hold_of}
use Rattle.pq_core.specs.Points.{Point}
use Rattle.pq_core.specs.Ledger.{Ledger, Out}
use Rattle.pq_core.specs.Moves.{Gives, GoesOn, IsOf, Looks, RunAt, Runs, Starves, Stops, out_of, with_out}
use Rattle.pq_core.specs.RightReply.{answer_by}
use Rattle.pq_core.specs.Starts.{IsCounted, IsCountedIn, Log}
use Rattle.pq_core.specs.Stores.{Goes, IsWhole, StandsFor, StandsOf, StoreView, held, run_seen}
use Rattle.pq_core.specs.Told.{Told, told_puts}
use Rattle.pq_core.specs.Works.{DoneView, WorkView}
use Rattle.pq_core.specs.Accounts.{AccountView}
use Rattle.pq_core.specs.aux.Rising.{Slots, found}
use Rattle.pq_core.specs.aux.Runs.{AreClaimed, AreStale, ClosesRing, HandedOut, HasLooked, IsSameRun, OthersHold, Renewed, RunView, out_at, run_keys}
use Rattle.pq_core.specs.aux.Begun.{LooksFirst}
use Rattle.pq_core.specs.aux.Changes.{IsSetAt}
use Rattle.pq_core.specs.aux.RunSteps.{RunStepped, step_state}
use Rattle.pq_core.specs.aux.RunStates.{IsCurrentRun, IsReady, SameClients, Steps, StepsTo, log_stepped}
use Rattle.pq_core.specs.declared.runs.frames.Looked.{Looked}
use Rattle.pq_core.specs.declared.runs.frames.Looked.TheVariants.{Carry, Stepped, Blocked, Ring}
use Rattle.pq_core.specs.declared.values.moves.Move.TheVariants.{Carry as MoveCarry, Stepped as MoveStepped, Stopped as MoveStopped}
use Rattle.pq_core.specs.declared.values.fault.GiveFault.TheVariants.{Memory as GiveMemory}
use Rattle.pq_core.proofs.Changing.{if_at}
use Rattle.pq_core.proofs.Claiming.{holder_there}
use Rattle.pq_core.proofs.Keeping.{kept_out}
use Rattle.pq_core.proofs.Renewed.{renewed_then}
use Rattle.pq_core.proofs.Lists.{some_one}
use Rattle.pq_core.proofs.Making.{all_same, goes_by}
use Rattle.pq_core.proofs.RunsKept.{closes_still, stepped_runs}
use Rattle.pq_core.proofs.StoreAccepting.{run_past}
use Rattle.pq_core.proofs.StoreStepping.{step_whole}
use Rattle.pq_core.proofs.StoreCounting.{Taken, carried_counted, stepped_counted}
use Rattle.pq_core.proofs.StoreRunning.{RunHere, SameBut, back_moved, carry_moved, current, fits_of, give_moved, give_refused, goes_on, no_run, not_fitting, out_moved, run_here, run_is, seen_moved, why_then}

module _ {R K P V M : Type 0} (store : StoreView R K P V M) (r : ℕ) (run kept : RunView K P) where
  -- the run that is current is the one that is there
  pub current_here : IsCurrentRun store r kept → found store.runs.items r ≡ Some run → IsCurrentRun store r run
  current_here c here = subst (λ (x : RunView K P). IsCurrentRun store r x) (some_one kept run (sym c.here ∙ here)) c

  -- and so is its work that is out
  pub out_here : {o : Option (Out K)} → found store.runs.items r ≡ Some run → IsCurrentRun store r kept → out_at kept.top ≡ o → out_at run.top ≡ o
  out_here {o} here c out = subst (λ (x : RunView K P). out_at x.top ≡ o) (some_one kept run (sym c.here ∙ here)) out

-- what follows from what a clause says after an error
pub on_err : {X Y : Type 0} {A B : Type 0} (answer : Result X Y) → OnErr answer A → (A → B) → IfErr answer (λ failure. B)
on_err (Ok x) a f = tt
on_err (Err e) a f = f a

-- what follows from what two clauses say after an error
pub if_err : {X Y : Type 0} {B C : Type 0} (done : Y) (answer : Result X Y) → IfErr answer (λ back. back ≡ done) → OnErr answer B → (B → C) → IfErr answer (λ back. (back ≡ done) × C)
if_err done (Ok x) a b f = tt
if_err done (Err e) a b f = (a, f b)

-- what follows from what a clause says after no error
pub on_ok : {X Y : Type 0} {A B : Type 0} (answer : Result X Y) → OnOk answer A → (A → B) → IfOk answer (λ value. B)
on_ok (Ok x) a f = f a
on_ok (Err e) a f = tt

module _ {R K P V M : Type 0} (b a : StoreView R K P V M) (c : SameClients b a) where
  -- clients and accounts are the same
  pub same_accounts : (k : ℕ) → found a.accounts.items k ≡ found b.accounts.items k
  same_accounts k = ap (λ (s : Slots (AccountView K V M)). found s.items k) c.accounts

  pub same_but : SameBut (held b) (held a)
  same_but = record { inputs = c.inputs; opened = c.opened; clients = c.clients; started = c.started }

module _ {R K P V M : Type 0} (order : K → K → Ordering) (m : Machine K P V) (point : M → Point) (stamp : M) (b : StoreView R K P V M) (w : IsWhole order m point stamp b) (r : ℕ) (was : RunView K P)
    (current_was : IsCurrentRun b r was) where
  -- a run that is current was started now
  pub began_now : was.started ≡ b.inputs.revision
  began_now =
      (current order m point told_puts (held b) w.ledger.0 r was w.ledger.1 (run_here order m point told_puts (held b) w.ledger.0 r was w.ledger.1 current_was.here) current_was.early).1

module _ {R K P V M : Type 0} (order : K → K → Ordering) (machine : R → Machine K P V) (point : M → Point) (stamp : M) (b : StoreView R K P V M) (w : IsWhole order (machine b.rules) point stamp b)
    (memos : View R K V) (runs : Slots (RunView K P)) (claims : List (ℕ × Hold K)) (r : ℕ) (was run : RunView K P) (current_was : IsCurrentRun b r was) (set : IsSetAt b.runs runs r (Some run))
    (same : IsSameRun was run)
    (stepped : RunStepped order machine b.inputs r (step_state (record { rules = b.rules; places = b.places }) b.claims was.stack was.top) (step_state memos claims run.stack run.top)) where
  -- the store after the run was put back
  abbrev pub left : StoreView R K P V M
  left = record b { rules = memos.rules; places = memos.places; runs = runs; claims = claims }

  -- the step
  abbrev pub the_steps : Steps order (machine b.rules) b r left
  the_steps = record {
    was = was;
    current = current_was;
    now = began_now order (machine b.rules) point stamp b w r was current_was;
    run = run;
    set = set.found;
    same = same;
    begun = stepped.begun;
    renewed = stepped.renewed;
    clients = record { rules = stepped.rules; inputs = refl; accounts = refl; opened = refl; clients = refl; started = refl };
  }

  -- and the invariant after it
  pub still_whole : AreSound b.claims → AreSound claims → IsWhole order (machine memos.rules) point stamp left
  still_whole sound sound_after =
      subst (λ (x : R). IsWhole order (machine x) point stamp (record b { rules = x; places = memos.places; runs = runs; claims = claims })) (sym stepped.rules)
      (step_whole order (machine b.rules) point stamp b memos.places runs claims w stepped.ready.kept (set.above b.started) set.room
      (stepped_runs order machine b.inputs (record { rules = b.rules; places = b.places }) memos b.claims claims b.runs.items runs.items r was run current_was.here set.found same
      (began_now order (machine b.rules) point stamp b w r was current_was)
      (λ s y h. run_past order (machine b.rules) point told_puts (held b) w.ledger.0 s y w.ledger.1 h) sound sound_after stepped w.runs)
      (some_ledger w.ledger.0 w.ledger.1))
    where
      some_ledger : (l : Ledger K V M (Told K V M)) → StandsFor order (machine b.rules) point b l
          → (n : Ledger K V M (Told K V M)) × StandsOf order (machine b.rules) point told_puts (record (held b) { runs = runs.items }) n
      some_ledger l s =
          let x = run_here order (machine b.rules) point told_puts (held b) l r was s current_was.here in (
            with_out l r x.at (out_at run.top),
            out_moved order (machine b.rules) point told_puts (held b) (record (held b) { runs = runs.items }) l r was run x s current_was.here same set.found (λ k. refl)
                (record { inputs = refl; opened = refl; clients = refl; started = refl })
                (kept_out (answer_by order (machine b.rules) point) told_puts l r x.at (out_at run.top) s.kept x.runs),
          )

module _ {R K P V M : Type 0} (order : K → K → Ordering) (m : Machine K P V) where
  -- the run that is ready is the one that is there
  pub ready_here : (store : StoreView R K P V M) (r : ℕ) (run kept : RunView K P) → IsReady order m store r kept → found store.runs.items r ≡ Some run → IsReady order m store r run
  ready_here store r run kept ready here = subst (λ (x : RunView K P). IsReady order m store r x) (some_one kept run (sym ready.current.here ∙ here)) ready

  pub was_idle : (b a : StoreView R K P V M) (r : ℕ) (kept : RunView K P) → IsReady order m b r kept → (s : Steps order m b r a) → out_at s.was.top ≡ None
  was_idle b a r kept ready s = (ready_here b r s.was kept ready s.current.here).idle

module _ {R K P V M : Type 0} (order : K → K → Ordering) (machine : R → Machine K P V) where
  -- what the step comes to
  pub step_looked : {E : Type 0} (b a : StoreView R K P V M) (r : ℕ) (s : Steps order (machine b.rules) b r a) (answer : Result (Looked (WorkView R K P V) K) E)
      → ((k : K) (why : Why K) → IsWhy (machine b.rules) b.inputs.history b.inputs.revision (HasIn (memo_at order b.places)) k why → IsCause order (machine b.rules) b.inputs.history b.inputs.revision (HasIn (memo_at order b.places)) k why)
      → AreClaimed b.claims b.runs.items → OthersHold r b.claims a.claims → AreStale (machine b.rules) b.inputs.revision (memo_at order a.places) (run_keys s.run.stack s.run.top)
      → IfOk answer (λ w. HasLooked order machine b.inputs (record { rules = b.rules; places = b.places }) a.claims r s.run.top w) → IfOk answer (λ w. StepsTo order (machine b.rules) b r a w)
  step_looked b a r s (Ok (Carry work)) cause claimed others stale x =
      (s, x, why_then _ _ work.done.front work.why x.why (λ why w. cause work.done.key why w))
  step_looked b a r s (Ok Stepped) cause claimed others stale x = (s, x)
  step_looked b a r s (Ok (Blocked other)) cause claimed others stale x =
      let there = holder_there b.claims b.runs.items other x.1.1.0 claimed (subst (λ (ks : List K). In x.1.1.0 ks) (others other x.1.0).0 x.1.1.2) in
      (s, x.0, x.1, (there.0, there.1))
  step_looked b a r s (Ok (Ring ring)) cause claimed others stale x =
      (s, x.0, closes_still order (machine b.rules) b.inputs (memo_at order b.places) (memo_at order a.places) a.claims r s.run.stack s.run.top ring.items s.renewed stale x.1)
  step_looked b a r s (Err failure) cause claimed others stale x = tt

  -- a step that starts no rule
  pub went_on : (exact : Exact order) (b a : StoreView R K P V M) (r : ℕ) (s : Steps order (machine b.rules) b r a) (log : Log K) → IsCountedIn order (machine b.rules) b log
      → IsCounted order b.inputs.revision (λ k. Taken (machine b.rules) b.inputs.revision (memo_at order a.places) a.runs.items k) log
  went_on exact b a r s log counted =
      stepped_counted order exact (machine b.rules) b.inputs log (memo_at order b.places) (memo_at order a.places) b.runs.items a.runs.items r s.was s.current.here s.run s.renewed s.set s.same s.begun counted

  -- the starts are bounded still
  pub step_counted : {E : Type 0} (exact : Exact order) (b a : StoreView R K P V M) (r : ℕ) (s : Steps order (machine b.rules) b r a) (answer : Result (Looked (WorkView R K P V) K) E) (log : Log K)
      → AreSound a.claims → AreClaimed b.claims b.runs.items → OthersHold r b.claims a.claims
      → (hold_of a.claims r).keys ≡ run_keys s.run.stack s.run.top → AreStale (machine b.rules) b.inputs.revision (memo_at order a.places) (run_keys s.run.stack s.run.top)
      → IfOk answer (λ w. HasLooked order machine b.inputs (record { rules = b.rules; places = b.places }) a.claims r s.run.top w) → IfOk answer (λ w. LooksFirst s.was.stack s.was.top w)
      → IsCountedIn order (machine b.rules) b log → IsCounted order b.inputs.revision (λ k. Taken (machine b.rules) b.inputs.revision (memo_at order a.places) a.runs.items k) (log_stepped b r answer log)
  step_counted exact b a r s (Ok (Carry work)) log sound claimed others mine stale x first counted =
      carried_counted order exact (machine b.rules) b.inputs log (memo_at order b.places) (memo_at order a.places) b.runs.items a.runs.items r s.was s.current.here s.run s.renewed s.set s.same s.begun
      b.claims a.claims s.now sound claimed others mine stale (out_of work.done) work.why x.out first counted
  step_counted exact b a r s (Ok Stepped) log sound claimed others mine stale x first counted = went_on exact b a r s log counted
  step_counted exact b a r s (Ok (Blocked other)) log sound claimed others mine stale x first counted = went_on exact b a r s log counted
  step_counted exact b a r s (Ok (Ring ring)) log sound claimed others mine stale x first counted = went_on exact b a r s log counted
  step_counted exact b a r s (Err failure) log sound claimed others mine stale x first counted = went_on exact b a r s log counted

module _ {R K P V M : Type 0} (order : K → K → Ordering) (m : Machine K P V) (point : M → Point) where
  -- the run of a step is current and idle in the ledger
  pub ready_goes_on : (b : StoreView R K P V M) (rules : R) (r : ℕ) (run : RunView K P) → IsReady order m b r run → (l : Ledger K V M (Told K V M)) → StandsFor order m point b l
      → (at : RunAt K V M (Told K V M)) × GoesOn l r at
  ready_goes_on b rules r run ready l x = goes_on order m point told_puts rules (held b) l r run x ready.current.here ready.current.early ready.idle

  -- a call that changes nothing
  pub stays_goes : (b : StoreView R K P V M) (Move : Ledger K V M (Told K V M) → Ledger K V M (Told K V M) → Type 0) → ((l : Ledger K V M (Told K V M)) → StandsFor order m point b l → Move l l)
      → Goes order m point b b Move
  stays_goes b Move f = goes_by order m point b b Move (all_same _ _ (λ k. refl)) (λ l x. (l, f l x, x))

  -- a step that leaves the run's work as it was
  step_stays : (b a : StoreView R K P V M) (r : ℕ) (s : Steps order m b r a) → out_at s.run.top ≡ out_at s.was.top → (l : Ledger K V M (Told K V M)) → StandsFor order m point b l → StandsFor order m point a l
  step_stays b a r s out l x =
      back_moved order m point told_puts (held b) (held a) l r s.was s.run x s.current.here s.same out s.set (same_accounts b a s.clients) (same_but b a s.clients)

  pub step_goes : (b a : StoreView R K P V M) (r : ℕ) (Move : Ledger K V M (Told K V M) → Ledger K V M (Told K V M) → Type 0) (s : Steps order m b r a) → out_at s.run.top ≡ out_at s.was.top
      → ((l : Ledger K V M (Told K V M)) → StandsFor order m point b l → Move l l) → Goes order m point b a Move
  step_goes b a r Move s out f =
      goes_by order m point b a Move (all_same _ _ (same_accounts b a s.clients)) (λ l x. (l, f l x, step_stays b a r s out l x))

  -- a step and then a ring that is published
  pub ring_goes : (b i a : StoreView R K P V M) (r : ℕ) (Move : Ledger K V M (Told K V M) → Ledger K V M (Told K V M) → Type 0) (s : Steps order m b r i) → out_at s.run.top ≡ out_at s.was.top
      → (c : SameClients i a) → ((k : ℕ) → option_map run_seen (found a.runs.items k) ≡ option_map run_seen (found i.runs.items k))
      → ((l : Ledger K V M (Told K V M)) → StandsFor order m point b l → Move l l) → Goes order m point b a Move
  ring_goes b i a r Move s out c seen f =
      goes_by order m point b a Move (all_same _ _ (λ k. same_accounts i a c k ∙ same_accounts b i s.clients k))
      (λ l x. (l, f l x, seen_moved order m point told_puts (held i) (held a) l seen (same_accounts i a c) (same_but i a c) (step_stays b i r s out l x)))

  -- a step that hands work out
  pub carry_goes : (b a : StoreView R K P V M) (r : ℕ) (work : WorkView R K P V) (s : Steps order m b r a) → out_at s.was.top ≡ None
      → HandedOut m b.rules b.inputs (memo_at order b.places) r s.run.top work → Goes order m point b a (Looks order m point b.rules r (Ok (MoveCarry work)))
  carry_goes b a r work s idle handed =
      goes_by order m point b a _ (all_same _ _ (same_accounts b a s.clients))
      (λ l x. carry_moved order m point told_puts b.rules (held b) (held a) l r s.was s.run work (memo_at order b.places) x s.current.here s.current.early idle s.same handed s.set (same_accounts b a s.clients) (same_but b a s.clients))

  -- `Fits b r done` is that `done` is of the work of the run `r` of `b` that is out
  pub record Fits (b : StoreView R K P V M) (r : ℕ) (done : DoneView R K P V) : Type 0 where
    pub run : RunView K P
    pub here : found b.runs.items r ≡ Some run
    pub fits : (done.run ≡ r) × (done.started ≡ run.started) × (out_at run.top ≡ Some (out_of done))

  -- a run that does not exist is not starved
  pub no_run_goes : (b : StoreView R K P V M) (r : ℕ) → ((run : RunView K P) × (found b.runs.items r ≡ Some run) → ⊥) → Goes order m point b b (Starves r false)
  no_run_goes b r none = stays_goes b _ (λ l x. (no_run order m point told_puts (held b) l r x (by_run (found b.runs.items r) refl), refl))
    where
      by_run : (run : Option (RunView K P)) → found b.runs.items r ≡ run → found b.runs.items r ≡ None
      by_run None e = e
      by_run (Some run) e = absurd (none (run, e))

  -- a result of no work that is out
  pub not_fits : (b : StoreView R K P V M) (rules : R) (r : ℕ) (done : DoneView R K P V) → (Fits b r done → ⊥) → (l : Ledger K V M (Told K V M)) → StandsFor order m point b l
      → (at : RunAt K V M (Told K V M)) → Runs l r at → IsOf r at done → ⊥
  not_fits b rules r done none l x at h o = by_run (found b.runs.items r) refl
    where
      by_run : (run : Option (RunView K P)) → found b.runs.items r ≡ run → ⊥
      by_run None e = no_run order m point told_puts (held b) l r x e at h
      by_run (Some run) e = not_fitting order m point told_puts rules (held b) l r run done x e (λ f. none (record { run = run; here = e; fits = f })) at h o

  -- a run that was overtaken is given its result
  pub stopped_gives : (b a : StoreView R K P V M) (rules : R) (r : ℕ) (done : DoneView R K P V) → Fits b r done → Goes order m point b a (λ l n. Stops l r n)
      → Goes order m point b a (Gives r done (Ok MoveStopped))
  stopped_gives b a rules r done f goes l x =
      let w = goes l x in
      let at = w.1.0 in
      let run : RunHere l r f.run = record { at = at; runs = w.1.1; same = run_is order m point told_puts rules (held b) l r f.run at x f.here w.1.1 } in
      (w.0, (at, w.1.1, fits_of order m point told_puts rules l r f.run done run f.fits, w.1.2, w.1.3), w.2, w.3)

  -- the result is of the work of the run that stepped
  fits_was : (b a : StoreView R K P V M) (r : ℕ) (done : DoneView R K P V) (f : Fits b r done) (s : Steps order m b r a) → (done.run ≡ r) × (done.started ≡ s.was.started) × (out_at s.was.top ≡ Some (out_of done))
  fits_was b a r done f s =
      subst (λ (x : RunView K P). (done.run ≡ r) × (done.started ≡ x.started) × (out_at x.top ≡ Some (out_of done))) (some_one f.run s.was (sym f.here ∙ s.current.here)) f.fits

  -- a run takes its result
  pub take_goes : (b a : StoreView R K P V M) (rules : R) (r : ℕ) (done : DoneView R K P V) → Fits b r done → (s : Steps order m b r a) → out_at s.run.top ≡ None
      → Goes order m point b a (Gives r done (Ok MoveStepped))
  take_goes b a rules r done f s out =
      goes_by order m point b a _ (all_same _ _ (same_accounts b a s.clients))
      (λ l x. give_moved order m point told_puts rules (held b) (held a) l r s.was s.run done x s.current.here s.current.early (fits_was b a r done f s) s.same out s.set (same_accounts b a s.clients) (same_but b a s.clients))

  -- a run could not take its result
  pub untaken_goes : (b a : StoreView R K P V M) (rules : R) (r : ℕ) (done back : DoneView R K P V) → back ≡ done → Fits b r done → (s : Steps order m b r a) → out_at s.run.top ≡ Some (out_of done)
      → Goes order m point b a (Gives r done (Err (record { fault = GiveMemory; done = back })))
  untaken_goes b a rules r done back is f s out =
      let fits = fits_was b a r done f s in
      step_goes b a r _ s (out ∙ sym fits.2) (λ l x. (is, give_refused order m point told_puts rules (held b) l r s.was done x s.current.here s.current.early fits, refl))

module _ {R K P V M : Type 0} (order : K → K → Ordering) (machine : R → Machine K P V) (b i : StoreView R K P V M) (r : ℕ) (s : Steps order (machine b.rules) b r i) where
  -- the ring that the step found closes in the store that it left
  pub closes_here : (ring : List K) → ClosesRing order (machine b.rules) b.inputs (memo_at order i.places) i.claims r s.run.top ring
      → (run : RunView K P) × (found i.runs.items r ≡ Some run) × (run.started ≡ i.inputs.revision) × ClosesRing order (machine i.rules) i.inputs (memo_at order i.places) i.claims r run.top ring
  closes_here ring closes = (
    s.run,
    s.set r ∙ if_at r (Some s.run) (found b.runs.items r),
    s.same.started ∙ (s.now ∙ ap (λ (t : Table). t.revision) (sym s.clients.inputs)),
    subst (λ (t : Table). ClosesRing order (machine i.rules) t (memo_at order i.places) i.claims r s.run.top ring) (sym s.clients.inputs)
        (subst (λ (rules : R). ClosesRing order (machine rules) b.inputs (memo_at order i.places) i.claims r s.run.top ring) (sym s.clients.rules) closes),
  )

  -- the memos after the step and the ring
  pub ring_renewed : (table : K → Option (Memo K V)) → Renewed (machine i.rules) i.inputs.revision (memo_at order i.places) table
      → Renewed (machine b.rules) b.inputs.revision (memo_at order b.places) table
  ring_renewed table again =
      renewed_then (machine b.rules) b.inputs.revision (memo_at order b.places) (memo_at order i.places) table s.renewed
      (subst (λ (t : Table). Renewed (machine b.rules) t.revision (memo_at order i.places) table) s.clients.inputs
      (subst (λ (rules : R). Renewed (machine rules) i.inputs.revision (memo_at order i.places) table) s.clients.rules again))
