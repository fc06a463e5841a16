-- What the hand of a worker does to a store, from the one or two calls that it is.
use Rattle.std.proofs.Common.{◌≡◌, ℕ, Ok, Err, refl, sym, ap, ◌∙◌, subst, inl, inr}
use Rattle.std.specs.declared.cmp.Ordering.{Ordering}
use Rattle.pq_inputs.specs.Sources.{Table}
use Rattle.pq_rules.specs.Turns.{Machine}
use Rattle.pq_core.proofs.TwoCalls.{goes_as, goes_twice, goes_ruled}
use Rattle.pq_core.specs.Starts.{Log, IsCountedIn, log_moved_in}
use Rattle.pq_core.specs.Points.{Point}
use Rattle.pq_core.specs.Works.{DoneView, WorkView}
use Rattle.pq_core.specs.Ledger.{Ledger}
use Rattle.pq_core.specs.Moves.{Looks, Gives}
use Rattle.pq_core.specs.Told.{Told}
use Rattle.pq_core.specs.Stores.{StoreView, StandsFor, Goes, HandsOut, HasCause, NamesHolder}
use Rattle.pq_core.specs.declared.values.moves.Move.{Move}
use Rattle.pq_core.specs.declared.values.moves.Move.TheVariants.{Carry, Blocked, Stepped, Answered, Stopped}
use Rattle.pq_core.specs.declared.values.fault.LookFault.{LookFault}
use Rattle.pq_core.specs.declared.values.fault.LookFault.TheVariants.{Memory as LookMemory}
use Rattle.pq_core.specs.declared.values.fault.GiveFault.{GiveFault}
use Rattle.pq_core.specs.declared.values.fault.GiveFault.TheVariants.{NotThisRun, Memory as GiveMemory}
use Rattle.pq_core.specs.declared.values.fault.GiveRefused.{GiveRefused}
use Rattle.pq_hall.specs.declared.running.Hand.{Hand}
use Rattle.pq_hall.specs.declared.running.Hand.TheVariants.{Look, Made, Unmade}
use Rattle.pq_hall.specs.declared.running.Next.{Next}
use Rattle.pq_hall.specs.declared.running.Next.TheVariants.{Moved, Starved, Over}
use Rattle.pq_hall.specs.Steps.{CountsStep, Refuses, Steps, IsHandOf, OnMoved, no_memory}
use Rattle.pq_hall.specs.aux.Ends.{CountsEnd, Ends, IsEnd, IsFor}

pub on_end : {W : Type 0} (Says : Move W → Type 0) (next : Next W) → IsEnd next → OnMoved Says next
on_end Says (Moved moved) e = absurd e
on_end Says Starved e = tt
on_end Says Over e = tt

-- a refusal is the pair of its parts
refused_is : {D : Type 0} (refused : GiveRefused D) (fault : GiveFault) (done : D) → refused.fault ≡ fault → refused.done ≡ done → refused ≡ record { fault = fault; done = done }
refused_is {D} refused fault done e f =
    ap (λ (x : GiveFault). let r : GiveRefused D = record { fault = x; done = refused.done } in r) e
    ∙ ap (λ (d : D). let r : GiveRefused D = record { fault = fault; done = d } in r) f

-- the hand of a worker is for its run, where a rule set has one value
pub hand_is_of : {R K P V : Type 0} → ((a b : R) → a ≡ b) → (rules : R) (run task : ℕ) → run ≡ task → (hand : Hand (WorkView R K P V) (DoneView R K P V)) → IsFor task hand → IsHandOf rules run hand
hand_is_of one rules run task e Look h = tt
hand_is_of one rules run task e (Made done) h = one done.rules rules
hand_is_of one rules run task e (Unmade work) h = h ∙ sym e

module _ {R K P V M : Type 0} (order : K → K → Ordering) (machine : R → Machine K P V) (point : M → Point) (before via after : StoreView R K P V M) (run : ℕ) where
  -- `look` answers `Memory`, and then the run is starved
  pub look_starved : (next : Next (WorkView R K P V)) → via.rules ≡ before.rules
      → Goes order (machine before.rules) point before via (Looks order (machine before.rules) point before.rules run (Err LookMemory))
      → Goes order (machine via.rules) point via after (Ends run next)
      → Goes order (machine before.rules) point before after (Steps order (machine before.rules) point before.rules run Look next)
  look_starved next same first second =
      goes_twice order (machine before.rules) point before via after
      (Looks order (machine before.rules) point before.rules run (Err LookMemory))
      (Ends run next)
      (Steps order (machine before.rules) point before.rules run Look next)
      (λ l n w. w.2)
      (λ l n f w. both next l n f w)
      first
      (goes_ruled order machine point via.rules before.rules via after (Ends run next) same second)
    where
      both : (x : Next (WorkView R K P V)) (l n : Ledger K V M (Told K V M)) → Looks order (machine before.rules) point before.rules run (Err LookMemory) l l → Ends run x l n
          → Steps order (machine before.rules) point before.rules run Look x l n
      both (Moved moved) l n f w = absurd w
      both Starved l n f w = (f, w)
      both Over l n f w = w

  -- `give` answers `Memory`, and then the run is starved
  pub give_starved : (done : DoneView R K P V) (refused : GiveRefused (DoneView R K P V)) (next : Next (WorkView R K P V)) → via.rules ≡ before.rules → refused.fault ≡ GiveMemory → refused.done ≡ done
      → Goes order (machine before.rules) point before via (Gives run done (Err refused))
      → Goes order (machine via.rules) point via after (Ends run next)
      → Goes order (machine before.rules) point before after (Steps order (machine before.rules) point before.rules run (Made done) next)
  give_starved done refused next same e f first second =
      goes_twice order (machine before.rules) point before via after
      (Gives run done (Err refused))
      (Ends run next)
      (Steps order (machine before.rules) point before.rules run (Made done) next)
      (λ l n w. w.2)
      (λ l n g w. both next l n (subst (λ (x : GiveRefused (DoneView R K P V)). Gives {R = R} {K = K} {P = P} {V = V} {M = M} {O = Told K V M} run done (Err x) l l) (refused_is refused GiveMemory done e f) g) w)
      first
      (goes_ruled order machine point via.rules before.rules via after (Ends run next) same second)
    where
      both : (x : Next (WorkView R K P V)) (l n : Ledger K V M (Told K V M)) → Gives run done (Err (no_memory done)) l l → Ends run x l n
          → Steps order (machine before.rules) point before.rules run (Made done) x l n
      both (Moved moved) l n g w = absurd w
      both Starved l n g w = (inl g, w)
      both Over l n g w = inr w

  -- what a log has, where a call was refused and then the run was starved
  starved_counts : (hand : Hand (WorkView R K P V) (DoneView R K P V)) (next : Next (WorkView R K P V)) (log : Log K) → via.rules ≡ before.rules
      → Refuses order (machine before.rules) point before via run hand
      → CountsEnd order (machine via.rules) via after run next log
      → CountsStep order (machine before.rules) point before after run hand next log
  starved_counts hand (Moved moved) log same refused x = absurd x
  starved_counts hand Starved log same refused x = (via, refused, subst (λ (r : R). CountsEnd {W = WorkView R K P V} order (machine r) via after run Starved log) same x)
  starved_counts hand Over log same refused x = subst (λ (r : R). CountsEnd {W = WorkView R K P V} order (machine r) via after run Over log) same x

  -- the same of `look`
  pub look_counts : (next : Next (WorkView R K P V)) (log : Log K) → via.rules ≡ before.rules
      → Goes order (machine before.rules) point before via (Looks order (machine before.rules) point before.rules run (Err LookMemory))
      → IsCountedIn order (machine before.rules) via log
      → (IsCountedIn order (machine via.rules) via log → CountsEnd order (machine via.rules) via after run next log)
      → CountsStep order (machine before.rules) point before after run Look next log
  look_counts next log same refused counted ends =
      starved_counts Look next log same refused (ends (subst (λ (r : R). IsCountedIn order (machine r) via log) (sym same) counted))

  -- the same of `give`
  pub give_counts : (done : DoneView R K P V) (refused : GiveRefused (DoneView R K P V)) (next : Next (WorkView R K P V)) (log : Log K) → via.rules ≡ before.rules → refused.fault ≡ GiveMemory → refused.done ≡ done
      → Goes order (machine before.rules) point before via (Gives run done (Err refused))
      → IsCountedIn order (machine before.rules) via log
      → (IsCountedIn order (machine via.rules) via log → CountsEnd order (machine via.rules) via after run next log)
      → CountsStep order (machine before.rules) point before after run (Made done) next log
  give_counts done refused next log same e f first counted ends =
      let memory : Goes order (machine before.rules) point before via (Gives run done (Err (no_memory done))) =
      subst (λ (x : GiveRefused (DoneView R K P V)). Goes order (machine before.rules) point before via (Gives run done (Err x))) (refused_is refused GiveMemory done e f) first in
      starved_counts (Made done) next log same (inl memory) (ends (subst (λ (r : R). IsCountedIn order (machine r) via log) (sym same) counted))

module _ {R K P V M : Type 0} (order : K → K → Ordering) (machine : R → Machine K P V) (point : M → Point) (before after : StoreView R K P V M) (run : ℕ) where
  -- the same hand
  pub of_hand : (hand other : Hand (WorkView R K P V) (DoneView R K P V)) (next : Next (WorkView R K P V)) → hand ≡ other
      → Goes order (machine before.rules) point before after (Steps order (machine before.rules) point before.rules run other next)
      → Goes order (machine before.rules) point before after (Steps order (machine before.rules) point before.rules run hand next)
  of_hand hand other next e moved =
      subst (λ (h : Hand (WorkView R K P V) (DoneView R K P V)). Goes order (machine before.rules) point before after (Steps order (machine before.rules) point before.rules run h next)) (sym e) moved

  -- a result that is taken hands no work out
  pub given_hands : (done : DoneView R K P V) (given : Move (WorkView R K P V)) (l : Ledger K V M (Told K V M)) → StandsFor order (machine before.rules) point before l
      → Goes order (machine before.rules) point before after (Gives run done (Ok given)) → HandsOut before run given
  given_hands done given l s moved = let x = moved l s in none given x.0 x.1
    where
      none : (given : Move (WorkView R K P V)) (n : Ledger K V M (Told K V M)) → Gives run done (Ok given) l n → HandsOut before run given
      none (Carry work) n w = absurd w
      none (Blocked other) n w = tt
      none Stepped n w = tt
      none Answered n w = tt
      none Stopped n w = tt

  -- a result that is taken blocks its run on none
  pub given_holder : (done : DoneView R K P V) (given : Move (WorkView R K P V)) (l : Ledger K V M (Told K V M)) → StandsFor order (machine before.rules) point before l
      → Goes order (machine before.rules) point before after (Gives run done (Ok given)) → NamesHolder after.claims run given
  given_holder done given l s moved = let x = moved l s in none given x.0 x.1
    where
      none : (given : Move (WorkView R K P V)) (n : Ledger K V M (Told K V M)) → Gives run done (Ok given) l n → NamesHolder after.claims run given
      none (Carry work) n w = absurd w
      none (Blocked other) n w = absurd w
      none Stepped n w = tt
      none Answered n w = tt
      none Stopped n w = tt

  -- a result that is taken names no cause
  pub given_cause : (done : DoneView R K P V) (given : Move (WorkView R K P V)) (l : Ledger K V M (Told K V M)) → StandsFor order (machine before.rules) point before l
      → Goes order (machine before.rules) point before after (Gives run done (Ok given)) → HasCause order (machine before.rules) before given
  given_cause done given l s moved = let x = moved l s in none given x.0 x.1
    where
      none : (given : Move (WorkView R K P V)) (n : Ledger K V M (Told K V M)) → Gives run done (Ok given) l n → HasCause order (machine before.rules) before given
      none (Carry work) n w = absurd w
      none (Blocked other) n w = tt
      none Stepped n w = tt
      none Answered n w = tt
      none Stopped n w = tt

  -- what a log has after a result was taken
  pub given_counts : (E : Type 0) (given : Move (WorkView R K P V)) (log : Log K)
      → IsCountedIn order (machine before.rules) after (log_moved_in {E = E} before run (Ok given) log) → IsCountedIn order (machine before.rules) after (log_moved_in {E = LookFault} before run (Ok given) log)
  given_counts E (Carry work) log x = x
  given_counts E (Blocked other) log x = x
  given_counts E Stepped log x = x
  given_counts E Answered log x = x
  given_counts E Stopped log x = x

  -- what a log has after the run of a result that is not given, or of work that came back, was starved
  ungiven_counts : (hand : Hand (WorkView R K P V) (DoneView R K P V)) (next : Next (WorkView R K P V)) (log : Log K)
      → Refuses order (machine before.rules) point before before run hand → CountsEnd order (machine before.rules) before after run next log
      → CountsStep order (machine before.rules) point before after run hand next log
  ungiven_counts hand (Moved moved) log refused x = absurd x
  ungiven_counts hand Starved log refused x = (before, refused, x)
  ungiven_counts hand Over log refused x = x

  -- the same of a result
  pub result_counts : (hand : Hand (WorkView R K P V) (DoneView R K P V)) (done : DoneView R K P V) (next : Next (WorkView R K P V)) (log : Log K) → hand ≡ Made done → done.started ≡ before.inputs.revision
      → CountsEnd order (machine before.rules) before after run next log → CountsStep order (machine before.rules) point before after run hand next log
  result_counts hand done next log e now x =
      subst (λ (h : Hand (WorkView R K P V) (DoneView R K P V)). CountsStep order (machine before.rules) point before after run h next log) (sym e) (ungiven_counts (Made done) next log (inr (refl, now)) x)

  -- the same of work
  pub work_counts : (hand : Hand (WorkView R K P V) (DoneView R K P V)) (work : WorkView R K P V) (next : Next (WorkView R K P V)) (log : Log K) → hand ≡ Unmade work
      → CountsEnd order (machine before.rules) before after run next log → CountsStep order (machine before.rules) point before after run hand next log
  work_counts hand work next log e x =
      subst (λ (h : Hand (WorkView R K P V) (DoneView R K P V)). CountsStep order (machine before.rules) point before after run h next log) (sym e) (ungiven_counts (Unmade work) next log refl x)

  -- `give` refuses a result that is of no work of the run
  pub give_over : (done : DoneView R K P V) (refused : GiveRefused (DoneView R K P V)) → refused.fault ≡ NotThisRun → refused.done ≡ done
      → Goes order (machine before.rules) point before after (Gives run done (Err refused))
      → Goes order (machine before.rules) point before after (Steps order (machine before.rules) point before.rules run (Made done) Over)
  give_over done refused e f moved =
      goes_as order (machine before.rules) point before after (Gives run done (Err refused)) (Steps order (machine before.rules) point before.rules run (Made done) Over)
      (λ l n s w. inl (subst (λ (x : GiveRefused (DoneView R K P V)). Gives {R = R} {K = K} {P = P} {V = V} {M = M} {O = Told K V M} run done (Err x) l n) (refused_is refused NotThisRun done e f) w))
      moved

  -- a result of the revision now, whose mark is not that of the store, is not given
  pub stale_starved : (done : DoneView R K P V) (next : Next (WorkView R K P V)) → done.started ≡ before.inputs.revision
      → Goes order (machine before.rules) point before after (Ends run next)
      → Goes order (machine before.rules) point before after (Steps order (machine before.rules) point before.rules run (Made done) next)
  stale_starved done next e moved =
      goes_as order (machine before.rules) point before after (Ends run next) (Steps order (machine before.rules) point before.rules run (Made done) next)
      (λ l n s w. both next l n (e ∙ ap (λ (t : Table). t.revision) (sym s.inputs)) w)
      moved
    where
      both : (x : Next (WorkView R K P V)) (l n : Ledger K V M (Told K V M)) → done.started ≡ l.inputs.revision → Ends run x l n
          → Steps order (machine before.rules) point before.rules run (Made done) x l n
      both (Moved moved) l n now w = absurd w
      both Starved l n now w = (inr now, w)
      both Over l n now w = inr w

  -- work that comes back
  pub work_starved : (work : WorkView R K P V) (next : Next (WorkView R K P V))
      → Goes order (machine before.rules) point before after (Ends run next)
      → Goes order (machine before.rules) point before after (Steps order (machine before.rules) point before.rules run (Unmade work) next)
  work_starved work next moved =
      goes_as order (machine before.rules) point before after (Ends run next) (Steps order (machine before.rules) point before.rules run (Unmade work) next)
      (λ l n s w. both next l n w)
      moved
    where
      both : (x : Next (WorkView R K P V)) (l n : Ledger K V M (Told K V M)) → Ends run x l n
          → Steps order (machine before.rules) point before.rules run (Unmade work) x l n
      both (Moved moved) l n w = absurd w
      both Starved l n w = w
      both Over l n w = w
