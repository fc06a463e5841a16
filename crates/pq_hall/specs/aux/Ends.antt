-- The end of a run that is starved, and work in the hand of a worker.
use Rattle.std.specs.Prelude.{ℕ, ◌≡◌, true, false}
use Rattle.std.specs.declared.cmp.Ordering.{Ordering}
use Rattle.pq_rules.specs.Turns.{Machine}
use Rattle.pq_core.specs.Ledger.{Ledger}
use Rattle.pq_core.specs.Starts.{Log, IsCountedIn, log_starved_in}
use Rattle.pq_core.specs.Stores.{StoreView}
use Rattle.pq_core.specs.Works.{DoneView, WorkView}
use Rattle.pq_core.specs.Moves.{Starves}
use Rattle.pq_hall.specs.declared.running.Hand.{Hand}
use Rattle.pq_hall.specs.declared.running.Hand.TheVariants.{Look, Made, Unmade}
use Rattle.pq_hall.specs.declared.running.Next.{Next}
use Rattle.pq_hall.specs.declared.running.Next.TheVariants.{Moved, Starved, Over}

-- `Ends run next l m` is that `run` is starved, or that there is no such run
abbrev pub Ends : {K V M O W : Type 0} → ℕ → Next W → Ledger K V M O → Ledger K V M O → Type 0
Ends run (Moved moved) l m = ⊥
Ends run Starved l m = Starves run true l m
Ends run Over l m = Starves run false l m

-- `IsEnd next` is that `next` is no move of a run
abbrev pub IsEnd : {W : Type 0} → Next W → Type 0
IsEnd (Moved moved) = ⊥
IsEnd Starved = Unit {0}
IsEnd Over = Unit {0}

-- `CountsEnd order m before after run next log` is that the starts of `log` are bounded after the end of
-- `run`, with the keys that it held among those lost
abbrev pub CountsEnd : {R K P V M W : Type 0} → (K → K → Ordering) → Machine K P V → StoreView R K P V M → StoreView R K P V M → ℕ → Next W → Log K → Type 0
CountsEnd order m before after run (Moved moved) log = ⊥
CountsEnd order m before after run Starved log = IsCountedIn order m after (log_starved_in before run true log)
CountsEnd order m before after run Over log = IsCountedIn order m after log

-- `IsFor run hand` is that a result, or work that comes back, is that of `run`
abbrev pub IsFor : {R K P V : Type 0} → ℕ → Hand (WorkView R K P V) (DoneView R K P V) → Type 0
IsFor run Look = Unit {0}
IsFor run (Made done) = done.run ≡ run
IsFor run (Unmade work) = work.done.run ≡ run
