-- Auxiliary: the runs of a ledger, each at its request, and the results that are kept for them.
use Rattle.std.specs.Prelude.{ℕ, ◌≡◌, ◌≢◌, ◌<◌, List, slice_get, Option, Some, None}
use Rattle.std.specs.Ordering.{nat_cmp}
use Rattle.std.specs.BTreeMap.{BTreeMap, get}
use Rattle.pq_core.specs.Works.{DoneView, WorkView}
use Rattle.pq_core.specs.Ledger.{Out, Place, Waiting, Running, Ready, Put, Dropped, Entry, Client, Ledger}
use Rattle.pq_core.specs.Moves.{out_of}
use Rattle.pq_core.specs.declared.values.moves.Move.{Move}
use Rattle.pq_core.specs.declared.values.moves.Move.TheVariants.{Carry, Blocked, Stepped, Answered, Stopped}

-- `Run K` is a run: its number, the revision of its start, and its work that is out
pub record Run (K : Type 0) : Type 0 where
  pub number : ℕ
  pub started : ℕ
  pub out : Option (Out K)

-- `run_in place` is the run of a request in `place`
abbrev pub run_in : {K V M : Type 0} → Place K V M → Option (Run K)
run_in Waiting = None
run_in (Running run started out) = Some (record { number = run; started = started; out = out })
run_in (Ready reply) = None
run_in Put = None
run_in Dropped = None

-- `run_of entry` is the run of `entry`
abbrev pub run_of : {K V M : Type 0} → Option (Entry K V M) → Option (Run K)
run_of None = None
run_of (Some entry) = run_in entry.place

-- `run_among client n` is the run of the request `n` of `client`
abbrev pub run_among : {K V M O : Type 0} → Option (Client K V M O) → ℕ → Option (Run K)
run_among None n = None
run_among (Some client) n = run_of (slice_get client.entries n)

-- `run_at clients c n` is the run of the request `n` of the client `c`
abbrev pub run_at : {K V M O : Type 0} → List (Client K V M O) → ℕ → ℕ → Option (Run K)
run_at clients c n = run_among (slice_get clients c) n

-- `RunsKept l` is that runs are numbered from 0 on, each once
pub record RunsKept {K V M O : Type 0} (l : Ledger K V M O) : Type 0 where
  pub below : (c n : ℕ) (a : Run K) → run_at l.clients c n ≡ Some a → a.number < l.runs
  pub once : (c n d k : ℕ) (a b : Run K) → run_at l.clients c n ≡ Some a → run_at l.clients d k ≡ Some b → a.number ≡ b.number → (c ≡ d) × (n ≡ k)

-- `IsKeptFor rules l r done` is that `done` is a result for the run `r`, which was started, of
-- `rules` over the sources of the revision of its start; and that it is that of the work of `r` that
-- is out, if `r` exists
pub record IsKeptFor {R K P V M O : Type 0} (rules : R) (l : Ledger K V M O) (r : ℕ) (done : DoneView R K P V) : Type 0 where
  pub run_same : done.run ≡ r
  pub rules_same : done.rules ≡ rules
  pub files : slice_get l.inputs.history done.started ≡ Some done.files
  pub known : r < l.runs
  pub of_run : (c n : ℕ) (a : Run K) → run_at l.clients c n ≡ Some a → a.number ≡ r → (done.started ≡ a.started) × (a.out ≡ Some (out_of done))

-- `OutOf rules l r kept` is that the result `kept` is that of the work of the run `r` that is out,
-- if `r` exists
abbrev pub OutOf : {R K P V M O : Type 0} → R → Ledger K V M O → ℕ → Option (DoneView R K P V) → Type 0
OutOf {R} {K} {P} {V} {M} {O} rules l r None = (c n : ℕ) (a : Run K) → run_at l.clients c n ≡ Some a → a.number ≡ r → a.out ≡ None
OutOf rules l r (Some done) = IsKeptFor rules l r done

-- `done_of map r` is the result that is kept for the run `r`
abbrev pub done_of : {D : Type 0} → BTreeMap ℕ D → ℕ → Option D
done_of map r = get nat_cmp map r

-- `IsPut before after_it r kept` is that `kept` is what is kept for the run `r`, and that what is
-- kept for the others is the same
pub record IsPut {D : Type 0} (before after_it : ℕ → Option D) (r : ℕ) (kept : Option D) : Type 0 where
  pub here : after_it r ≡ kept
  pub others : (q : ℕ) → q ≢ r → after_it q ≡ before q

-- `IsSame before after_it` is that the same results are kept
abbrev pub IsSame : {D : Type 0} → (ℕ → Option D) → (ℕ → Option D) → Type 0
IsSame before after_it = (q : ℕ) → after_it q ≡ before q

-- `KeepsMove run move before after_it` is that what a step of `run` came to is kept
abbrev pub KeepsMove : {R K P V : Type 0} → ℕ → Move (WorkView R K P V) → (before after_it : ℕ → Option (DoneView R K P V)) → Type 0
KeepsMove run (Carry work) before after_it = IsPut before after_it work.done.run (Some work.done)
KeepsMove run (Blocked other) before after_it = IsSame before after_it
KeepsMove run Stepped before after_it = IsSame before after_it
KeepsMove run Answered before after_it = IsSame before after_it
KeepsMove run Stopped before after_it = IsPut before after_it run None
