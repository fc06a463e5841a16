-- Moves of the ledger keep its runs, and the results that are kept are those of work that is out. A
-- middle term: only proofs need it.
use Rattle.std.proofs.Common.{◌≡◌, ◌≢◌, ℕ, zero, suc, ◌+◌, ◌<◌, ◌≤◌, ◌⊎◌, Bool, true, false, List, [], ◌∷◌, ◌++◌, length, map, slice_get, slice_set, Option, Some, None, refl, sym, ◌∙◌, ap, subst, inl, inr, arith}
use Rattle.std.specs.Prelude.{Ok, Err, Result}
use Rattle.pq_inputs.specs.Sources.{Sources, Table}
use Rattle.pq_rules.specs.declared.turn.Answer.{Answer}
use Rattle.pq_core.specs.Points.{Point}
use Rattle.pq_core.specs.Replies.{ReplyView}
use Rattle.pq_core.specs.Changes.{ChangeView}
use Rattle.pq_core.specs.Works.{DoneView, WorkView}
use Rattle.pq_core.specs.Ledger.{Place, Waiting, Running, Ready, Put, Dropped, Fate, Ledger, Client, Entry, with_client, with_entry, with_entries, place_closed, entry_closed, opened}
use Rattle.pq_core.specs.Kept.{InputsKept}
use Rattle.pq_core.specs.Moves.{Opens, Accepts, Edits, TurnsEntry, Turns, TurnsIf, Withdraws, WithdrawsEntry, Starts, LooksFor, Gives, Starves, Releases, Closes, TakesOut, RunAt, Runs, NoneRuns, IsOf, IsMade, changed, edited, is_turn, first_place, new_entry, place_ended, ended, with_out, out_of}
use Rattle.pq_core.specs.declared.values.request.Request.{Request}
use Rattle.pq_core.specs.declared.values.request.Want.{Want}
use Rattle.pq_core.specs.declared.values.request.Want.TheVariants.{Demand, Fixed}
use Rattle.pq_core.specs.declared.values.outcome.Outcome.{Outcome}
use Rattle.pq_core.specs.declared.values.fault.OpenRefused.{OpenRefused}
use Rattle.pq_core.specs.declared.values.fault.AcceptRefused.{AcceptRefused}
use Rattle.pq_core.specs.declared.values.fault.EditRefused.{EditRefused}
use Rattle.pq_core.specs.declared.values.fault.WithdrawFault.{WithdrawFault}
use Rattle.pq_core.specs.declared.values.label.Label.{Label}
use Rattle.pq_core.specs.declared.values.moves.Move.{Move}
use Rattle.pq_core.specs.declared.values.moves.Move.TheVariants.{Carry, Blocked, Stepped as MoveStepped, Answered as MoveAnswered, Stopped as MoveStopped}
use Rattle.pq_core.specs.declared.values.moves.Released.{Released}
use Rattle.pq_core.specs.declared.values.moves.Released.TheVariants.{Put as ReleasedPut, Full as ReleasedFull, Gone as ReleasedGone, Nothing as ReleasedNothing}
use Rattle.pq_core.proofs.Lists.{some_one, none_some, get_longer, get_within, get_there, set_same, set_other, same_or_other}
use Rattle.pq_play.specs.aux.Running.{Run, run_in, run_of, run_among, run_at, RunsKept, IsKeptFor, OutOf, IsPut, IsSame, KeepsMove}

same_place : (d k c n : ℕ) → ((d ≡ c) × (k ≡ n)) ⊎ (d ≡ c → k ≡ n → ⊥)
same_place d k c n =
    elim (same_or_other d c) [
      | inl e ↦ elim (same_or_other k n) [ inl f ↦ inl (e, f) | inr g ↦ inr (λ _ f. g f) ]
      | inr g ↦ inr (λ e _. g e)
    ]

ended_none : {K V M : Type 0} (b : Bool) (reply : ReplyView K V M) → run_in (place_ended b reply) ≡ None
ended_none true reply = refl
ended_none false reply = refl

none_first : {K : Type 0} (V M : Type 0) (c n : ℕ) (request : Request K) (revision : ℕ) (want : Want K) → run_in {V = V} {M = M} (first_place c n request revision want) ≡ None
none_first V M c n request revision (Demand key) = refl
none_first V M c n request revision (Fixed text) = refl

no_less : (a b : ℕ) → b ≡ a → a ≤ b
no_less a b e = omega arith

one_more : (a b : ℕ) → b ≡ a + 1 → a ≤ b
one_more a b e = omega arith

known_on : (r a b : ℕ) → r < a → a ≤ b → r < b
known_on r a b h e = omega arith

module _ {K : Type 0} where
  -- where a run is afterwards, it was before
  abbrev pub Fewer : Option (Run K) → Option (Run K) → Type 0
  Fewer before_it after_it = (a : Run K) → after_it ≡ Some a → before_it ≡ Some a

  fewer_same : (x y : Option (Run K)) → y ≡ x → Fewer x y
  fewer_same x y e a h = sym e ∙ h

  fewer_none : (x y : Option (Run K)) → y ≡ None → Fewer x y
  fewer_none x y e a h = absurd (none_some a (sym e ∙ h))

module _ {K V M : Type 0} where
  none_new : (es : List (Entry K V M)) (entry : Entry K V M) (k : ℕ) → run_in entry.place ≡ None → run_of (slice_get (es ++ entry ∷ []) k) ≡ run_of (slice_get es k)
  none_new [] entry zero e = e
  none_new [] entry (suc k) e = refl
  none_new (x ∷ es) entry zero e = refl
  none_new (x ∷ es) entry (suc k) e = none_new es entry k e

  same_closed : (place : Place K V M) → run_in (place_closed place) ≡ run_in place
  same_closed Waiting = refl
  same_closed (Running run started out) = refl
  same_closed (Ready reply) = refl
  same_closed Put = refl
  same_closed Dropped = refl

  runs_closed : (es : List (Entry K V M)) (k : ℕ) → run_of (slice_get (map entry_closed es) k) ≡ run_of (slice_get es k)
  runs_closed [] k = refl
  runs_closed (x ∷ es) zero = same_closed x.place
  runs_closed (x ∷ es) (suc k) = runs_closed es k

  runs_moved : (es : List (Entry K V M)) (n : ℕ) (entry other : Entry K V M) → slice_get es n ≡ Some entry → run_in other.place ≡ run_in entry.place → (k : ℕ) → run_of (slice_get (slice_set es n other) k) ≡ run_of (slice_get es k)
  runs_moved [] n entry other h e k = refl
  runs_moved (x ∷ es) zero entry other h e zero = e ∙ ap (λ (y : Entry K V M). run_in y.place) (sym (some_one x entry h))
  runs_moved (x ∷ es) zero entry other h e (suc k) = refl
  runs_moved (x ∷ es) (suc n) entry other h e zero = refl
  runs_moved (x ∷ es) (suc n) entry other h e (suc k) = runs_moved es n entry other h e k

  fewer_entries : (xs ys : List (Entry K V M)) → length ys ≡ length xs → ((n : ℕ) (x y : Entry K V M) → slice_get xs n ≡ Some x → slice_get ys n ≡ Some y → Fewer (run_in x.place) (run_in y.place))
      → (k : ℕ) → Fewer (run_of (slice_get xs k)) (run_of (slice_get ys k))
  fewer_entries xs ys long each k a h = of_after (slice_get ys k) refl h
    where
      of_after : (it : Option (Entry K V M)) → slice_get ys k ≡ it → run_of it ≡ Some a → run_of (slice_get xs k) ≡ Some a
      of_after None e g = absurd (none_some a g)
      of_after (Some y) e g =
          let f : k < length ys = get_within ys k y e in
          let same : length ys ≡ length xs = long in
          let x = get_there xs k (omega arith) in
          ap run_of x.1 ∙ each k x.0 y x.1 e a g

module _ {K V M O : Type 0} where
  fewer_clients : (xs ys : List (Client K V M O)) → length ys ≡ length xs
      → ((c : ℕ) (x y : Client K V M O) → slice_get xs c ≡ Some x → slice_get ys c ≡ Some y → (k : ℕ) → Fewer (run_of (slice_get x.entries k)) (run_of (slice_get y.entries k)))
      → (c k : ℕ) → Fewer (run_at xs c k) (run_at ys c k)
  fewer_clients xs ys long each c k a h = of_after (slice_get ys c) refl h
    where
      of_after : (it : Option (Client K V M O)) → slice_get ys c ≡ it → run_among it k ≡ Some a → run_at xs c k ≡ Some a
      of_after None e g = absurd (none_some a g)
      of_after (Some y) e g =
          let f : c < length ys = get_within ys c y e in
          let same : length ys ≡ length xs = long in
          let x = get_there xs c (omega arith) in
          ap (λ (z : Option (Client K V M O)). run_among z k) x.1 ∙ each c x.0 y x.1 e k a g

  -- a turn ends the run of a request, if it is in one, and a withdrawal as well
  fewer_turned : (l : Ledger K V M O) (c n : ℕ) (is_open : Bool) (x y : Entry K V M) → TurnsEntry l c n is_open x y → Fewer (run_in x.place) (run_in y.place)
  fewer_turned l c n is_open x y (inl t) = fewer_none (run_in x.place) (run_in y.place) (ap (λ (e : Entry K V M). run_in e.place) t.4 ∙ ended_none is_open _)
  fewer_turned l c n is_open x y (inr t) = fewer_same (run_in x.place) (run_in y.place) (ap (λ (e : Entry K V M). run_in e.place) t.1)

  fewer_withdrawn : (l : Ledger K V M O) (c : ℕ) (label : Label) (n : ℕ) (x y : Entry K V M) → WithdrawsEntry l c label n x y → Fewer (run_in x.place) (run_in y.place)
  fewer_withdrawn l c label n x y (inl w) = fewer_none (run_in x.place) (run_in y.place) (ap (λ (e : Entry K V M). run_in e.place) w.1)
  fewer_withdrawn l c label n x y (inr w) = fewer_same (run_in x.place) (run_in y.place) (ap (λ (e : Entry K V M). run_in e.place) w.1)

module _ {K V M O : Type 0} where
  -- the history of `l` is the first of that of `m`
  pub record Grows (l m : Ledger K V M O) : Type 0 where
    pub grows : (j : ℕ) (files : Sources) → slice_get l.inputs.history j ≡ Some files → slice_get m.inputs.history j ≡ Some files

  -- the runs are those of the same requests
  pub record SameRuns (l m : Ledger K V M O) : Type 0 where
    pub at : (c n : ℕ) → run_at m.clients c n ≡ run_at l.clients c n
    pub runs : m.runs ≡ l.runs
    pub history : Grows l m

  -- the runs are those of the same requests, or over
  pub record FewerRuns (l m : Ledger K V M O) : Type 0 where
    pub at : (c n : ℕ) (a : Run K) → run_at m.clients c n ≡ Some a → run_at l.clients c n ≡ Some a
    pub runs : m.runs ≡ l.runs
    pub history : Grows l m

  pub fewer : (l m : Ledger K V M O) → SameRuns l m → FewerRuns l m
  fewer l m s = record { at = λ c n a h. sym (s.at c n) ∙ h; runs = s.runs; history = s.history }

  pub fewer_then : (l u m : Ledger K V M O) → FewerRuns l u → FewerRuns u m → FewerRuns l m
  fewer_then l u m s t = record {
    at = λ c n a h. s.at c n a (t.at c n a h);
    runs = t.runs ∙ s.runs;
    history = record { grows = λ j files h. t.history.grows j files (s.history.grows j files h) };
  }

  -- the run of one request is another
  pub record SetRun (l m : Ledger K V M O) (c n : ℕ) (new : Option (Run K)) : Type 0 where
    pub grown : l.runs ≤ m.runs
    pub here : run_at m.clients c n ≡ new
    pub other : (d k : ℕ) → (d ≡ c → k ≡ n → ⊥) → run_at m.clients d k ≡ run_at l.clients d k
    pub history : Grows l m

  pub history_of : (l m : Ledger K V M O) → m.inputs ≡ l.inputs → Grows l m
  history_of l m e = record { grows = λ j files h. ap (λ (t : Table). slice_get t.history j) e ∙ h }

  moved : (xs : List (Client K V M O)) (d k c n : ℕ) → d ≡ c → k ≡ n → run_at xs d k ≡ run_at xs c n
  moved xs d k c n e f = ap (λ (x : ℕ). run_at xs x k) e ∙ ap (λ (y : ℕ). run_at xs c y) f

  pub runs_fewer : (l m : Ledger K V M O) → RunsKept l → FewerRuns l m → RunsKept m
  runs_fewer l m k s = record {
    below = λ c n a h. let x : a.number < l.runs = k.below c n a (s.at c n a h) in let e : m.runs ≡ l.runs = s.runs in omega arith;
    once = λ c n d i a b h g e. k.once c n d i a b (s.at c n a h) (s.at d i b g) e;
  }

  -- where the run `a` was is now `new`, which is none or has its number
  module _ (l m : Ledger K V M O) (c n : ℕ) (a : Run K) (new : Option (Run K)) (was : run_at l.clients c n ≡ Some a) (s : SetRun l m c n new) (held : (b : Run K) → new ≡ Some b → b.number ≡ a.number) where
    new_here : (d k : ℕ) (b : Run K) → d ≡ c → k ≡ n → run_at m.clients d k ≡ Some b → new ≡ Some b
    new_here d k b e f h = sym s.here ∙ sym (moved m.clients d k c n e f) ∙ h

    before : (d k : ℕ) (b : Run K) → run_at m.clients d k ≡ Some b → (b0 : Run K) × (run_at l.clients d k ≡ Some b0) × (b0.number ≡ b.number)
    before d k b h =
        elim (same_place d k c n) [
          | inl w ↦ (a, moved l.clients d k c n w.0 w.1 ∙ was, sym (held b (new_here d k b w.0 w.1 h)))
          | inr ne ↦ (b, sym (s.other d k ne) ∙ h, refl)
        ]

    pub runs_set : RunsKept l → m.runs ≡ l.runs → RunsKept m
    runs_set k e = record {
      below = λ d i b h.
          let w = before d i b h in
          let x : w.0.number < l.runs = k.below d i w.0 w.1 in
          let y : w.0.number ≡ b.number = w.2 in
          let z : m.runs ≡ l.runs = e in
          omega arith;
      once = λ d i x y b b' h g same.
          let w = before d i b h in
          let v = before x y b' g in
          k.once d i x y w.0 v.0 w.1 v.1 (w.2 ∙ same ∙ sym v.2);
    }

module _ {K V M O : Type 0} where
  -- no work of the run `r` is out
  abbrev pub NoneOutOf : Ledger K V M O → ℕ → Type 0
  NoneOutOf l r = (c n : ℕ) (a : Run K) → run_at l.clients c n ≡ Some a → a.number ≡ r → a.out ≡ None

  -- a run whose work is not out, or that is over
  outs_none : (l m : Ledger K V M O) (c n : ℕ) (a : Run K) (new : Option (Run K)) → RunsKept l → run_at l.clients c n ≡ Some a → SetRun l m c n new → ((b : Run K) → new ≡ Some b → b.number ≡ a.number)
      → ((b : Run K) → new ≡ Some b → b.out ≡ None) → NoneOutOf m a.number
  outs_none l m c n a new k was s held idle = λ d i b h e. elim (same_place d i c n) [
    | inl w ↦ idle b (new_here l m c n a new was s held d i b w.0 w.1 h)
    | inr apart ↦ let u = k.once d i c n b a (sym (s.other d i apart) ∙ h) was e in absurd (apart u.0 u.1)
  ]

module _ {R K P V M O : Type 0} (rules : R) where
  pub outs_fewer : (l m : Ledger K V M O) (r : ℕ) (kept : Option (DoneView R K P V)) → FewerRuns l m → OutOf rules l r kept → OutOf rules m r kept
  outs_fewer l m r None s x = λ c n a h e. x c n a (s.at c n a h) e
  outs_fewer l m r (Some done) s x = record {
    run_same = x.run_same;
    rules_same = x.rules_same;
    files = s.history.grows done.started done.files x.files;
    known = known_on r l.runs m.runs x.known (no_less l.runs m.runs s.runs);
    of_run = λ c n a h e. x.of_run c n a (s.at c n a h) e;
  }

  outs_other : (l m : Ledger K V M O) (c n : ℕ) (a : Run K) (new : Option (Run K)) → run_at l.clients c n ≡ Some a → SetRun l m c n new → ((b : Run K) → new ≡ Some b → b.number ≡ a.number)
      → (r : ℕ) (kept : Option (DoneView R K P V)) → r ≢ a.number → OutOf rules l r kept → OutOf rules m r kept
  outs_other l m c n a new was s held r None ne x = λ d k b h e. elim (same_place d k c n) [
    | inl w ↦ absurd (ne (sym e ∙ held b (new_here l m c n a new was s held d k b w.0 w.1 h)))
    | inr apart ↦ x d k b (sym (s.other d k apart) ∙ h) e
  ]
  outs_other l m c n a new was s held r (Some done) ne x = record {
    run_same = x.run_same;
    rules_same = x.rules_same;
    files = s.history.grows done.started done.files x.files;
    known = known_on r l.runs m.runs x.known s.grown;
    of_run = λ d k b h e. elim (same_place d k c n) [
      | inl w ↦ absurd (ne (sym e ∙ held b (new_here l m c n a new was s held d k b w.0 w.1 h)))
      | inr apart ↦ x.of_run d k b (sym (s.other d k apart) ∙ h) e
    ];
  }

  pub outs_set : (l m : Ledger K V M O) (c n : ℕ) (a : Run K) (new : Option (Run K)) (run : ℕ) (kept : Option (DoneView R K P V)) (dones after_it : ℕ → Option (DoneView R K P V)) → run_at l.clients c n ≡ Some a → a.number ≡ run → SetRun l m c n new
      → ((b : Run K) → new ≡ Some b → b.number ≡ a.number) → IsPut dones after_it run kept → ((r : ℕ) → OutOf rules l r (dones r)) → OutOf rules m run kept → (r : ℕ) → OutOf rules m r (after_it r)
  outs_set l m c n a new run kept dones after_it was number s held p o mine r =
      elim (same_or_other r run) [
        | inl e ↦ subst (λ (x : ℕ). OutOf rules m x (after_it x)) (sym e) (subst (OutOf rules m run) (sym p.here) mine)
        | inr ne ↦ subst (OutOf rules m r) (sym (p.others r ne)) (outs_other l m c n a new was s held r (dones r) (λ e. ne (e ∙ number)) (o r))
      ]

  -- nothing is kept for a run whose work is not out
  idle_none : (l : Ledger K V M O) (c n : ℕ) (a : Run K) (run : ℕ) (kept : Option (DoneView R K P V)) → RunsKept l → run_at l.clients c n ≡ Some a → a.number ≡ run → a.out ≡ None → OutOf rules l run kept → kept ≡ None
  idle_none l c n a run None k was number idle x = refl
  idle_none l c n a run (Some done) k was number idle x = absurd (none_some (out_of done) (sym idle ∙ (x.of_run c n a was number).1))

module _ {K V M O : Type 0} where
  -- where a run is
  pub was_at : (l : Ledger K V M O) (run : ℕ) (at : RunAt K V M O) → Runs l run at → run_at l.clients at.c at.n ≡ Some (record { number = run; started = at.started; out = at.out })
  was_at l run at r =
      ap (λ (x : Option (Client K V M O)). run_among x at.n) r.is_entry.client_here ∙ ap run_of r.is_entry.here ∙ ap run_in r.runs

  runs_there : (l : Ledger K V M O) (c n : ℕ) (a : Run K) → run_at l.clients c n ≡ Some a → (at : RunAt K V M O) × Runs l a.number at × (at.started ≡ a.started) × (at.out ≡ a.out)
  runs_there l c n a h = of_client (slice_get l.clients c) refl h
    where
      of_place : (client : Client K V M O) (entry : Entry K V M) (place : Place K V M) → slice_get l.clients c ≡ Some client → slice_get client.entries n ≡ Some entry → entry.place ≡ place → run_in place ≡ Some a
          → (at : RunAt K V M O) × Runs l a.number at × (at.started ≡ a.started) × (at.out ≡ a.out)
      of_place client entry Waiting e f g i = absurd (none_some a i)
      of_place client entry (Running run started out) e f g i =
          let same : record { number = run; started = started; out = out } ≡ a = some_one _ a i in (
            record { c = c; client = client; n = n; entry = entry; started = started; out = out },
            subst (λ (x : Run K). Runs l x.number (record { c = c; client = client; n = n; entry = entry; started = started; out = out })) same
                (record { is_entry = record { client_here = e; here = f }; runs = g }),
            ap (λ (x : Run K). x.started) same,
            ap (λ (x : Run K). x.out) same,
          )
      of_place client entry (Ready reply) e f g i = absurd (none_some a i)
      of_place client entry Put e f g i = absurd (none_some a i)
      of_place client entry Dropped e f g i = absurd (none_some a i)

      of_entry : (client : Client K V M O) (entry : Option (Entry K V M)) → slice_get l.clients c ≡ Some client → slice_get client.entries n ≡ entry → run_of entry ≡ Some a
          → (at : RunAt K V M O) × Runs l a.number at × (at.started ≡ a.started) × (at.out ≡ a.out)
      of_entry client None e f i = absurd (none_some a i)
      of_entry client (Some entry) e f i = of_place client entry entry.place e f refl i

      of_client : (client : Option (Client K V M O)) → slice_get l.clients c ≡ client → run_among client n ≡ Some a
          → (at : RunAt K V M O) × Runs l a.number at × (at.started ≡ a.started) × (at.out ≡ a.out)
      of_client None e i = absurd (none_some a i)
      of_client (Some client) e i = of_entry client (slice_get client.entries n) e refl i

  -- ---- what moves do to the runs

  clients_of : (l m : Ledger K V M O) → m ≡ l → m.clients ≡ l.clients
  clients_of l m e = ap (λ (x : Ledger K V M O). x.clients) e

  inputs_of : (l m : Ledger K V M O) → m ≡ l → m.inputs ≡ l.inputs
  inputs_of l m e = ap (λ (x : Ledger K V M O). x.inputs) e

  count_of : (l m : Ledger K V M O) → m ≡ l → m.runs ≡ l.runs
  count_of l m e = ap (λ (x : Ledger K V M O). x.runs) e

  pub same_as : (l m : Ledger K V M O) → m ≡ l → SameRuns l m
  same_as l m e = record {
    at = λ c n. ap (λ (xs : List (Client K V M O)). run_at xs c n) (clients_of l m e);
    runs = count_of l m e;
    history = history_of l m (inputs_of l m e);
  }

  -- a client is another with the same runs
  same_set : (l m : Ledger K V M O) (c : ℕ) (client other : Client K V M O) → slice_get l.clients c ≡ Some client → ((k : ℕ) → run_of (slice_get other.entries k) ≡ run_of (slice_get client.entries k))
      → m ≡ with_client l c other → SameRuns l m
  same_set l m c client other here f e = record {
    at = λ d k. ap (λ (xs : List (Client K V M O)). run_at xs d k) (clients_of _ m e) ∙ elim (same_or_other d c) [
      | inl g ↦
          ap (λ (x : ℕ). run_at (slice_set l.clients c other) x k) g ∙ ap (λ (x : Option (Client K V M O)). run_among x k) (set_same l.clients c other (get_within l.clients c client here))
          ∙ f k ∙ sym (ap (λ (x : Option (Client K V M O)). run_among x k) here) ∙ ap (λ (x : ℕ). run_at l.clients x k) (sym g)
      | inr ne ↦ ap (λ (x : Option (Client K V M O)). run_among x k) (set_other l.clients c other d ne)
    ];
    runs = count_of _ m e;
    history = history_of l m (inputs_of _ m e);
  }

  -- a request of a client is in another place
  set_entry : (l m : Ledger K V M O) (c : ℕ) (client : Client K V M O) (n : ℕ) (entry other : Entry K V M) → slice_get l.clients c ≡ Some client → slice_get client.entries n ≡ Some entry
      → m.clients ≡ slice_set l.clients c (with_entry client n other) → m.inputs ≡ l.inputs → l.runs ≤ m.runs → SetRun l m c n (run_in other.place)
  set_entry l m c client n entry other here at e i grown =
      let now : (k : ℕ) → run_at m.clients c k ≡ run_of (slice_get (slice_set client.entries n other) k) = λ k.
      ap (λ (xs : List (Client K V M O)). run_at xs c k) e ∙ ap (λ (x : Option (Client K V M O)). run_among x k) (set_same l.clients c (with_entry client n other) (get_within l.clients c client here)) in
      record {
        grown = grown;
        here = now n ∙ ap run_of (set_same client.entries n other (get_within client.entries n entry at));
        other = λ d k ne. elim (same_or_other d c) [
          | inl g ↦
              ap (λ (x : ℕ). run_at m.clients x k) g ∙ now k ∙ ap run_of (set_other client.entries n other k (λ f. ne g f))
              ∙ sym (ap (λ (x : Option (Client K V M O)). run_among x k) here) ∙ ap (λ (x : ℕ). run_at l.clients x k) (sym g)
          | inr apart ↦ ap (λ (xs : List (Client K V M O)). run_at xs d k) e ∙ ap (λ (x : Option (Client K V M O)). run_among x k) (set_other l.clients c (with_entry client n other) d apart)
        ];
        history = history_of l m i;
      }

  none_opened : (xs : List (Client K V M O)) (o : O) (c n : ℕ) → run_at (xs ++ opened o ∷ []) c n ≡ run_at xs c n
  none_opened [] o zero n = refl
  none_opened [] o (suc c) n = refl
  none_opened (x ∷ xs) o zero n = refl
  none_opened (x ∷ xs) o (suc c) n = none_opened xs o c n

  pub runs_opens : (outbox : O) (answer : Result ℕ (OpenRefused O)) (l m : Ledger K V M O) → Opens outbox answer l m → SameRuns l m
  runs_opens outbox (Ok c) l m s = record {
    at = λ d k. ap (λ (xs : List (Client K V M O)). run_at xs d k) (clients_of _ m s.2) ∙ none_opened l.clients outbox d k;
    runs = count_of _ m s.2;
    history = history_of l m (inputs_of _ m s.2);
  }
  runs_opens outbox (Err refused) l m s = same_as l m s.2

  pub runs_accepts : (puts : O → List (ReplyView K V M)) (c : ℕ) (request : Request K) (answer : Result ℕ (AcceptRefused K)) (l m : Ledger K V M O) → Accepts puts c request answer l m → SameRuns l m
  runs_accepts puts c request (Ok n) l m s = same_set l m c s.0 _ s.1.here (λ k. none_new s.0.entries (new_entry c n request l.inputs.revision) k (none_first V M c n request l.inputs.revision request.want)) s.4
  runs_accepts puts c request (Err refused) l m s = same_as l m s.2

  runs_turned : (l m : Ledger K V M O) → Turns l m → FewerRuns l m
  runs_turned l m t = record {
    at = fewer_clients l.clients m.clients t.long (λ c x y g i.
        let w = t.each c x y g i in
        fewer_entries x.entries y.entries w.long (λ n e f p q. fewer_turned l c n x.is_open e f (w.each n e f p q)));
    runs = t.runs;
    history = history_of l m t.inputs;
  }

  runs_turned_if : (test : Bool) (l m : Ledger K V M O) → TurnsIf test l m → FewerRuns l m
  runs_turned_if true l m t = runs_turned l m t
  runs_turned_if false l m t = fewer l m (same_as l m t)

  same_edited : (l : Ledger K V M O) (change : ChangeView) → SameRuns l (edited l change)
  same_edited l change = record {
    at = λ d k. refl;
    runs = refl;
    history = record { grows = λ j files h. get_longer l.inputs.history ((changed l.inputs change).files ∷ []) j files h };
  }

  pub runs_edits : (c : ℕ) (change : ChangeView) (answer : Result ℕ EditRefused) (l m : Ledger K V M O) → Edits c change answer l m → FewerRuns l m
  runs_edits c change (Ok revision) l m s =
      fewer_then l (edited l change) m (fewer l (edited l change) (same_edited l change)) (runs_turned_if (is_turn revision) (edited l change) m s.4)
  runs_edits c change (Err refused) l m s = fewer l m (same_as l m s.2)

  -- a client has other requests, with fewer runs
  fewer_set : (l : Ledger K V M O) (c : ℕ) (client other : Client K V M O) → slice_get l.clients c ≡ Some client → ((k : ℕ) → Fewer (run_of (slice_get client.entries k)) (run_of (slice_get other.entries k)))
      → FewerRuns l (with_client l c other)
  fewer_set l c client other here f = record {
    at = λ d k a h. elim (same_or_other d c) [
      | inl g ↦
          ap (λ (x : ℕ). run_at l.clients x k) g ∙ ap (λ (x : Option (Client K V M O)). run_among x k) here
          ∙ f k a (sym (ap (λ (x : Option (Client K V M O)). run_among x k) (set_same l.clients c other (get_within l.clients c client here))) ∙ sym (ap (λ (x : ℕ). run_at (slice_set l.clients c other) x k) g) ∙ h)
      | inr ne ↦ sym (ap (λ (x : Option (Client K V M O)). run_among x k) (set_other l.clients c other d ne)) ∙ h
    ];
    runs = refl;
    history = record { grows = λ j files h. h };
  }

  pub runs_withdraws : (c : ℕ) (label : Label) (answer : Result Bool WithdrawFault) (l m : Ledger K V M O) → Withdraws c label answer l m → FewerRuns l m
  runs_withdraws c label (Ok answer) l m s =
      let client = s.0 in
      let after = s.3.0 in
      let w = s.3.1 in
      subst (FewerRuns l) (sym s.3.2)
      (fewer_set l c client (with_entries client after) s.1.here
      (fewer_entries client.entries after w.long (λ n x y p q. fewer_withdrawn l c label n x y (w.each n x y p q))))
  runs_withdraws c label (Err fault) l m s = fewer l m (same_as l m s.1)

  pub runs_releases : (puts takes : O → List (ReplyView K V M)) (was_full was_gone : O → Type 0) (c : ℕ) (answer : Released) (l m : Ledger K V M O) → Releases puts takes was_full was_gone c answer l m → SameRuns l m
  runs_releases puts takes was_full was_gone c (ReleasedPut n) l m s =
      let client = s.0.client in
      let at : slice_get client.entries n ≡ Some s.0.entry = ap (slice_get client.entries) s.2 ∙ s.1.ready.here in
      same_set l m c client _ s.1.here (runs_moved client.entries n s.0.entry _ at (ap run_in (sym s.1.ready.ready))) s.3.3
  runs_releases puts takes was_full was_gone c ReleasedFull l m s = same_set l m c s.0.client _ s.1.here (λ k. refl) s.2.3
  runs_releases puts takes was_full was_gone c ReleasedGone l m s = same_set l m c s.0.client _ s.1.here (λ k. refl) s.2.3
  runs_releases puts takes was_full was_gone c ReleasedNothing l m s = same_as l m s.1

  pub runs_closes : (c : ℕ) (answer : Option O) (l m : Ledger K V M O) → Closes c answer l m → SameRuns l m
  runs_closes c (Some o) l m s = same_set l m c s.0 _ s.1.here (runs_closed s.0.entries) s.3
  runs_closes c None l m s = same_as l m s.1

  pub runs_takes : {A : Type 0} (puts takes : O → List (ReplyView K V M)) (c : ℕ) (answer : Result Bool A) (l m : Ledger K V M O) → TakesOut puts takes c answer l m → SameRuns l m
  runs_takes puts takes c (Ok true) l m s = same_set l m c s.0 _ s.1.here (λ k. refl) s.2.3
  runs_takes puts takes c (Ok false) l m s = same_as l m s.1
  runs_takes puts takes c (Err failure) l m s = same_as l m s

module _ {K V M O : Type 0} where
  runs_started : (l m : Ledger K V M O) (c n : ℕ) (b0 : Run K) → b0.number ≡ l.runs → m.runs ≡ l.runs + 1 → SetRun l m c n (Some b0) → RunsKept l → RunsKept m
  runs_started l m c n b0 number count s k =
      let at : (d i : ℕ) (b : Run K) → run_at m.clients d i ≡ Some b → ((d ≡ c) × (i ≡ n) × (b.number ≡ l.runs)) ⊎ (run_at l.clients d i ≡ Some b) = λ d i b h. elim (same_place d i c n) [
        | inl w ↦ inl (w.0, w.1, ap (λ (y : Run K). y.number) (sym (some_one b0 b (sym s.here ∙ sym (moved m.clients d i c n w.0 w.1) ∙ h))) ∙ number)
        | inr apart ↦ inr (sym (s.other d i apart) ∙ h)
      ] in
      record {
        below = λ d i b h.
            let e : m.runs ≡ l.runs + 1 = count in
            elim (at d i b h) [
              | inl w ↦ let f : b.number ≡ l.runs = w.2 in omega arith
              | inr g ↦ let f : b.number < l.runs = k.below d i b g in omega arith
            ];
        once = λ d i x y b b' h g same.
            let z : b.number ≡ b'.number = same in
            elim (at d i b h) [
              | inl w ↦ elim (at x y b' g) [
                | inl v ↦ (w.0 ∙ sym v.0, w.1 ∙ sym v.1)
                | inr v ↦ let f : b.number ≡ l.runs = w.2 in let u : b'.number < l.runs = k.below x y b' v in absurd (omega arith)
              ]
              | inr w ↦ elim (at x y b' g) [
                | inl v ↦ let f : b'.number ≡ l.runs = v.2 in let u : b.number < l.runs = k.below d i b w in absurd (omega arith)
                | inr v ↦ k.once d i x y b b' w v same
              ]
            ];
      }

module _ {R K P V M O : Type 0} (rules : R) where
  -- the runs are kept, and so is what is out
  abbrev pub Ran : Ledger K V M O → (ℕ → Option (DoneView R K P V)) → Type 0
  Ran l dones = RunsKept l × ((r : ℕ) → OutOf rules l r (dones r))

  pub ran_fewer : (l m : Ledger K V M O) (dones after_it : ℕ → Option (DoneView R K P V)) → FewerRuns l m → IsSame dones after_it → Ran l dones → Ran m after_it
  ran_fewer l m dones after_it s same x =
      (runs_fewer l m x.0 s, λ r. subst (OutOf rules m r) (sym (same r)) (outs_fewer rules l m r (dones r) s (x.1 r)))

  pub ran_same : (l m : Ledger K V M O) (dones after_it : ℕ → Option (DoneView R K P V)) → SameRuns l m → IsSame dones after_it → Ran l dones → Ran m after_it
  ran_same l m dones after_it s same x = ran_fewer l m dones after_it (fewer l m s) same x

  ran_ended : (l m : Ledger K V M O) (run : ℕ) (at : RunAt K V M O) (fate : Fate) (outcome : Outcome K V M) (dones after_it : ℕ → Option (DoneView R K P V)) → Runs l run at → m ≡ ended l at fate outcome
      → IsPut dones after_it run None → Ran l dones → Ran m after_it
  ran_ended l m run at fate outcome dones after_it r e p x =
      let a : Run K = record { number = run; started = at.started; out = at.out } in
      let new : Option (Run K) = run_in (place_ended at.client.is_open _) in
      let none : new ≡ None = ended_none at.client.is_open _ in
      let s : SetRun l m at.c at.n new = set_entry l m at.c at.client at.n at.entry _ r.is_entry.client_here r.is_entry.here (clients_of _ m e) (inputs_of _ m e) (no_less l.runs m.runs (count_of _ m e)) in
      let was = was_at l run at r in
      let held : (b : Run K) → new ≡ Some b → b.number ≡ a.number = λ b h. absurd (none_some b (sym none ∙ h)) in (
        runs_set l m at.c at.n a new was s held x.0 (count_of _ m e),
        outs_set rules l m at.c at.n a new run None dones after_it was refl s held p x.1
            (outs_none l m at.c at.n a new x.0 was s held (λ b h. absurd (none_some b (sym none ∙ h)))),
      )

  -- the work that is out of a run is none
  ran_idle : (l m : Ledger K V M O) (run : ℕ) (at : RunAt K V M O) (dones after_it : ℕ → Option (DoneView R K P V)) → Runs l run at → m ≡ with_out l run at None
      → IsPut dones after_it run None → Ran l dones → Ran m after_it
  ran_idle l m run at dones after_it r e p x =
      let a : Run K = record { number = run; started = at.started; out = at.out } in
      let b0 : Run K = record { number = run; started = at.started; out = None } in
      let s : SetRun l m at.c at.n (Some b0) = set_entry l m at.c at.client at.n at.entry _ r.is_entry.client_here r.is_entry.here (clients_of _ m e) (inputs_of _ m e) (no_less l.runs m.runs (count_of _ m e)) in
      let was = was_at l run at r in
      let held : (b : Run K) → Some b0 ≡ Some b → b.number ≡ a.number = λ b h. ap (λ (y : Run K). y.number) (sym (some_one b0 b h)) in (
        runs_set l m at.c at.n a (Some b0) was s held x.0 (count_of _ m e),
        outs_set rules l m at.c at.n a (Some b0) run None dones after_it was refl s held p x.1
            (outs_none l m at.c at.n a (Some b0) x.0 was s held (λ b h. ap (λ (y : Run K). y.out) (sym (some_one b0 b h)))),
      )

  -- nothing is out of a run that does not exist
  pub ran_none : (l m : Ledger K V M O) (run : ℕ) (dones after_it : ℕ → Option (DoneView R K P V)) → NoneRuns l run → m ≡ l → IsPut dones after_it run None → Ran l dones → Ran m after_it
  ran_none l m run dones after_it none e p x =
      let idle : NoneOutOf l run = λ c n a h g. let w = runs_there l c n a h in absurd (none w.0 (subst (λ (i : ℕ). Runs l i w.0) g w.1)) in
      let here : (r : ℕ) → OutOf rules l r (after_it r) = λ r. elim (same_or_other r run) [
        | inl f ↦ subst (λ (i : ℕ). OutOf rules l i (after_it i)) (sym f) (subst (OutOf rules l run) (sym p.here) idle)
        | inr ne ↦ subst (OutOf rules l r) (sym (p.others r ne)) (x.1 r)
      ] in
      subst (λ (y : Ledger K V M O). Ran y after_it) (sym e) (x.0, here)

  -- nothing was kept for a run whose work is not out
  put_idle : (l : Ledger K V M O) (run : ℕ) (at : RunAt K V M O) (dones after_it : ℕ → Option (DoneView R K P V)) → Runs l run at → at.out ≡ None → IsSame dones after_it → Ran l dones → IsPut dones after_it run None
  put_idle l run at dones after_it r idle same x = record {
    here = same run ∙ idle_none rules l at.c at.n _ run (dones run) x.0 (was_at l run at r) refl idle (x.1 run);
    others = λ q ne. same q;
  }

  -- the result of work that is handed out is kept
  ran_handed : (l m : Ledger K V M O) (run : ℕ) (at : RunAt K V M O) (done : DoneView R K P V) (dones after_it : ℕ → Option (DoneView R K P V)) → Runs l run at → m ≡ with_out l run at (Some (out_of done))
      → done.rules ≡ rules → done.run ≡ run → done.started ≡ at.started → slice_get l.inputs.history done.started ≡ Some done.files
      → IsPut dones after_it run (Some done) → Ran l dones → Ran m after_it
  ran_handed l m run at done dones after_it r e own same started files p x =
      let a : Run K = record { number = run; started = at.started; out = at.out } in
      let b0 : Run K = record { number = run; started = at.started; out = Some (out_of done) } in
      let s : SetRun l m at.c at.n (Some b0) = set_entry l m at.c at.client at.n at.entry _ r.is_entry.client_here r.is_entry.here (clients_of _ m e) (inputs_of _ m e) (no_less l.runs m.runs (count_of _ m e)) in
      let was = was_at l run at r in
      let held : (b : Run K) → Some b0 ≡ Some b → b.number ≡ a.number = λ b h. ap (λ (y : Run K). y.number) (sym (some_one b0 b h)) in (
        runs_set l m at.c at.n a (Some b0) was s held x.0 (count_of _ m e),
        outs_set rules l m at.c at.n a (Some b0) run (Some done) dones after_it was refl s held p x.1
            (record {
              run_same = same;
              rules_same = own;
              files = s.history.grows done.started done.files files;
              known = known_on run l.runs m.runs (x.0.below at.c at.n a was) s.grown;
              of_run = λ d k b h g. elim (same_place d k at.c at.n) [
                | inl w ↦
                    let it : b0 ≡ b = some_one b0 b (new_here l m at.c at.n a (Some b0) was s held d k b w.0 w.1 h) in
                    (started ∙ ap (λ (y : Run K). y.started) it, ap (λ (y : Run K). y.out) (sym it))
                | inr apart ↦ let u = x.0.once d k at.c at.n b a (sym (s.other d k apart) ∙ h) was g in absurd (apart u.0 u.1)
              ];
            }),
      )

  pub ran_looks : (means : M → Point → K → Answer K V → Type 0) (run : ℕ) (move : Move (WorkView R K P V)) (l m : Ledger K V M O) (dones after_it : ℕ → Option (DoneView R K P V)) → InputsKept l.inputs
      → LooksFor means rules run (Ok move) l m → KeepsMove run move dones after_it → Ran l dones → Ran m after_it
  ran_looks means run (Carry work) l m dones after_it i s p x =
      let h = s.2 in
      let now : work.done.started ≡ l.inputs.revision = h.started ∙ s.1.current.now in
      ran_handed l m run s.0 work.done dones after_it s.1.runs s.3 h.rules_same h.run_same h.started
      (ap (slice_get l.inputs.history) now ∙ i.latest ∙ ap (λ (y : Sources). Some y) (sym h.files_same))
      (subst (λ (y : ℕ). IsPut dones after_it y (Some work.done)) h.run_same p) x
  ran_looks means run (Blocked other) l m dones after_it i s p x = ran_same l m dones after_it (same_as l m s.4) p x
  ran_looks means run MoveStepped l m dones after_it i s p x = ran_same l m dones after_it (same_as l m s.2) p x
  ran_looks means run MoveAnswered l m dones after_it i s p x =
      ran_ended l m run s.0 _ _ dones after_it s.1.runs s.2.3 (put_idle l run s.0 dones after_it s.1.runs s.1.idle p x) x
  ran_looks means run MoveStopped l m dones after_it i s p x = ran_ended l m run s.0 _ _ dones after_it s.1 s.3 p x

  pub ran_gives : (run : ℕ) (done : DoneView R K P V) (move : Move (WorkView R K P V)) (l m : Ledger K V M O) (dones after_it : ℕ → Option (DoneView R K P V))
      → Gives run done (Ok move) l m → IsPut dones after_it run None → Ran l dones → Ran m after_it
  ran_gives run done (Carry work) l m dones after_it s p x = absurd s
  ran_gives run done (Blocked other) l m dones after_it s p x = absurd s
  ran_gives run done MoveStepped l m dones after_it s p x = ran_idle l m run s.0 dones after_it s.1 s.4 p x
  ran_gives run done MoveAnswered l m dones after_it s p x = absurd s
  ran_gives run done MoveStopped l m dones after_it s p x = ran_ended l m run s.0 _ _ dones after_it s.1 s.4 p x

  pub ran_starves : (run : ℕ) (answer : Bool) (l m : Ledger K V M O) (dones after_it : ℕ → Option (DoneView R K P V)) → Starves run answer l m → IsPut dones after_it run None → Ran l dones → Ran m after_it
  ran_starves run true l m dones after_it s p x = ran_ended l m run s.0 _ _ dones after_it s.1 s.2 p x
  ran_starves run false l m dones after_it s p x = ran_none l m run dones after_it s.0 s.1 p x

  outs_started : (l m : Ledger K V M O) (c n : ℕ) (b0 : Run K) (r : ℕ) (kept : Option (DoneView R K P V)) → b0.number ≡ l.runs → SetRun l m c n (Some b0) → b0.out ≡ None → OutOf rules l r kept → OutOf rules m r kept
  outs_started l m c n b0 r None number s idle x = λ d k b h e. elim (same_place d k c n) [
    | inl w ↦ ap (λ (y : Run K). y.out) (sym (some_one b0 b (sym s.here ∙ sym (moved m.clients d k c n w.0 w.1) ∙ h))) ∙ idle
    | inr apart ↦ x d k b (sym (s.other d k apart) ∙ h) e
  ]
  outs_started l m c n b0 r (Some done) number s idle x = record {
    run_same = x.run_same;
    rules_same = x.rules_same;
    files = s.history.grows done.started done.files x.files;
    known = known_on r l.runs m.runs x.known s.grown;
    of_run = λ d k b h e. elim (same_place d k c n) [
      | inl w ↦
          let f : b.number ≡ l.runs = ap (λ (y : Run K). y.number) (sym (some_one b0 b (sym s.here ∙ sym (moved m.clients d k c n w.0 w.1) ∙ h))) ∙ number in
          let g : b.number ≡ r = e in
          let u : r < l.runs = x.known in
          absurd (omega arith)
      | inr apart ↦ x.of_run d k b (sym (s.other d k apart) ∙ h) e
    ];
  }

  pub ran_starts : (answer : Option ℕ) (l m : Ledger K V M O) (dones : ℕ → Option (DoneView R K P V)) → Starts answer l m → Ran l dones → Ran m dones
  ran_starts (Some run) l m dones s x =
      let c = s.0 in
      let client = s.1 in
      let n = s.2 in
      let entry = s.3 in
      let ie = s.4.is_entry in
      let b0 : Run K = record { number = run; started = l.inputs.revision; out = None } in
      let set : SetRun l m c n (Some b0) = set_entry l m c client n entry _ ie.client_here ie.here (clients_of _ m s.6) (inputs_of _ m s.6) (one_more l.runs m.runs (count_of _ m s.6)) in
      (runs_started l m c n b0 s.5 (count_of _ m s.6) set x.0, λ r. outs_started l m c n b0 r (dones r) s.5 set refl (x.1 r))
  ran_starts None l m dones s x = ran_same l m dones dones (same_as l m s.1) (λ q. refl) x

  -- a result that is kept for a run is that of its work, if the run exists
  pub given_of : (l : Ledger K V M O) (run : ℕ) (done : DoneView R K P V) → IsKeptFor rules l run done → (at : RunAt K V M O) → Runs l run at → IsOf run at done
  given_of l run done x at r =
      let w = x.of_run at.c at.n (record { number = run; started = at.started; out = at.out }) (was_at l run at r) refl in
      record { run_same = x.run_same; started = w.0; out = w.1 }

  pub made_of : (l : Ledger K V M O) (run : ℕ) (done : DoneView R K P V) → InputsKept l.inputs → IsKeptFor rules l run done → IsMade rules l.inputs done
  made_of l run done i x = λ now.
      (x.rules_same, some_one done.files l.inputs.files (sym x.files ∙ ap (slice_get l.inputs.history) now ∙ i.latest))

module _ {K V M O : Type 0} where
  pub none_given : (l : Ledger K V M O) (run : ℕ) → NoneOutOf l run → (at : RunAt K V M O) → Runs l run at → at.out ≡ None
  none_given l run x at r = x at.c at.n (record { number = run; started = at.started; out = at.out }) (was_at l run at r) refl

module _ {R K P V M O : Type 0} where
  -- where a result is taken, the run exists
  pub given_at : (run : ℕ) (done : DoneView R K P V) (move : Move (WorkView R K P V)) (l m : Ledger K V M O) → Gives run done (Ok move) l m → (at : RunAt K V M O) × Runs l run at × IsOf run at done
  given_at run done (Carry work) l m s = absurd s
  given_at run done (Blocked other) l m s = absurd s
  given_at run done MoveStepped l m s = (s.0, s.1, s.2)
  given_at run done MoveAnswered l m s = absurd s
  given_at run done MoveStopped l m s = (s.0, s.1, s.2)
