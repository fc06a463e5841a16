-- A turn, one run after the other.
use Rattle.std.specs.Prelude.{Ok, unwrap_or}
use Rattle.std.proofs.Common.{◌≡◌, ℕ, ◌+◌, ◌<◌, ◌==◌, if◌then◌else◌, Bool, true, false, List, [], ◌∷◌, ◌++◌, length, slice_get, Option, Some, None, refl, sym, ◌∙◌, ap, subst, inl, inr, arith}
use Rattle.std.specs.declared.cmp.Ordering.{Ordering}
use Rattle.pq_inputs.specs.Sources.{Table, with_file}
use Rattle.pq_inputs.specs.declared.durability.Durability.{Durability}
use Rattle.pq_rules.specs.Turns.{Machine}
use Rattle.pq_rules.proofs.Weight.{Exact}
use Rattle.pq_memo.specs.Table.{memo_at}
use Rattle.pq_core.specs.Points.{Point}
use Rattle.pq_core.specs.Accounts.{AccountView}
use Rattle.pq_core.specs.Changes.{BodyView, ChangeView}
use Rattle.pq_core.specs.Replies.{ReplyView}
use Rattle.pq_core.specs.Ledger.{Out, Place, Running, Entry, Client, Ledger, moved_to}
use Rattle.pq_core.specs.Moves.{Edits, Reaches, RunAt, Runs, NoneRuns, changed, ended, ended_entry, is_turn, place_ended, text_made, turned, TurnsEntry, Turns, TurnsIf}
use Rattle.pq_core.specs.RightReply.{answer_by}
use Rattle.pq_core.specs.Starts.{IsCounted, IsCountedIn, Log}
use Rattle.pq_core.specs.Stores.{Goes, StandsFor, StoreView, held}
use Rattle.pq_core.specs.Told.{Told, told_puts}
use Rattle.pq_core.specs.declared.values.outcome.Outcome.TheVariants.{Cancelled}
use Rattle.pq_core.specs.declared.steps.run_end.Ending.TheVariants.{Stopped}
use Rattle.pq_core.specs.aux.Advancing.{AllGoOn}
use Rattle.pq_core.specs.aux.Rising.{Slots, found, numbers}
use Rattle.pq_core.specs.aux.RunEnds.{EndsBy, MayEnd}
use Rattle.pq_core.specs.aux.Runs.{RunView}
use Rattle.pq_core.specs.aux.Turning.{AreLate, EndsPlace, EndsPlaces, MayStop, PartEntry, Over, NotYet, PartClient, PartTurns, Sets}
use Rattle.pq_core.proofs.Changing.{if_at, if_other}
use Rattle.pq_core.proofs.Lists.{get_set, get_within, map_long, none_some, set_long, same_or_other, some_one}
use Rattle.pq_core.proofs.Making.{goes_by, go_on_all, go_on_same, go_on_twice}
use Rattle.pq_core.proofs.Slots.{found_somewhere, number_at}
use Rattle.pq_core.proofs.StoreCounting.{Taken, edited_counted}
use Rattle.pq_core.proofs.StoreEditing.{of_body}
use Rattle.pq_core.proofs.StoreRunning.{no_run}

module _ {K V M : Type 0} where
  abbrev running_place : ℕ → ℕ → Option (Out K) → Place K V M
  running_place r s o = Running r s o

  not_ended : (is_open : Bool) (reply : ReplyView K V M) (r s : ℕ) (o : Option (Out K)) → place_ended is_open reply ≡ running_place r s o → ⊥
  not_ended true reply r s o e = absurd (cc)
  not_ended false reply r s o e = absurd (cc)

module _ {K V M O : Type 0} where
  -- no run is over yet
  pub none_turned : (l : Ledger K V M O) → PartTurns l l
  none_turned l = record {
    inputs = refl;
    runs = refl;
    long = refl;
    each = λ c x y h g.
        let is : y ≡ x = some_one y x (sym g ∙ h) in
        record {
          outbox = ap (λ (z : Client K V M O). z.outbox) is;
          is_open = ap (λ (z : Client K V M O). z.is_open) is;
          refused = ap (λ (z : Client K V M O). z.refused) is;
          long = ap (λ (z : Client K V M O). length z.entries) is;
          each = λ n e f a b. NotYet (some_one f e (sym b ∙ (ap (λ (z : Client K V M O). slice_get z.entries n) is ∙ a)));
        };
  }

  -- the request of the run that ends
  end_entry : (l m : Ledger K V M O) (r : ℕ) (at : RunAt K V M O) (is_open : Bool) (e : Entry K V M) → m.inputs ≡ l.inputs → Runs m r at → at.client.is_open ≡ is_open
      → PartEntry l at.c at.n is_open e at.entry → PartEntry l at.c at.n is_open e (ended_entry m at at.entry.fate (Cancelled at.started m.inputs.revision))
  end_entry l m r at is_open e same runs flag (Over run started out is f) =
      absurd (not_ended is_open _ r at.started at.out (ap (λ (z : Entry K V M). z.place) (sym f) ∙ runs.runs))
  end_entry l m r at is_open e same runs flag (NotYet f) =
      Over r at.started at.out (ap (λ (z : Entry K V M). z.place) (sym f) ∙ runs.runs)
      (ap (λ (t : Table). ended_entry (record { inputs = t; clients = m.clients; runs = m.runs }) at at.entry.fate (Cancelled at.started t.revision)) same
      ∙ (ap (λ (b : Bool). moved_to at.entry (place_ended b (record { client = at.c; number = at.n; request = at.entry.request; revision = l.inputs.revision; outcome = Cancelled at.started l.inputs.revision }))) flag
      ∙ ap (λ (z : Entry K V M). turned l at.c at.n is_open at.started z) f))

  -- one more run is over
  pub one_turned : (l m : Ledger K V M O) (r : ℕ) (at : RunAt K V M O) → PartTurns l m → Runs m r at → PartTurns l (ended m at at.entry.fate (Cancelled at.started m.inputs.revision))
  one_turned l m r at p runs = record {
    inputs = p.inputs;
    runs = p.runs;
    long = set_long m.clients at.c _ ∙ p.long;
    each = λ c x y h g. elim (get_set m.clients at.c _ c y g) [
      | inl w ↦
          let here : slice_get l.clients at.c ≡ Some x = subst (λ (i : ℕ). slice_get l.clients i ≡ Some x) w.0 h in
          let q = p.each at.c x at.client here runs.is_entry.client_here in
          subst (λ (i : ℕ). PartClient l i x y) (sym w.0)
          (subst (λ (z : Client K V M O). PartClient l at.c x z) (sym w.1)
          (record {
            outbox = q.outbox;
            is_open = q.is_open;
            refused = q.refused;
            long = set_long at.client.entries at.n _ ∙ q.long;
            each = λ n e f a b. elim (get_set at.client.entries at.n _ n f b) [
              | inl v ↦
                  subst (λ (i : ℕ). PartEntry l at.c i x.is_open e f) (sym v.0)
                  (subst (λ (z : Entry K V M). PartEntry l at.c at.n x.is_open e z) (sym v.1)
                  (end_entry l m r at x.is_open e p.inputs runs q.is_open
                  (q.each at.n e at.entry (subst (λ (i : ℕ). slice_get x.entries i ≡ Some e) v.0 a) runs.is_entry.here)))
              | inr v ↦ q.each n e f a v.1
            ];
          }))
      | inr w ↦ p.each c x y h w.1
    ];
  }

  -- one run more is over, or none
  pub part_stopped : (l m n : Ledger K V M O) → PartTurns l m → MayStop m n → PartTurns l n
  part_stopped l m n p (inl s) = subst (λ (x : Ledger K V M O). PartTurns l x) (sym s.1.3) (one_turned l m s.0 s.1.0 p s.1.1)
  part_stopped l m n p (inr e) = subst (λ (x : Ledger K V M O). PartTurns l x) (sym e) p

  -- all runs are over
  pub all_turned : (l m : Ledger K V M O) → PartTurns l m → ((r : ℕ) → NoneRuns m r) → Turns l m
  all_turned l m p none = record {
    inputs = p.inputs;
    runs = p.runs;
    long = p.long;
    each = λ c x y h g.
        let q = p.each c x y h g in
        record {
          outbox = q.outbox;
          is_open = q.is_open;
          refused = q.refused;
          long = q.long;
          each = λ n e f a b. by_part c n x.is_open y e f g b (q.each n e f a b);
        };
  }
    where
      by_part : (c n : ℕ) (is_open : Bool) (y : Client K V M O) (e f : Entry K V M) → slice_get m.clients c ≡ Some y → slice_get y.entries n ≡ Some f → PartEntry l c n is_open e f → TurnsEntry l c n is_open e f
      by_part c n is_open y e f g b (Over run started out is same) = inl (run, started, out, is, same)
      by_part c n is_open y e f g b (NotYet same) =
          inr (
            λ run started out is.
                none run (record { c = c; client = y; n = n; entry = f; started = started; out = out })
                (record { is_entry = record { client_here = g; here = b }; runs = ap (λ (z : Entry K V M). z.place) same ∙ is }),
            same,
          )

-- ---- the places of the map of runs

module _ {R K P V M : Type 0} (order : K → K → Ordering) (machine : R → Machine K P V) (point : M → Point) where
  -- a vacant place
  pub place_vacant : (s : StoreView R K P V M) (at : ℕ) → ((r : ℕ) → slice_get (numbers s.runs.items) at ≡ Some r → found s.runs.items r ≡ None) → EndsPlace order machine point s s at
  place_vacant s at none = record {
    rules = refl;
    inputs = refl;
    places = refl;
    numbered = refl;
    over = none;
    left = λ r. inr refl;
    goes_on = go_on_same s.accounts.items s.accounts.items (λ k. refl);
    stops = λ l h. (l, inr refl, h);
  }

  -- the run in a place may be stopped
  pub late_ends : (s : StoreView R K P V M) (r : ℕ) → (run : RunView K P) × (found s.runs.items r ≡ Some run) → AreLate s → MayEnd order (machine s.rules) point s r Stopped
  late_ends s r there late = (there.0, there.1, inl (late r there.0 there.1))

  -- the run in a place has ended
  pub place_ends : (b a : StoreView R K P V M) (at run : ℕ) → slice_get (numbers b.runs.items) at ≡ Some run → a.rules ≡ b.rules → a.inputs ≡ b.inputs → a.places ≡ b.places
      → ((r : ℕ) → found a.runs.items r ≡ (if r == run then None else found b.runs.items r)) → numbers a.runs.items ≡ numbers b.runs.items
      → AllGoOn b.accounts.items a.accounts.items → Goes order (machine b.rules) point b a (EndsBy (answer_by order (machine b.rules) point) run Stopped) → EndsPlace order machine point b a at
  place_ends b a at run here rules inputs places over numbered goes_on moved = record {
    rules = rules;
    inputs = inputs;
    places = places;
    numbered = numbered;
    over = λ r h. ap (found a.runs.items) (some_one r run (sym h ∙ here)) ∙ gone;
    left = λ r. elim (same_or_other r run) [
      | inl e ↦ inl (ap (found a.runs.items) e ∙ gone)
      | inr ne ↦ inr (over r ∙ if_other r run None (found b.runs.items r) ne)
    ];
    goes_on = goes_on;
    stops = λ l h. (let w = moved l h in (w.0, inl (run, w.1), w.2));
  }
    where
      gone : found a.runs.items run ≡ None
      gone = over run ∙ if_at run None (found b.runs.items run)

  -- no place was looked at
  pub no_places : (s : StoreView R K P V M) → EndsPlaces order machine point s s 0
  no_places s = record {
    rules = refl;
    inputs = refl;
    places = refl;
    numbered = refl;
    over = λ at r lt h. absurd (omega arith);
    left = λ r. inr refl;
    goes_on = go_on_same s.accounts.items s.accounts.items (λ k. refl);
    parts = λ l h. (l, none_turned l, h);
  }

  -- a place is one of the map now
  pub place_within : (b m : StoreView R K P V M) (at : ℕ) → numbers m.runs.items ≡ numbers b.runs.items → at < length b.runs.items → at < length m.runs.items
  place_within b m at same lt =
      let x : length (numbers m.runs.items) ≡ length (numbers b.runs.items) = ap (λ (ns : List ℕ). length ns) same in
      let y : length (numbers m.runs.items) ≡ length m.runs.items = map_long (λ p. p.number) m.runs.items in
      let z : length (numbers b.runs.items) ≡ length b.runs.items = map_long (λ p. p.number) b.runs.items in
      omega arith

  -- the runs that are left were started before the revision now
  pub late_still : (b m : StoreView R K P V M) (n : ℕ) → EndsPlaces order machine point b m n → AreLate b → AreLate m
  late_still b m n e late r run here = elim (e.left r) [
    | inl none ↦ absurd (none_some run (sym none ∙ here))
    | inr same ↦ subst (λ (t : Table). run.started < t.revision) (sym e.inputs) (late r run (sym same ∙ here))
  ]

  -- one more place
  pub more_places : (b m a : StoreView R K P V M) (n : ℕ) → EndsPlaces order machine point b m n → EndsPlace order machine point m a n → EndsPlaces order machine point b a (n + 1)
  more_places b m a n e f = record {
    rules = f.rules ∙ e.rules;
    inputs = f.inputs ∙ e.inputs;
    places = f.places ∙ e.places;
    numbered = f.numbered ∙ e.numbered;
    over = λ at r lt h. elim (same_or_other at n) [
      | inl is ↦ f.over r (ap (λ (ns : List ℕ). slice_get ns n) e.numbered ∙ (ap (λ (i : ℕ). slice_get (numbers b.runs.items) i) (sym is) ∙ h))
      | inr ne ↦ none_still r (e.over at r (omega arith) h)
    ];
    left = λ r. elim (f.left r) [
      | inl none ↦ inl none
      | inr same ↦ elim (e.left r) [ inl none ↦ inl (same ∙ none) | inr was ↦ inr (same ∙ was) ]
    ];
    goes_on = go_on_twice b.accounts.items m.accounts.items a.accounts.items e.goes_on f.goes_on;
    parts = λ l h. (
        let w = e.parts l h in
        let x = stops w.0 w.2 in
        (x.0, part_stopped l w.0 x.0 w.1 x.1, x.2));
  }
    where
      none_still : (r : ℕ) → found m.runs.items r ≡ None → found a.runs.items r ≡ None
      none_still r none = elim (f.left r) [ inl gone ↦ gone | inr same ↦ same ∙ none ]

      stops : (l : Ledger K V M (Told K V M)) → StandsFor order (machine b.rules) point m l → Reaches MayStop l (StandsFor order (machine b.rules) point a)
      stops =
          subst (λ (x : R). (l : Ledger K V M (Told K V M)) → StandsFor order (machine x) point m l → Reaches MayStop l (StandsFor order (machine x) point a)) e.rules f.stops

  -- no run is left in the places of the map
  none_left : (b a : StoreView R K P V M) → EndsPlaces order machine point b a (length b.runs.items) → (r : ℕ) → found a.runs.items r ≡ None
  none_left b a e r = by_run (found a.runs.items r) refl
    where
      by_run : (run : Option (RunView K P)) → found a.runs.items r ≡ run → found a.runs.items r ≡ None
      by_run None h = h
      by_run (Some run) h =
          let at = found_somewhere a.runs.items r run h in
          let here : slice_get (numbers a.runs.items) at.0 ≡ Some r = number_at a.runs.items at.0 _ at.1 in
          let same : slice_get (numbers b.runs.items) at.0 ≡ Some r = subst (λ (ns : List ℕ). slice_get ns at.0 ≡ Some r) e.numbered here in
          let lt : at.0 < length (numbers b.runs.items) = get_within (numbers b.runs.items) at.0 r same in
          let long : length (numbers b.runs.items) ≡ length b.runs.items = map_long (λ p. p.number) b.runs.items in
          e.over at.0 r (omega arith) same

  -- every place was looked at
  pub places_turned : (b a : StoreView R K P V M) → EndsPlaces order machine point b a (length b.runs.items)
      → (l : Ledger K V M (Told K V M)) → StandsFor order (machine b.rules) point b l → Reaches Turns l (StandsFor order (machine b.rules) point a)
  places_turned b a e l h =
      let w = e.parts l h in
      (w.0, all_turned l w.0 w.1 (λ r. no_run order (machine b.rules) point told_puts (held a) w.0 r w.2 (none_left b a e r)), w.2)

  -- the revision is a turn
  pub turned_if : (test : Bool) → test ≡ true → (b a : StoreView R K P V M) → EndsPlaces order machine point b a (length b.runs.items)
      → (l : Ledger K V M (Told K V M)) → StandsFor order (machine b.rules) point b l → Reaches (TurnsIf test) l (StandsFor order (machine b.rules) point a)
  turned_if test is b a e l h =
      let w = places_turned b a e l h in
      (w.0, subst (λ (t : Bool). TurnsIf t l w.0) (sym is) w.1, w.2)

  -- the revision is no turn
  pub not_turned : (test : Bool) → test ≡ false → (s : StoreView R K P V M) → (l : Ledger K V M (Told K V M)) → StandsFor order (machine s.rules) point s l
      → Reaches (TurnsIf test) l (StandsFor order (machine s.rules) point s)
  not_turned test is s l h = (l, subst (λ (t : Bool). TurnsIf t l l) (sym is) refl, h)

  -- an edit, and its turn
  pub edit_turned : (b m a : StoreView R K P V M) (c revision : ℕ) (change : ChangeView) → Goes order (machine b.rules) point b m (Sets c change (Ok revision))
      → m.rules ≡ b.rules → m.accounts ≡ b.accounts → AllGoOn m.accounts.items a.accounts.items
      → ((l : Ledger K V M (Told K V M)) → StandsFor order (machine m.rules) point m l → Reaches (TurnsIf (is_turn revision)) l (StandsFor order (machine m.rules) point a))
      → Goes order (machine b.rules) point b a (Edits c change (Ok revision))
  edit_turned b m a c revision change sets rules accounts goes_on turns =
      goes_by order (machine b.rules) point b a (Edits c change (Ok revision)) (go_on_all b.accounts.items a.accounts.items (subst (λ (s : Slots (AccountView K V M)). AllGoOn s.items a.accounts.items) accounts goes_on))
      (λ l h. (
      let w = sets l h in
      let x = then_turns w.0 w.2 in
      (x.0, (w.1.0, w.1.1, w.1.2, w.1.3, subst (λ (k : Ledger K V M (Told K V M)). TurnsIf (is_turn revision) k x.0) w.1.4 x.1), x.2)))
    where
      then_turns : (l : Ledger K V M (Told K V M)) → StandsFor order (machine b.rules) point m l → Reaches (TurnsIf (is_turn revision)) l (StandsFor order (machine b.rules) point a)
      then_turns =
          subst (λ (x : R). (l : Ledger K V M (Told K V M)) → StandsFor order (machine x) point m l → Reaches (TurnsIf (is_turn revision)) l (StandsFor order (machine x) point a)) rules turns

module _ {K V M O : Type 0} (l : Ledger K V M O) (c revision : ℕ) (file : List ℕ) (durability : Durability) (x y : BodyView) where
  -- an edit by another body that makes the same text is the same edit
  pub edits_as : (m : Ledger K V M O) → text_made l.inputs.files (of_body file durability x) ≡ text_made l.inputs.files (of_body file durability y)
      → Edits c (of_body file durability x) (Ok revision) l m → Edits c (of_body file durability y) (Ok revision) l m
  edits_as m same e = (
    e.0,
    e.1,
    (e.2.0, sym same ∙ e.2.1, e.2.2),
    e.3,
    subst (λ (t : Option (Option (List ℕ))). TurnsIf (is_turn revision) (after t) m) same e.4,
  )
    where
      after : Option (Option (List ℕ)) → Ledger K V M O
      after t =
          let files = with_file l.inputs.files file (record { text = unwrap_or t None; durability = durability }) in
          record { inputs = record { files = files; revision = l.inputs.revision + 1; history = l.inputs.history ++ files ∷ []; limit = l.inputs.limit }; clients = l.clients; runs = l.runs }

pub goes_edit_as : {R K P V M : Type 0} (order : K → K → Ordering) (m : Machine K P V) (point : M → Point) (b a : StoreView R K P V M) (c revision : ℕ) (file : List ℕ) (durability : Durability) (x y : BodyView)
    → text_made b.inputs.files (of_body file durability x) ≡ text_made b.inputs.files (of_body file durability y)
    → Goes order m point b a (Edits c (of_body file durability x) (Ok revision)) → Goes order m point b a (Edits c (of_body file durability y) (Ok revision))
goes_edit_as order m point b a c revision file durability x y same goes l s =
    let w = goes l s in (
      w.0,
      edits_as l c revision file durability x y w.0
          (subst (λ (t : Table). text_made t.files (of_body file durability x) ≡ text_made t.files (of_body file durability y)) (sym s.inputs) same) w.1,
      w.2,
      w.3,
    )

-- no rule is started at the revision of an edit, whichever runs are left
pub edit_counted : {R K P V M : Type 0} (order : K → K → Ordering) (exact : Exact order) (m : Machine K P V) (b a : StoreView R K P V M) (change : ChangeView) (log : Log K)
    → a.inputs ≡ changed b.inputs change → a.places ≡ b.places → IsCountedIn order m b log → IsCountedIn order m a log
edit_counted order exact m b a change log inputs places x =
    subst (λ q. IsCounted order a.inputs.revision (λ k. Taken m a.inputs.revision (memo_at order q) a.runs.items k) log) (sym places)
    (edited_counted order exact m b.inputs log a.inputs (memo_at order b.places) b.runs.items a.runs.items (ap (λ (t : Table). t.revision) inputs) x)
