-- Whether requests wait and runs exist, at what a store keeps.
use Rattle.std.proofs.Common.{◌≡◌, ◌==◌, ◌↔◌, ℕ, Bool, true, false, List, [], ◌∷◌, length, Option, Some, None, refl, sym, ◌∙◌, ap, subst, inl, arith, not, eq-eqb}
use Rattle.std.proofs.lemmas.Bool.{eqb-true}
use Rattle.std.specs.Option.{option_map}
use Rattle.std.specs.declared.cmp.Ordering.{Ordering}
use Rattle.pq_rules.specs.Turns.{Machine}
use Rattle.pq_core.proofs.Calling.{open_of, none_runs, run_at}
use Rattle.pq_core.proofs.AccountStanding.{waiting_there, stage_at}
use Rattle.pq_core.specs.Points.{Point}
use Rattle.pq_core.specs.Replies.{ReplyView}
use Rattle.pq_core.specs.Ledger.{Place, Entry, Client, Ledger}
use Rattle.pq_core.specs.RightReply.{answer_by}
use Rattle.pq_core.specs.Moves.{Waits, NoneWaits, NoneRuns}
use Rattle.pq_core.specs.Stores.{Held, fields_of, run_seen, StandsOf}
use Rattle.pq_core.specs.aux.Rising.{found}
use Rattle.pq_core.specs.Accounts.{AccountView, IsStage}
use Rattle.pq_core.specs.aux.Accounts.{AccountStands}
use Rattle.pq_core.specs.aux.Stands.{IsOwedNothing}
use Rattle.pq_core.specs.aux.Runs.{RunView}
use Rattle.pq_core.specs.aux.Queue.{WaitsIn, IsQueue}
use Rattle.pq_core.specs.declared.values.request.Request.{Request}
use Rattle.pq_core.specs.declared.store.account.Stage.TheVariants.{Waiting}

pub not_both : (t : Bool) → t ≡ false → t ≡ true → ⊥
not_both t e f = cc

pub not_true : (t : Bool) → not t ≡ true → t ≡ false
not_true true e = sym e
not_true false e = refl

not_false : (t : Bool) → not t ≡ false → t ≡ true
not_false true e = refl
not_false false e = sym e

pub true_not : (t : Bool) → (t ≡ true → ⊥) → not t ≡ true
true_not true f = absurd (f refl)
true_not false f = refl

pub all_true : (t : Bool) → ((t ≡ true → ⊥) → ⊥) → t ≡ true
all_true true f = refl
all_true false f = absurd (f (λ e. not_both false refl e))

-- a list without a length is empty
pub no_length : {A : Type 0} (xs : List A) → length xs ≡ 0 → xs ≡ []
no_length [] h = refl
no_length (x ∷ xs) h = absurd (omega arith)

-- ---- rest

module _ {K P V M O : Type 0} (order : K → K → Ordering) (m : Machine K P V) (point : M → Point) (puts : O → List (ReplyView K V M)) where
  -- a request that waits does so in the account of its client
  pub waits_seen : (b : Held K P V M) (l : Ledger K V M O) (c : ℕ) (client : Client K V M O) (n : ℕ) (entry : Entry K V M) → StandsOf order m point puts b l → Waits l c client n entry
      → WaitsIn b.accounts c n entry.request
  waits_seen b l c client n entry s w = by_flag client.is_open refl
    where
      by_flag : (flag : Bool) → client.is_open ≡ flag → WaitsIn b.accounts c n entry.request
      by_flag true e =
          let x = (s.each c client w.is_entry.client_here).seat e in
          record {
            account = x.0;
            here = x.1;
            accepted = entry.accepted;
            waits = waiting_there puts (answer_by order m point) l.inputs c x.0 client n entry (s.kept.clients c client w.is_entry.client_here) x.2 w.is_entry.here w.waits;
          }
      by_flag false e = absurd (subst (λ (p : Place K V M). IsOwedNothing p) w.waits ((s.each c client w.is_entry.client_here).dropped e n entry w.is_entry.here))

  -- a request that waits in its account waits
  pub stage_waits : (b : Held K P V M) (l : Ledger K V M O) (c n accepted : ℕ) (account : AccountView K V M) (request : Request K) → StandsOf order m point puts b l
      → found b.accounts c ≡ Some account → IsStage account n (Waiting request accepted)
      → (client : Client K V M O) × (entry : Entry K V M) × Waits l c client n entry × (entry.request ≡ request) × (client.is_open ≡ true) × AccountStands puts account client × (entry.accepted ≡ accepted)
  stage_waits b l c n accepted account request s here waits =
      let w = open_of (AccountStands puts) (answer_by order m point) puts (fields_of b) l c account s here in
      let e = stage_at puts account w.0 n (Waiting request accepted) w.2 waits in
      (w.0, e.entry, record { is_entry = record { client_here = w.1.here; here = e.here }; waits = e.stands.0 }, e.stands.1, w.1.open_yet, w.2, e.stands.2)

  pub waits_not_idle : (b : Held K P V M) (queue : List (ℕ × ℕ)) (l : Ledger K V M O) → IsQueue b.accounts queue → (queue ≡ [] → ⊥) → StandsOf order m point puts b l → NoneWaits l → ⊥
  waits_not_idle b [] l q some s none = some refl
  waits_not_idle b (seat ∷ queue) l q some s none =
      let y = q.waits seat.0 seat.1 (inl refl) in
      let x = stage_waits b l seat.0 seat.1 y.1.accepted y.1.account y.0 s y.1.here y.1.waits in
      none seat.0 x.0 seat.1 x.1 x.2

  pub runs_not_idle : (b : Held K P V M) (l : Ledger K V M O) → StandsOf order m point puts b l → (((r : ℕ) → found b.runs r ≡ None) → ⊥) → ((run : ℕ) → NoneRuns l run) → ⊥
  runs_not_idle b l s some none = some (λ r. none_at r (found b.runs r) refl)
    where
      none_at : (r : ℕ) (run : Option (RunView K P)) → found b.runs r ≡ run → found b.runs r ≡ None
      none_at r None e = e
      none_at r (Some run) e =
          let x = run_at (AccountStands puts) (answer_by order m point) puts (fields_of b) l r (run_seen run) s (ap (option_map run_seen) e) in
          absurd (none r x.0 x.1)

  -- no request waits where the queue is empty
  none_seen : (b : Held K P V M) (l : Ledger K V M O) → StandsOf order m point puts b l → IsQueue b.accounts [] → NoneWaits l
  none_seen b l s waits c client n entry w = waits.queued c n entry.request (waits_seen b l c client n entry s w)

  -- whether a request waits, by the test of the queue's length
  pub waiting_tells : (b : Held K P V M) (queue : List (ℕ × ℕ)) (l : Ledger K V M O) (empty : Bool) → empty ≡ (length queue == 0) → IsQueue b.accounts queue → StandsOf order m point puts b l
      → (not empty ≡ false) ↔ NoneWaits l
  waiting_tells b [] l empty e q s = (λ t. none_seen b l s q, λ none. ap (λ (t : Bool). not t) (e ∙ eq-eqb 0 0 refl))
  waiting_tells b (seat ∷ queue) l empty e q s = (
    λ t. let none : length (seat ∷ queue) ≡ 0 = eqb-true (length (seat ∷ queue)) 0 (sym e ∙ not_false empty t) in absurd (omega arith),
    λ none. absurd (waits_not_idle b (seat ∷ queue) l q (λ z. cc) s none),
  )

  pub all_idle : (b : Held K P V M) (l : Ledger K V M O) → StandsOf order m point puts b l → IsQueue b.accounts []
      → ((r : ℕ) → found b.runs r ≡ None) → NoneWaits l × ((run : ℕ) → NoneRuns l run)
  all_idle b l s waits runs = (
    none_seen b l s waits,
    λ r. none_runs (AccountStands puts) (answer_by order m point) puts (fields_of b) l r s (ap (option_map run_seen) (runs r)),
  )
