-- Starting a run, at what a store keeps.
use Rattle.std.proofs.Common.{◌≡◌, ℕ, ◌+◌, ◌≤◌, ◌^◌, ◌==◌, if◌then◌else◌, List, [], Option, Some, None, refl, sym, ◌∙◌, ap, subst, inl, inr}
use Rattle.std.specs.Option.{option_map}
use Rattle.std.specs.declared.cmp.Ordering.{Ordering}
use Rattle.pq_inputs.specs.Sources.{Table}
use Rattle.pq_rules.specs.Turns.{Machine}
use Rattle.pq_core.proofs.Changing.{if_at, if_other}
use Rattle.pq_core.proofs.Moving.{start_stands}
use Rattle.pq_core.proofs.Keeping.{kept_starts}
use Rattle.pq_core.proofs.AccountStanding.{started_stands}
use Rattle.pq_core.proofs.StoreResting.{waits_seen, stage_waits}
use Rattle.pq_core.specs.Points.{Point}
use Rattle.pq_core.specs.Replies.{ReplyView}
use Rattle.pq_core.specs.Ledger.{Entry, Client, Ledger}
use Rattle.pq_core.specs.RightReply.{answer_by}
use Rattle.pq_core.specs.Moves.{Reaches, Starts, started_at}
use Rattle.pq_core.specs.Stores.{Held, fields_of, run_seen, StandsOf}
use Rattle.pq_core.specs.aux.Rising.{found}
use Rattle.pq_core.specs.Accounts.{AccountView, IsStage, with_stage}
use Rattle.pq_core.specs.aux.Accounts.{AccountStands}
use Rattle.pq_core.specs.aux.Runs.{RunView}
use Rattle.pq_core.specs.aux.Stands.{RunSeen}
use Rattle.pq_core.specs.aux.Queue.{IsQueue}
use Rattle.pq_core.specs.declared.values.request.Request.{Request}
use Rattle.pq_core.specs.declared.store.account.Stage.TheVariants.{Waiting, Running}

-- `seen_of c n request revision` is a run at its start
abbrev pub seen_of : {K : Type 0} → ℕ → ℕ → Request K → ℕ → RunSeen K
seen_of c n request revision = record { client = c; number = n; request = request; started = revision; out = None }

module _ {K P V M O : Type 0} (order : K → K → Ordering) (m : Machine K P V) (point : M → Point) (puts : O → List (ReplyView K V M)) where
  -- the numbers of runs are used up
  pub start_full : (b : Held K P V M) (l : Ledger K V M O) → 2 ^ 64 ≤ b.started + 1 → StandsOf order m point puts b l → Reaches (Starts None) l (StandsOf order m point puts b)
  start_full b l full s = (l, (inr (subst (λ (n : ℕ). 2 ^ 64 ≤ n + 1) (sym s.started) full), refl), s)

  -- nothing waits
  pub start_none : (b : Held K P V M) (l : Ledger K V M O) → IsQueue b.accounts [] → StandsOf order m point puts b l → Reaches (Starts None) l (StandsOf order m point puts b)
  start_none b l q s = (l, (inl (λ c client n entry w. q.queued c n entry.request (waits_seen order m point puts b l c client n entry s w)), refl), s)

  -- a request that waits is started
  pub start_moved : (b a : Held K P V M) (c n accepted : ℕ) (account : AccountView K V M) (request : Request K) (made : RunView K P) (l : Ledger K V M O)
      → found b.accounts c ≡ Some account → IsStage account n (Waiting request accepted)
      → ((k : ℕ) → found a.accounts k ≡ (if k == c then Some (with_stage account n (Running (record { run = b.started; accepted = accepted }))) else found b.accounts k))
      → ((k : ℕ) → found a.runs k ≡ (if k == b.started then Some made else found b.runs k))
      → run_seen made ≡ seen_of c n request b.inputs.revision
      → a.inputs ≡ b.inputs → a.opened ≡ b.opened → a.clients ≡ b.clients → a.started ≡ b.started + 1
      → StandsOf order m point puts b l → Reaches (Starts (Some b.started)) l (StandsOf order m point puts a)
  start_moved b a c n accepted account request made l here waits accounts runs seen inputs count clients started s =
      let x = stage_waits order m point puts b l c n accepted account request s here waits in
      let client : Client K V M O = x.0 in
      let entry : Entry K V M = x.1 in
      let after : Ledger K V M O = started_at l b.started c client n entry in
      let move : Starts (Some b.started) l after = (c, client, n, entry, x.2, sym s.started, refl) in (
        after,
        move,
        start_stands (AccountStands puts) (answer_by order m point) puts (fields_of b) (fields_of a) l after c n client entry (with_stage account n (Running (record { run = b.started; accepted = accepted }))) s x.4 x.2
            (record {
              here = accounts c ∙ if_at c (Some _) (found b.accounts c);
              others = λ k ne. accounts k ∙ if_other k c (Some _) (found b.accounts k) ne;
            })
            (record { inputs = inputs; opened = count; clients = clients })
            (record {
              here =
                  ap (λ (r : Option (RunView K P)). option_map run_seen r) (runs b.started ∙ if_at b.started (Some made) (found b.runs b.started))
                  ∙ ap (λ (r : RunSeen K). Some r) (seen ∙ seen_as entry.request l.inputs.revision x.3 (ap (λ (t : Table). t.revision) s.inputs));
              others = λ k ne. ap (λ (r : Option (RunView K P)). option_map run_seen r) (runs k ∙ if_other k b.started (Some made) (found b.runs k) ne);
            })
            started
            (started_stands puts account client n accepted request entry b.started l.inputs.revision None x.5 waits x.6)
            refl
            (kept_starts (answer_by order m point) puts (Some b.started) l after s.kept move),
      )
    where
      seen_as : (other : Request K) (revision : ℕ) → other ≡ request → revision ≡ b.inputs.revision
          → seen_of c n request b.inputs.revision ≡ seen_of c n other revision
      seen_as other revision e f =
          ap (λ (y : Request K). seen_of c n y b.inputs.revision) (sym e) ∙ ap (λ (y : ℕ). seen_of c n other y) (sym f)
