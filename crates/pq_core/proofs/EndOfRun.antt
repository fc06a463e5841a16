-- The one end of a run, by cases on why it ends.
use Rattle.std.proofs.Common.{◌≡◌, ℕ, ◌<◌, ◌≤◌, ◌==◌, if◌then◌else◌, List, [], Some, None, refl, sym, ◌∙◌, ap, subst, inl, inr, true, arith}
use Rattle.std.specs.declared.cmp.Ordering.{Ordering}
use Rattle.pq_inputs.specs.Sources.{Table}
use Rattle.pq_rules.specs.Turns.{Machine}
use Rattle.pq_rules.specs.declared.turn.Answer.{Answer as AnswerOf}
use Rattle.pq_rules.proofs.Weight.{Exact}
use Rattle.pq_memo.specs.Table.{memo_at}
use Rattle.pq_core.specs.Points.{Point}
use Rattle.pq_core.specs.Replies.{ReplyView}
use Rattle.pq_core.specs.Ledger.{Ledger, WasStarved, WasWithdrawn}
use Rattle.pq_core.specs.Kept.{IsDemand, Kept}
use Rattle.pq_core.specs.Moves.{Reaches, RunAt, Runs, Starves, ended}
use Rattle.pq_core.specs.RightReply.{IsTrueOutcome, answer_by}
use Rattle.pq_core.specs.Accounts.{AccountView}
use Rattle.pq_core.specs.Starts.{IsCounted, IsCountedIn, Log}
use Rattle.pq_core.specs.Stores.{Held, StandsOf, StoreView}
use Rattle.pq_core.specs.aux.Rising.{found}
use Rattle.pq_core.specs.aux.Runs.{RunView, RunsKept, FramesKept, out_at}
use Rattle.pq_core.specs.aux.RunEnds.{EndsBy, FitsEnd, IsLateFor, IsReplyDue, MayEnd, log_ended_in, reply_by}
use Rattle.pq_core.specs.declared.runs.frames.Top.{Top}
use Rattle.pq_core.specs.declared.store.rising.Place.{Place}
use Rattle.pq_core.specs.declared.steps.run_end.Ending.{Ending}
use Rattle.pq_core.specs.declared.steps.run_end.Ending.TheVariants.{Stopped, Answered, Starved, Withdrawn}
use Rattle.pq_core.specs.declared.values.outcome.Outcome.TheVariants.{Cancelled, Starved as OutcomeStarved, Withdrawn as OutcomeWithdrawn}
use Rattle.pq_core.specs.declared.values.request.Want.{Want}
use Rattle.pq_core.specs.declared.values.request.Want.TheVariants.{Demand, Fixed}
use Rattle.pq_core.proofs.Keeping.{kept_end, kept_starves, runs_placed}
use Rattle.pq_core.proofs.Lists.{some_one}
use Rattle.pq_core.proofs.Renewed.{renewed_same}
use Rattle.pq_core.proofs.RulesBegun.{none_begun}
use Rattle.pq_core.proofs.StoreCounting.{Taken, answered_counted, lost_counted}
use Rattle.pq_core.proofs.StoreRunning.{EndsIn, SameBut, answer_moved, end_moved, run_here, stop_moved, told_answer}

module _ {R K P V M : Type 0} (order : K → K → Ordering) (point : M → Point) where
  -- the run that may end is the one that is there
  pub may_fits : (m : Machine K P V) (store : StoreView R K P V M) (r : ℕ) (ending : Ending K V M) (run : RunView K P) → MayEnd order m point store r ending → found store.runs.items r ≡ Some run
      → FitsEnd order m point store.inputs store.accounts.items run ending
  may_fits m store r ending run may here =
      subst (λ (x : RunView K P). FitsEnd order m point store.inputs store.accounts.items x ending) (some_one may.0 run (sym may.1 ∙ here)) may.2

  -- its reply is due
  pub reply_due : (machine : R → Machine K P V) (rules : R) (inputs : Table) (accounts : List (Place (AccountView K V M))) (run : RunView K P) (ending : Ending K V M) (now : ℕ) → now ≡ inputs.revision
      → FitsEnd order (machine rules) point inputs accounts run ending → IsReplyDue order machine point now accounts run ending
  reply_due machine rules inputs accounts run Stopped now is fits =
      (rules, elim fits [ inl late ↦ inl (subst (λ (n : ℕ). run.started < n) (sym is) late) | inr shut ↦ inr shut ])
  reply_due machine rules inputs accounts run (Answered answer stamp) now is fits =
      (rules, told_answer order machine rules point inputs run.client run.number now run.request run.request answer stamp refl fits.2 fits.3 is)
  reply_due machine rules inputs accounts run Starved now is fits = (rules, tt)
  reply_due machine rules inputs accounts run Withdrawn now is fits = (rules, tt)

module _ {K V M O : Type 0} (means : M → Point → K → AnswerOf K V → Type 0) (puts : O → List (ReplyView K V M)) where
  withdrawn_true : (inputs : Table) (a : ℕ) (want : Want K) → IsDemand want → a ≤ inputs.revision → IsTrueOutcome means inputs a WasWithdrawn want inputs.revision OutcomeWithdrawn
  withdrawn_true inputs a (Demand key) d h = (refl, h, omega arith)
  withdrawn_true inputs a (Fixed text) d h = absurd d

  -- a run is withdrawn
  pub kept_withdrawn_run : (l : Ledger K V M O) (run : ℕ) (at : RunAt K V M O) → Kept means puts l → Runs l run at → Kept means puts (ended l at WasWithdrawn OutcomeWithdrawn)
  kept_withdrawn_run l run at k runs =
      let placed = runs_placed means puts l run at k runs in
      let a : at.entry.accepted ≤ at.started = placed.2 in
      let b : at.started ≤ l.inputs.revision = placed.3 in
      kept_end means puts l run at WasWithdrawn OutcomeWithdrawn k runs (withdrawn_true l.inputs at.entry.accepted at.entry.request.want placed.1 (omega arith))

module _ {R K P V M O : Type 0} (order : K → K → Ordering) (m : Machine K P V) (point : M → Point) (puts : O → List (ReplyView K V M)) (rules : R) (b a : Held K P V M) (l : Ledger K V M O) (r : ℕ)
    (run : RunView K P) where
  -- the ledger goes on as the run ends
  pub ends_moved : (ending : Ending K V M) → StandsOf order m point puts b l → found b.runs r ≡ Some run → FitsEnd order m point b.inputs b.accounts run ending
      → ((k : ℕ) → found a.runs k ≡ (if k == r then None else found b.runs k))
      → ((account : AccountView K V M) → found b.accounts run.client ≡ Some account → EndsIn b.accounts a.accounts account run.client run.number (reply_by run ending b.inputs.revision))
      → (found b.accounts run.client ≡ None → (k : ℕ) → found a.accounts k ≡ found b.accounts k) → SameBut b a
      → Reaches (EndsBy (answer_by order m point) r ending) l (StandsOf order m point puts a)
  ends_moved Stopped s here fits runs set same but =
      let x = run_here order m point puts b l r run s here in
      let w = stop_moved order m point puts rules b a l r run x s here fits runs set same but in
      (ended l x.at x.at.entry.fate (Cancelled x.at.started l.inputs.revision), w.0, w.1)
  ends_moved (Answered answer stamp) s here fits runs set same but =
      answer_moved order m point puts rules b a l r run answer stamp s here fits.0 (ap (λ (t : Top K P). out_at t) fits.1) fits.2 fits.3 runs set same but
  ends_moved Starved s here fits runs set same but =
      let x = run_here order m point puts b l r run s here in
      let move : Starves r true l (ended l x.at WasStarved OutcomeStarved) = (x.at, x.runs, refl) in (
        ended l x.at WasStarved OutcomeStarved,
        move,
        end_moved order m point puts b a l r run WasStarved OutcomeStarved x s here runs set same but (kept_starves (answer_by order m point) puts r true l _ s.kept move),
      )
  ends_moved Withdrawn s here fits runs set same but =
      let x = run_here order m point puts b l r run s here in (
        ended l x.at WasWithdrawn OutcomeWithdrawn,
        (x.at, x.runs, refl),
        end_moved order m point puts b a l r run WasWithdrawn OutcomeWithdrawn x s here runs set same but (kept_withdrawn_run (answer_by order m point) puts l r x.at s.kept x.runs),
      )

module _ {R K P V M : Type 0} (order : K → K → Ordering) (exact : Exact order) (m : Machine K P V) (point : M → Point) (b : StoreView R K P V M) (a : List (Place (RunView K P))) (r : ℕ)
    (run : RunView K P) (here : found b.runs.items r ≡ Some run) (kept : RunsKept order m b.inputs (memo_at order b.places) b.claims b.runs.items)
    (set : (k : ℕ) → found a k ≡ (if k == r then None else found b.runs.items k)) (log : Log K) where
  -- the starts are bounded still
  pub ends_counted : (ending : Ending K V M) → FitsEnd order m point b.inputs b.accounts.items run ending
      → ((IsLateFor b.inputs b.accounts.items run → ⊥) → run.started ≡ b.inputs.revision)
      → IsCountedIn order m b log → IsCounted order b.inputs.revision (λ k. Taken m b.inputs.revision (memo_at order b.places) a k) (log_ended_in b r ending log)
  ends_counted Stopped fits began x =
      lost_counted order exact m b.inputs log (memo_at order b.places) (memo_at order b.places) b.runs.items a r run here b.claims kept.claimed
      (renewed_same m b.inputs.revision (memo_at order b.places) (memo_at order b.places) (λ q. refl)) set x
  ends_counted (Answered answer stamp) fits began x =
      answered_counted order exact m b.inputs log (memo_at order b.places) (memo_at order b.places) b.runs.items a r run here
      (renewed_same m b.inputs.revision (memo_at order b.places) (memo_at order b.places) (λ q. refl)) set
      (λ k begun. none_begun run.stack run.top bare fits.1 k begun) x
    where
      bare : run.stack ≡ []
      bare =
          subst (λ (t : Top K P). FramesKept order m b.inputs (memo_at order b.places) run.stack t) fits.1
          (kept.current r run here (began fits.0))
  ends_counted Starved fits began x =
      lost_counted order exact m b.inputs log (memo_at order b.places) (memo_at order b.places) b.runs.items a r run here b.claims kept.claimed
      (renewed_same m b.inputs.revision (memo_at order b.places) (memo_at order b.places) (λ q. refl)) set x
  ends_counted Withdrawn fits began x =
      lost_counted order exact m b.inputs log (memo_at order b.places) (memo_at order b.places) b.runs.items a r run here b.claims kept.claimed
      (renewed_same m b.inputs.revision (memo_at order b.places) (memo_at order b.places) (λ q. refl)) set x
